-- A field of characteristic 2, and the identities that hold in every one.
--
--   Field F     the operations and laws of a field of characteristic 2 over the carrier F, with decidable equality
--   ring        the rules by which `simp (ring, K)` decides an identity of sums and products
--   mul-swap    a product of products, factor by factor
--   add-cancel  a sum that is zero has two equal terms
--   mul-ne-zero the product of two non-zero elements is not zero
--   div-mul     a ⊗ inv b, multiplied by b, is a
use Rattle.std.specs.Prelude.{◌≡◌, refl, ◌≢◌}
use Rattle.std.proofs.Common.{sym, ap, ap₂, ◌∙◌}

pub record Field (F : Type 0) : Type 0 where
  infixl 65 ◌⊕◌
  infixl 70 ◌⊗◌
  pub ◌⊕◌ : F → F → F
  pub ◌⊗◌ : F → F → F
  pub 𝟘 : F
  pub 𝟙 : F
  pub inv : F → F
  pub same : (a b : F) → Dec (a ≡ b)
  pub plus_assoc : (a b c : F) → (a ⊕ b) ⊕ c ≡ a ⊕ (b ⊕ c)
  pub plus_comm : (a b : F) → a ⊕ b ≡ b ⊕ a
  pub plus_zero : (a : F) → a ⊕ 𝟘 ≡ a
  pub plus_self : (a : F) → a ⊕ a ≡ 𝟘
  pub times_assoc : (a b c : F) → (a ⊗ b) ⊗ c ≡ a ⊗ (b ⊗ c)
  pub times_comm : (a b : F) → a ⊗ b ≡ b ⊗ a
  pub times_one : (a : F) → a ⊗ 𝟙 ≡ a
  pub times_plus : (a b c : F) → a ⊗ (b ⊕ c) ≡ a ⊗ b ⊕ a ⊗ c
  pub times_inv : (a : F) → a ≢ 𝟘 → a ⊗ inv a ≡ 𝟙
  pub one_ne_zero : 𝟙 ≢ 𝟘

module _ {F : Type 0} (K : Field F) where
  open K use {◌⊕◌, ◌⊗◌, 𝟘, 𝟙, inv}

  pub add_assoc : (a b c : F) → (a ⊕ b) ⊕ c ≡ a ⊕ (b ⊕ c)
  add_assoc = K.plus_assoc

  pub add_comm : (a b : F) → a ⊕ b ≡ b ⊕ a
  add_comm = K.plus_comm

  pub add_left_comm : (a b c : F) → a ⊕ (b ⊕ c) ≡ b ⊕ (a ⊕ c)
  add_left_comm a b c = sym (add_assoc a b c) ∙ ap (λ x. x ⊕ c) (add_comm a b) ∙ add_assoc b a c

  pub add_right_comm : (a b c : F) → (a ⊕ b) ⊕ c ≡ (a ⊕ c) ⊕ b
  add_right_comm a b c = add_assoc a b c ∙ ap (λ x. a ⊕ x) (add_comm b c) ∙ sym (add_assoc a c b)

  pub add-zero : (a : F) → a ⊕ 𝟘 ≡ a
  add-zero = K.plus_zero

  pub zero-add : (a : F) → 𝟘 ⊕ a ≡ a
  zero-add a = add_comm 𝟘 a ∙ add-zero a

  pub add-self : (a : F) → a ⊕ a ≡ 𝟘
  add-self = K.plus_self

  pub add-self-left : (a b : F) → a ⊕ (a ⊕ b) ≡ b
  add-self-left a b = sym (add_assoc a a b) ∙ ap (λ x. x ⊕ b) (add-self a) ∙ zero-add b

  pub mul_assoc : (a b c : F) → (a ⊗ b) ⊗ c ≡ a ⊗ (b ⊗ c)
  mul_assoc = K.times_assoc

  pub mul_comm : (a b : F) → a ⊗ b ≡ b ⊗ a
  mul_comm = K.times_comm

  pub mul_left_comm : (a b c : F) → a ⊗ (b ⊗ c) ≡ b ⊗ (a ⊗ c)
  mul_left_comm a b c = sym (mul_assoc a b c) ∙ ap (λ x. x ⊗ c) (mul_comm a b) ∙ mul_assoc b a c

  pub mul-one : (a : F) → a ⊗ 𝟙 ≡ a
  mul-one = K.times_one

  pub one-mul : (a : F) → 𝟙 ⊗ a ≡ a
  one-mul a = mul_comm 𝟙 a ∙ mul-one a

  pub mul-add : (a b c : F) → a ⊗ (b ⊕ c) ≡ a ⊗ b ⊕ a ⊗ c
  mul-add = K.times_plus

  pub add-mul : (a b c : F) → (a ⊕ b) ⊗ c ≡ a ⊗ c ⊕ b ⊗ c
  add-mul a b c = mul_comm (a ⊕ b) c ∙ mul-add c a b ∙ ap₂ (λ x y. x ⊕ y) (mul_comm c a) (mul_comm c b)

  pub mul-zero : (a : F) → a ⊗ 𝟘 ≡ 𝟘
  mul-zero a = sym (add-zero (a ⊗ 𝟘)) ∙ ap (λ x. a ⊗ 𝟘 ⊕ x) (sym (add-self (a ⊗ 𝟘))) ∙ sym (add_assoc (a ⊗ 𝟘) (a ⊗ 𝟘) (a ⊗ 𝟘)) ∙ ap (λ x. x ⊕ a ⊗ 𝟘) (sym (mul-add a 𝟘 𝟘) ∙ ap (λ x. a ⊗ x) (add-zero 𝟘)) ∙ add-self (a ⊗ 𝟘)

  pub zero-mul : (a : F) → 𝟘 ⊗ a ≡ 𝟘
  zero-mul a = mul_comm 𝟘 a ∙ mul-zero a

  -- decides identities of sums and products in characteristic 2: both sides come to one sorted sum of sorted products
  pub ruleset ring = (add_assoc, add_comm, add_left_comm, add-zero, zero-add, add-self, add-self-left, mul_assoc, mul_comm, mul_left_comm, mul-one, one-mul, mul-zero, zero-mul, mul-add, add-mul)

  -- a product of products, factor by factor
  pub mul-swap : (a b c d : F) → (a ⊗ b) ⊗ (c ⊗ d) ≡ (a ⊗ c) ⊗ (b ⊗ d)
  mul-swap a b c d = simp (mul_assoc, mul_left_comm)

  pub add-cancel : (a b : F) → a ⊕ b ≡ 𝟘 → a ≡ b
  add-cancel a b e = sym (add-zero a) ∙ ap (λ x. a ⊕ x) (sym e) ∙ add-self-left a b

  pub mul-inv : (a : F) → a ≢ 𝟘 → a ⊗ inv a ≡ 𝟙
  mul-inv = K.times_inv

  pub inv-mul : (a : F) → a ≢ 𝟘 → inv a ⊗ a ≡ 𝟙
  inv-mul a h = mul_comm (inv a) a ∙ mul-inv a h

  pub mul-ne-zero : (a b : F) → a ≢ 𝟘 → b ≢ 𝟘 → a ⊗ b ≢ 𝟘
  mul-ne-zero a b ha hb e =
      hb (sym (one-mul b) ∙ ap (λ x. x ⊗ b) (sym (inv-mul a ha)) ∙ mul_assoc (inv a) a b ∙ ap (λ x. inv a ⊗ x) e ∙ mul-zero (inv a))

  pub inv-ne-zero : (a : F) → a ≢ 𝟘 → inv a ≢ 𝟘
  inv-ne-zero a h e = K.one_ne_zero (sym (mul-inv a h) ∙ ap (λ x. a ⊗ x) e ∙ mul-zero a)

  -- what divides a by b, multiplied by b again, is a
  pub div-mul : (a b : F) → b ≢ 𝟘 → (a ⊗ inv b) ⊗ b ≡ a
  div-mul a b h = mul_assoc a (inv b) b ∙ ap (λ x. a ⊗ x) (inv-mul b h) ∙ mul-one a
