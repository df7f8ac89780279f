-- Finite sums: sum K n f is f 0 ⊕ f 1 ⊕ … ⊕ f (n − 1).
--
--   sum-suc, sum-nil     the recursion, as equations
--   sum-ext              equal terms below n give equal sums
--   sum-zero             terms that are zero sum to zero
--   sum-plus, sum-scale  a sum of sums; a factor comes out, sum-scale-right from the right
--   sum-swap             two sums change places
--   sum_more             terms that are zero from n on add nothing
--   sum-append           the first m terms and the n after them
--   sum-blocks           m·n terms as m sums of n
--   sum-single           a sum with one term that is not zero is that term
use Rattle.std.specs.Prelude.{◌≡◌, ◌≢◌}
use Rattle.std.proofs.Math.Path.{refl, sym, ap, ap₂, fun_ext}
use Rattle.std.proofs.Common.{◌∙◌, ⊎_elim, lt-suc_self, eq-or-lt_of_le, le_of_suc-le-suc, add-suc, le_of_lt, add-sub_of_le, arith}
use Prim.Native.Nat.{ℕ, zero, suc, ◌+◌, ◌-◌, ◌*◌, ◌<◌, ◌≤◌}
use Rattle.std.proofs.Math.Nat.{le_step}
use Rattle.std.proofs.Math.Nat as Nat
use Rattle.std.proofs.Math.Decide.{ℕ_discrete}
use Rattle.algebra.specs.Field.{Field, add_assoc, add_comm, add_left_comm, add-zero, zero-add, mul-add, add-mul, mul-zero, zero-mul}

module _ {F : Type 0} (K : Field F) where
  open K use {◌⊕◌, ◌⊗◌, 𝟘}

  unfoldable pub sum : ℕ → (ℕ → F) → F
  sum zero f = 𝟘
  sum (suc n) f = sum n f ⊕ f n

  pub sum-nil : (f : ℕ → F) → sum 0 f ≡ 𝟘
  unfolding sum
  sum-nil f = refl

  pub sum-suc : (n : ℕ) (f : ℕ → F) → sum (suc n) f ≡ sum n f ⊕ f n
  unfolding sum
  sum-suc n f = refl

  pub sum-ext : (n : ℕ) (f g : ℕ → F) → ((k : ℕ) → k < n → f k ≡ g k) → sum n f ≡ sum n g
  unfolding sum
  sum-ext zero f g h = refl
  sum-ext (suc n) f g h = ap₂ (λ x y. x ⊕ y) (sum-ext n f g (λ k l. h k (le_step l))) (h n (lt-suc_self n))

  pub sum-zero : (n : ℕ) (f : ℕ → F) → ((k : ℕ) → k < n → f k ≡ 𝟘) → sum n f ≡ 𝟘
  unfolding sum
  sum-zero zero f h = refl
  sum-zero (suc n) f h = ap₂ (λ x y. x ⊕ y) (sum-zero n f (λ k l. h k (le_step l))) (h n (lt-suc_self n)) ∙ add-zero K 𝟘

  pub sum-plus : (n : ℕ) (f g : ℕ → F) → sum n (λ k. f k ⊕ g k) ≡ sum n f ⊕ sum n g
  unfolding sum
  sum-plus zero f g = sym (add-zero K 𝟘)
  sum-plus (suc n) f g = ap (λ x. x ⊕ (f n ⊕ g n)) (sum-plus n f g) ∙ simp (add_assoc, add_comm, add_left_comm, K)

  pub sum-scale : (n : ℕ) (a : F) (f : ℕ → F) → sum n (λ k. a ⊗ f k) ≡ a ⊗ sum n f
  unfolding sum
  sum-scale zero a f = sym (mul-zero K a)
  sum-scale (suc n) a f = ap (λ x. x ⊕ a ⊗ f n) (sum-scale n a f) ∙ sym (mul-add K a (sum n f) (f n))

  pub sum-scale-right : (n : ℕ) (a : F) (f : ℕ → F) → sum n (λ k. f k ⊗ a) ≡ sum n f ⊗ a
  unfolding sum
  sum-scale-right zero a f = sym (zero-mul K a)
  sum-scale-right (suc n) a f = ap (λ x. x ⊕ f n ⊗ a) (sum-scale-right n a f) ∙ sym (add-mul K (sum n f) (f n) a)

  pub sum-swap : (m n : ℕ) (f : ℕ → ℕ → F) → sum m (λ i. sum n (λ j. f i j)) ≡ sum n (λ j. sum m (λ i. f i j))
  sum-swap zero n f = sum-nil _ ∙ sym (sum-zero n _ (λ k l. sum-nil _))
  sum-swap (suc m) n f =
      sum-suc m _ ∙ ap (λ x. x ⊕ sum n (λ j. f m j)) (sum-swap m n f) ∙ sym (sum-plus n _ _) ∙ sum-ext n _ _ (λ j l. sym (sum-suc m (λ i. f i j)))

  -- the first m terms, and the n after them
  pub sum-append : (m n : ℕ) (f : ℕ → F) → sum (m + n) f ≡ sum m f ⊕ sum n (λ k. f (m + k))
  sum-append m zero f = ap (λ k. sum k f) (Nat.add-zero m) ∙ sym (add-zero K _) ∙ ap (λ x. sum m f ⊕ x) (sym (sum-nil _))
  sum-append m (suc n) f =
      ap (λ k. sum k f) (add-suc m n) ∙ sum-suc (m + n) f ∙ ap (λ x. x ⊕ f (m + n)) (sum-append m n f) ∙ add_assoc K _ _ _
      ∙ ap (λ x. sum m f ⊕ x) (sym (sum-suc n (λ k. f (m + k))))

  pub sum_more : (m n : ℕ) (f : ℕ → F) → m ≤ n → ((k : ℕ) → m ≤ k → k < n → f k ≡ 𝟘) → sum n f ≡ sum m f
  sum_more m n f l h =
      ap (λ k. sum k f) (sym (add-sub_of_le l)) ∙ sum-append m (n - m) f
      ∙ ap (λ x. sum m f ⊕ x) (sum-zero (n - m) _ (λ k b. h (m + k) (omega arith) (omega arith))) ∙ add-zero K _

  pub sum-single : (n i : ℕ) (f : ℕ → F) → i < n → ((k : ℕ) → k < n → k ≢ i → f k ≡ 𝟘) → sum n f ≡ f i
  sum-single n i f l h =
      sum_more (suc i) n f l (λ k a b. h k b (λ (e : k ≡ i). absurd (omega arith)))
      ∙ sum-suc i f ∙ ap (λ x. x ⊕ f i) (sum-zero i f (λ k b. h k (omega arith) (λ (e : k ≡ i). absurd (omega arith)))) ∙ zero-add K (f i)

  -- m blocks of n terms
  pub sum-blocks : (m n : ℕ) (f : ℕ → F) → sum (m * n) f ≡ sum m (λ i. sum n (λ j. f (i * n + j)))
  sum-blocks zero n f = ap (λ k. sum k f) (Nat.zero-mul n) ∙ sum-nil f ∙ sym (sum-nil _)
  sum-blocks (suc m) n f =
      ap (λ k. sum k f) (Nat.suc-mul m n) ∙ sum-append (m * n) n f ∙ ap (λ x. x ⊕ sum n (λ j. f (m * n + j))) (sum-blocks m n f)
      ∙ sym (sum-suc m _)
