-- Powers of a field element: pow K a n is a multiplied n times, 𝟙 for n = 0, also of 𝟘.
--
--   pow-nil, pow-suc   the recursion, as equations
--   pow-one            the first power is a
--   pow-plus           pow a (m + n) is pow a m ⊗ pow a n
--   pow-times          pow a (m · n) is pow (pow a m) n
--   pow-of-product     pow (a ⊗ b) n is pow a n ⊗ pow b n
--   pow-of-one, pow-ne-zero   powers of 𝟙; powers of what is not zero
use Rattle.std.specs.Prelude.{◌≡◌, ◌≢◌, ℕ, zero, suc, ◌+◌, ◌*◌}
use Rattle.std.proofs.Math.Path.{refl}
use Rattle.std.proofs.Common.{sym, ap, ap₂, ◌∙◌, add-suc, mul-suc}
use Rattle.std.proofs.Math.Nat as Nat
use Rattle.algebra.specs.Field.{Field, mul_assoc, mul-one, one-mul, mul-ne-zero, ring}

module _ {F : Type 0} (K : Field F) where
  open K use {◌⊗◌, 𝟘, 𝟙}

  unfoldable pub pow : F → ℕ → F
  pow a zero = 𝟙
  pow a (suc n) = pow a n ⊗ a

  pub pow-nil : (a : F) → pow a 0 ≡ 𝟙
  unfolding pow
  pow-nil a = refl

  pub pow-suc : (a : F) (n : ℕ) → pow a (suc n) ≡ pow a n ⊗ a
  unfolding pow
  pow-suc a n = refl

  pub pow-one : (a : F) → pow a 1 ≡ a
  unfolding pow
  pow-one a = one-mul K a

  pub pow-plus : (a : F) (m n : ℕ) → pow a (m + n) ≡ pow a m ⊗ pow a n
  pow-plus a m zero = ap (λ k. pow a k) (Nat.add-zero m) ∙ sym (mul-one K (pow a m)) ∙ ap (λ x. pow a m ⊗ x) (sym (pow-nil a))
  pow-plus a m (suc n) =
      ap (λ k. pow a k) (add-suc m n) ∙ pow-suc a (m + n) ∙ ap (λ x. x ⊗ a) (pow-plus a m n) ∙ mul_assoc K (pow a m) (pow a n) a
      ∙ ap (λ x. pow a m ⊗ x) (sym (pow-suc a n))

  pub pow-times : (a : F) (m n : ℕ) → pow a (m * n) ≡ pow (pow a m) n
  pow-times a m zero = ap (λ k. pow a k) (Nat.mul-zero m) ∙ pow-nil a ∙ sym (pow-nil (pow a m))
  pow-times a m (suc n) =
      ap (λ k. pow a k) (mul-suc m n) ∙ pow-plus a (m * n) m ∙ ap (λ x. x ⊗ pow a m) (pow-times a m n) ∙ sym (pow-suc (pow a m) n)

  pub pow-of-product : (a b : F) (n : ℕ) → pow (a ⊗ b) n ≡ pow a n ⊗ pow b n
  pow-of-product a b zero = pow-nil (a ⊗ b) ∙ sym (one-mul K 𝟙) ∙ ap₂ (λ x y. x ⊗ y) (sym (pow-nil a)) (sym (pow-nil b))
  pow-of-product a b (suc n) =
      pow-suc (a ⊗ b) n ∙ ap (λ x. x ⊗ (a ⊗ b)) (pow-of-product a b n) ∙ (simp (ring, K))
      ∙ ap₂ (λ x y. x ⊗ y) (sym (pow-suc a n)) (sym (pow-suc b n))

  pub pow-of-one : (n : ℕ) → pow 𝟙 n ≡ 𝟙
  pow-of-one zero = pow-nil 𝟙
  pow-of-one (suc n) = pow-suc 𝟙 n ∙ mul-one K (pow 𝟙 n) ∙ pow-of-one n

  pub pow-ne-zero : (a : F) (n : ℕ) → a ≢ 𝟘 → pow a n ≢ 𝟘
  pow-ne-zero a zero h e = K.one_ne_zero (sym (pow-nil a) ∙ e)
  pow-ne-zero a (suc n) h e = mul-ne-zero K (pow a n) a (pow-ne-zero a n h) h (sym (pow-suc a n) ∙ e)
