-- Horner's rule: a sum of coefficients times powers, from the highest power down, for any field; and at many places at once.
--
--   tail K e y n j       the coefficients from j on, up to n of them in all, times 1, y, y² and so on, added
--   tail-start, tail-turn, tail-end    nothing; times y, and one coefficient more; all of them
--   tail-last            the last coefficient alone
--   HornerTo j b         b holds the tail from j on at each place, each place with its own coefficients and its own y
--   horner-start, horner-last, horner-turn, horner-end    the same of a loop over the powers
use Rattle.std.specs.Prelude.{◌≡◌}
use Rattle.std.proofs.Math.Path.{sym, ap, ap₂}
use Rattle.std.proofs.Common.{◌∙◌}
use Prim.Native.Nat.{ℕ, suc, ◌+◌, ◌-◌, ◌<◌}
use native.Mathlib.Omega.{arith}
use Rattle.algebra.specs.Field.{Field, add_comm, zero-add, zero-mul, mul-one, mul_assoc}
use Rattle.algebra.specs.Sum.{sum, sum-nil, sum-suc, sum-ext, sum-append, sum-scale-right}
use Rattle.algebra.specs.Power.{pow, pow-nil, pow-suc}

module _ {F : Type 0} (K : Field F) (e : ℕ → F) (y : F) (n : ℕ) where
  open K use {◌⊕◌, ◌⊗◌, 𝟘}

  unfoldable pub tail : ℕ → F
  tail j = sum K (n - j) (λ i. e (j + i) ⊗ pow K y i)

  pub tail-start : tail n ≡ 𝟘
  unfolding tail
  tail-start = let z : n - n ≡ 0 = omega arith in ap (λ k. sum K k (λ i. e (n + i) ⊗ pow K y i)) z ∙ sum-nil K _

  pub tail-turn : (j : ℕ) → j < n → tail (suc j) ⊗ y ⊕ e j ≡ tail j
  unfolding tail
  tail-turn j h =
      let first : j + 0 ≡ j = omega arith in
      let more : 1 + (n - suc j) ≡ n - j = omega arith in
      ap (λ u. u ⊕ e j) (sym (sum-scale-right K (n - suc j) y _) ∙ sum-ext K (n - suc j) _ _ (λ i l. moved i)) ∙ add_comm K _ _
      ∙ ap (λ u. u ⊕ sum K (n - suc j) (λ i. e (j + (1 + i)) ⊗ pow K y (1 + i)))
      (sym (sum-suc K 0 _ ∙ ap₂ (λ u v. u ⊕ v) (sum-nil K _) (ap₂ (λ u v. u ⊗ v) (ap e first) (pow-nil K y) ∙ mul-one K _) ∙ zero-add K _))
      ∙ sym (sum-append K 1 (n - suc j) (λ i. e (j + i) ⊗ pow K y i))
      ∙ ap (λ k. sum K k (λ i. e (j + i) ⊗ pow K y i)) more
    where
      moved : (i : ℕ) → e (suc j + i) ⊗ pow K y i ⊗ y ≡ e (j + (1 + i)) ⊗ pow K y (1 + i)
      moved i =
          let s : suc j + i ≡ j + (1 + i) = omega arith in
          let t : suc i ≡ 1 + i = omega arith in
          mul_assoc K _ _ _ ∙ ap₂ (λ u v. u ⊗ v) (ap e s) (sym (pow-suc K y i) ∙ ap (pow K y) t)

  pub tail-last : (j : ℕ) → suc j ≡ n → e j ≡ tail j
  tail-last j h =
      sym (ap (λ u. u ⊗ y ⊕ e j) (ap tail h ∙ tail-start) ∙ ap (λ u. u ⊕ e j) (zero-mul K y) ∙ zero-add K (e j)) ∙ tail-turn j (omega arith)

  pub tail-end : tail 0 ≡ sum K n (λ i. e i ⊗ pow K y i)
  unfolding tail
  tail-end =
      let all : n - 0 ≡ n = omega arith in
      ap (λ k. sum K k (λ i. e (0 + i) ⊗ pow K y i)) all
      ∙ sum-ext K n _ _ (λ i l. let own : 0 + i ≡ i = omega arith in ap (λ k. e k ⊗ pow K y i) own)

-- ---- at many places: e p i is the coefficient of the i-th power of y p
module _ {F : Type 0} (K : Field F) (places : ℕ) (e : ℕ → ℕ → F) (y : ℕ → F) (n : ℕ) where
  open K use {◌⊕◌, ◌⊗◌, 𝟘}

  pub record HornerTo (j : ℕ) (b : ℕ → F) : Type 0 where
    pub lanes : (p : ℕ) → p < places → b p ≡ tail K (e p) (y p) n j

  pub horner-start : (b : ℕ → F) → ((p : ℕ) → p < places → b p ≡ 𝟘) → HornerTo n b
  horner-start b z = record { lanes = λ p h. z p h ∙ sym (tail-start K (e p) (y p) n) }

  pub horner-last : (j : ℕ) (b : ℕ → F) → suc j ≡ n → ((p : ℕ) → p < places → b p ≡ e p j) → HornerTo j b
  horner-last j b last f = record { lanes = λ p h. f p h ∙ tail-last K (e p) (y p) n j last }

  pub horner-turn : (j : ℕ) (b next : ℕ → F) → j < n → HornerTo (suc j) b → ((p : ℕ) → p < places → next p ≡ b p ⊗ y p ⊕ e p j) → HornerTo j next
  horner-turn j b next l t f = record { lanes = λ p h. f p h ∙ ap (λ u. u ⊗ y p ⊕ e p j) (t.lanes p h) ∙ tail-turn K (e p) (y p) n j l }

  pub horner-end : (b : ℕ → F) → HornerTo 0 b → (p : ℕ) → p < places → b p ≡ sum K n (λ i. e p i ⊗ pow K (y p) i)
  horner-end b t p h = t.lanes p h ∙ tail-end K (e p) (y p) n
