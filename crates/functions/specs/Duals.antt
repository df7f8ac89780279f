-- The coefficients of a function by order, from its values by place, for every member: sums over the fibres against the duals of the powers
-- of y, then over all x against those of the powers of x. Values and sums are functions of a place or a lane, however they are kept.
--
--   fibre_at f j x        the sum over the places with this x of the value times the dual of y^j
--   FibreSums f g        g holds that of x and j at lane x·w + j
--   x_dual o x            the dual of the power of x in the monomial of order o, as a number, and 0 for a missing order
--   Gathered g h         h holds at lane o the sum over all x of lane x·w + o % w times that
--   coefficient_at v o    the coefficient of order o of the function whose values are v, and 0 for a missing order
--   coefficients_of v     all of them, by order
--   coefficient-sum      that of a present order is the sum over all x of lane x·w + o % w times the dual of its power of x
--   coefficients-read    so h holds the coefficients by order of the function whose values f holds
use Rattle.std.specs.Prelude.{Bool, ◌≡◌, List, get_or}
use Rattle.std.proofs.Math.Bool.{true, false}
use Rattle.std.proofs.Math.Path.{sym, ap, ap₂}
use Rattle.std.proofs.Common.{◌∙◌, mod-lt, arith}
use Prim.Native.Nat.{ℕ, zero, suc, ◌+◌, ◌-◌, ◌*◌, ◌%◌, ◌<◌}
use Rattle.std.specs.Int.Bits.{bit_xor}
use Rattle.lists.specs.Listed.{listed}
use Rattle.algebra.specs.Field.{mul-zero, mul_assoc, mul_comm}
use Rattle.algebra.specs.Sum.{sum, sum-ext, sum-zero, sum-scale-right, sum-blocks}
use Rattle.algebra.specs.Coefficients.{unit, unit-at, unit-off}
use Rattle.algebra.specs.Dual.{dual}
use Rattle.galois.specs.BinaryField.{GF, K, size, power, to_f, to_f-add, to_f-zero, to_f-one, to_f-power, one-lt}
use Rattle.hermitian.specs.Present.{Present, dec_present}
use Rattle.hermitian.specs.Orders.{x_power, is_present}
use Rattle.family.specs.Member.{Member, places, py}
use Rattle.family.specs.Points.{place_of, place-below}
use Rattle.family.specs.Evaluation.{if_present, present-yes, present-no}
use Rattle.family.specs.Extraction.{at_zero, dual_at, extracted_at, extracted_at-lt, to_f-symbol_of}

module _ (𝓜 : Member) where
  open 𝓜 use {gf, w, wide}
  open K gf use {◌⊕◌, ◌⊗◌, 𝟘}

  unfoldable pub fibre_at : (ℕ → GF gf) → ℕ → ℕ → GF gf
  fibre_at f j x = sum (K gf) w (λ r. f (x * w + r) ⊗ dual (K gf) (w - 1) j (py 𝓜 (x * w + r)))

  pub record FibreSums (f g : ℕ → GF gf) : Type 0 where
    pub lanes : (x j : ℕ) → x < size gf → j < w → g (x * w + j) ≡ fibre_at f j x

  -- a dual on numbers
  unfoldable pub dual_number : ℕ → ℕ → ℕ → ℕ
  dual_number n i x = bit_xor (power gf x (n - i)) (at_zero i 1)

  pub to_f-dual : (n i x : ℕ) → to_f gf (dual_number n i x) ≡ dual (K gf) n i (to_f gf x)
  unfolding dual_number dual
  to_f-dual n i x = to_f-add gf _ _ ∙ ap₂ (λ a b. a ⊕ b) (to_f-power gf x (n - i)) (one i)
    where
      one : (i : ℕ) → to_f gf (at_zero i 1) ≡ unit (K gf) 0 i
      one zero = to_f-one gf ∙ sym (unit-at (K gf) 0)
      one (suc i) = to_f-zero gf ∙ sym (unit-off (K gf) 0 (suc i) (λ (e : suc i ≡ 0). omega arith))

  unfoldable pub x_dual : ℕ → ℕ → ℕ
  x_dual o x = if_present (is_present w o) (dual_number (size gf - 1) (x_power w o) x)

  pub record Gathered (g h : ℕ → GF gf) : Type 0 where
    pub lanes : (o : ℕ) → o < places 𝓜 → h o ≡ sum (K gf) (size gf) (λ x. g (x * w + o % w) ⊗ to_f gf (x_dual o x))

  unfoldable pub coefficient_at : List ℕ → ℕ → ℕ
  coefficient_at v o = if_present (is_present w o) (extracted_at 𝓜 v o)

  unfoldable pub coefficients_of : List ℕ → List ℕ
  coefficients_of v = listed (places 𝓜) (coefficient_at v)

  pub coefficient_at-lt : (v : List ℕ) (o : ℕ) → coefficient_at v o < size gf
  unfolding coefficient_at
  coefficient_at-lt v o = go (is_present w o)
    where
      go : (b : Bool) → if_present b (extracted_at 𝓜 v o) < size gf
      go true = extracted_at-lt 𝓜 v o
      go false = omega (arith, one-lt gf)

  module _ (f g : ℕ → GF gf) (fibres : FibreSums f g) (v : List ℕ)
      (values : (p : ℕ) → p < places 𝓜 → f p ≡ to_f gf (get_or v p 0)) where
    -- x's part of the sum, place by place
    part : (i j x : ℕ) → x < size gf → j < w
        → g (x * w + j) ⊗ dual (K gf) (size gf - 1) i (to_f gf x) ≡ sum (K gf) w (λ r. to_f gf (get_or v (x * w + r) 0) ⊗ dual_at 𝓜 i j (x * w + r))
    unfolding fibre_at dual_at
    part i j x hx hj =
        ap (λ s. s ⊗ dual (K gf) (size gf - 1) i (to_f gf x)) (fibres.lanes x j hx hj)
        ∙ sym (sum-scale-right (K gf) w (dual (K gf) (size gf - 1) i (to_f gf x)) _)
        ∙ sum-ext (K gf) w _ _ (λ r hr.
        mul_assoc (K gf) _ _ _
        ∙ ap₂ (λ a b. a ⊗ b) (values (x * w + r) (place-below 𝓜 x r hx hr))
        (mul_comm (K gf) _ _ ∙ ap (λ u. dual (K gf) (size gf - 1) i (to_f gf u) ⊗ dual (K gf) (w - 1) j (py 𝓜 (x * w + r))) (sym (place_of 𝓜 x r hr).0)))

    pub coefficient-sum : (o : ℕ) → Present w o
        → sum (K gf) (size gf) (λ x. g (x * w + o % w) ⊗ dual (K gf) (size gf - 1) (x_power w o) (to_f gf x)) ≡ to_f gf (coefficient_at v o)
    unfolding coefficient_at extracted_at
    coefficient-sum o a =
        sum-ext (K gf) (size gf) _ _ (λ x hx. part (x_power w o) (o % w) x hx (mod-lt o (omega arith)))
        ∙ sym (sum-blocks (K gf) (size gf) w (λ p. to_f gf (get_or v p 0) ⊗ dual_at 𝓜 (x_power w o) (o % w) p))
        ∙ sym (to_f-symbol_of 𝓜 v (x_power w o) (o % w))
        ∙ ap (to_f gf) (sym (present-yes 𝓜 o _ a))

    pub coefficients-read : (h : ℕ → GF gf) → Gathered g h → (o : ℕ) → o < places 𝓜 → h o ≡ to_f gf (coefficient_at v o)
    unfolding coefficient_at x_dual
    coefficients-read h gathered o l = gathered.lanes o l ∙ go (dec_present w o)
      where
        go : Dec (Present w o) → sum (K gf) (size gf) (λ x. g (x * w + o % w) ⊗ to_f gf (x_dual o x)) ≡ to_f gf (coefficient_at v o)
        go (yes a) =
            sum-ext (K gf) (size gf) _ _ (λ x hx.
            ap (λ s. g (x * w + o % w) ⊗ s) (ap (to_f gf) (present-yes 𝓜 o _ a) ∙ to_f-dual (size gf - 1) (x_power w o) x))
            ∙ coefficient-sum o a
        go (no a) =
            sum-zero (K gf) (size gf) _ (λ x hx.
            ap (λ s. g (x * w + o % w) ⊗ s) (ap (to_f gf) (present-no 𝓜 o _ a) ∙ to_f-zero gf) ∙ mul-zero (K gf) _)
            ∙ sym (ap (to_f gf) (present-no 𝓜 o _ a) ∙ to_f-zero gf)
