-- A function on the curve whose orders are below the number of places is read off its values, for every member.
--
--   coefficients-recovered    the numbers that `coefficientsOf` reads off its values are its coefficients, at every order
use Rattle.std.specs.Prelude.{◌≢◌, ◌≡◌, List, ℕ, ◌-◌, ◌<◌, ◌≤◌, get_or}
use Rattle.std.proofs.Math.Path.{sym, ap, ap₂}
use Rattle.std.proofs.Common.{◌∙◌}
use Rattle.std.proofs.Math.Decide.{dec_lt, ℕ_discrete}
use native.Mathlib.Omega.{arith}
use Rattle.std.proofs.Math.ListN.{get_or-eq_default}
use Rattle.lists.specs.Listed.{listed_at, listed-length}
use Rattle.algebra.specs.Field.{mul-zero, zero-mul, mul-one, mul_assoc}
use Rattle.algebra.specs.Sum.{sum, sum-ext, sum-scale, sum-scale-right, sum-swap, sum-single}
use Rattle.algebra.specs.Coefficients.{Below, unit, unit-at, unit-off}
use Rattle.algebra.specs.Weighted.{weighted-of}
use Rattle.galois.specs.BinaryField.{GF, K, size, to_f, to_f-zero}
use Rattle.hermitian.specs.Present.{Present, dec_present}
use Rattle.hermitian.specs.Ring.{Fn}
use Rattle.hermitian.specs.Value.{Val, monomial}
use Rattle.hermitian.specs.Orders.{order, x_power, y_power, order-of}
use Rattle.family.specs.Member.{Member, places, px, py}
use Rattle.family.specs.Points.{x_below, rest_below}
use Rattle.family.specs.Evaluation.{present-yes, present-no}
use Rattle.family.specs.Extraction.{extracted_at, dual_at, powers_at, dual-powers, to_f-symbol_of}
use Rattle.functions.specs.Duals.{coefficient_at, coefficients_of}

module _ (𝓜 : Member) {f : ℕ → GF 𝓜.gf} (fn : Fn (K 𝓜.gf) 𝓜.w f) (ends : Below (K 𝓜.gf) f (places 𝓜)) (v : List ℕ)
    (values : (p : ℕ) → p < places 𝓜 → Val (K 𝓜.gf) 𝓜.w (px 𝓜 p) (py 𝓜 p) f (to_f 𝓜.gf (get_or v p 0))) where
  open 𝓜 use {gf, w, wide}
  open K gf use {◌⊗◌, 𝟘, 𝟙}

  small : (o : ℕ) → o < places 𝓜 → x_power w o ≤ size gf - 1
  small o l = omega (arith, x_below 𝓜 o l)

  rest : (o : ℕ) → y_power w o ≤ w - 1
  rest o = omega (arith, rest_below 𝓜 o)

  -- a value, as a sum over the orders
  as-sum : (p : ℕ) → p < places 𝓜 → to_f gf (get_or v p 0) ≡ sum (K gf) (places 𝓜) (λ o. f o ⊗ monomial (K gf) w (px 𝓜 p) (py 𝓜 p) o)
  as-sum p l = sym (weighted-of (K gf) (places 𝓜) ends (values p l))

  module _ (o : ℕ) (l : o < places 𝓜) (there : Present w o) where
    i : ℕ
    i = x_power w o

    j : ℕ
    j = y_power w o

    -- what order t adds to the sum of the values times the dual of o
    part : (t : ℕ) → t < places 𝓜
        → sum (K gf) (places 𝓜) (λ p. (f t ⊗ monomial (K gf) w (px 𝓜 p) (py 𝓜 p) t) ⊗ dual_at 𝓜 i j p) ≡ f t ⊗ (unit (K gf) i (x_power w t) ⊗ unit (K gf) j (y_power w t))
    unfolding monomial powers_at i j
    part t h =
        sum-ext (K gf) (places 𝓜) _ _ (λ p k. mul_assoc (K gf) _ _ _) ∙ sum-scale (K gf) (places 𝓜) (f t) _
        ∙ ap (λ x. f t ⊗ x) (dual-powers 𝓜 (x_power w t) (y_power w t) i j (small t h) (rest t) (small o l) (rest o))

    other : (t : ℕ) → t < places 𝓜 → t ≢ o → f t ⊗ (unit (K gf) i (x_power w t) ⊗ unit (K gf) j (y_power w t)) ≡ 𝟘
    unfolding i j
    other t h n = go (dec_present w t) (ℕ_discrete (x_power w t) i) (ℕ_discrete (y_power w t) j)
      where
        go : Dec (Present w t) → Dec (x_power w t ≡ i) → Dec (y_power w t ≡ j) → f t ⊗ (unit (K gf) i (x_power w t) ⊗ unit (K gf) j (y_power w t)) ≡ 𝟘
        go (no a) d e = ap (λ x. x ⊗ (unit (K gf) i (x_power w t) ⊗ unit (K gf) j (y_power w t))) (fn.absent t a) ∙ zero-mul (K gf) _
        go (yes a) (no d) e =
            ap (λ x. f t ⊗ x) (ap (λ x. x ⊗ unit (K gf) j (y_power w t)) (unit-off (K gf) i (x_power w t) d) ∙ zero-mul (K gf) _) ∙ mul-zero (K gf) _
        go (yes a) (yes d) (no e) =
            ap (λ x. f t ⊗ x) (ap (λ x. unit (K gf) i (x_power w t) ⊗ x) (unit-off (K gf) j (y_power w t) e) ∙ mul-zero (K gf) _) ∙ mul-zero (K gf) _
        go (yes a) (yes d) (yes e) = absurd (n (sym (order-of w t a) ∙ ap₂ (order w) d e ∙ order-of w o there))

    picked : to_f gf (extracted_at 𝓜 v o) ≡ f o
    unfolding extracted_at i j
    picked =
        to_f-symbol_of 𝓜 v (x_power w o) (y_power w o)
        ∙ sum-ext (K gf) (places 𝓜) _ _ (λ p k. ap (λ x. x ⊗ dual_at 𝓜 i j p) (as-sum p k) ∙ sym (sum-scale-right (K gf) (places 𝓜) (dual_at 𝓜 i j p) _))
        ∙ sum-swap (K gf) (places 𝓜) (places 𝓜) _
        ∙ sum-ext (K gf) (places 𝓜) _ _ (λ t h. part t h)
        ∙ sum-single (K gf) (places 𝓜) o _ l (λ t h n. other t h n)
        ∙ ap (λ x. f o ⊗ x) (ap₂ (λ x y. x ⊗ y) (unit-at (K gf) i) (unit-at (K gf) j) ∙ mul-one (K gf) 𝟙)
        ∙ mul-one (K gf) (f o)

  read : (o : ℕ) → o < places 𝓜 → Dec (Present w o) → to_f gf (coefficient_at 𝓜 v o) ≡ f o
  unfolding coefficient_at
  read o l (yes a) = ap (to_f gf) (present-yes 𝓜 o _ a) ∙ picked o l a
  read o l (no a) = ap (to_f gf) (present-no 𝓜 o _ a) ∙ to_f-zero gf ∙ sym (fn.absent o a)

  pub coefficients-recovered : (o : ℕ) → to_f gf (get_or (coefficients_of 𝓜 v) o 0) ≡ f o
  unfolding coefficients_of
  coefficients-recovered o = go (dec_lt o (places 𝓜))
    where
      go : Dec (o < places 𝓜) → to_f gf (get_or (coefficients_of 𝓜 v) o 0) ≡ f o
      go (yes l) = ap (to_f gf) (listed_at (places 𝓜) o (coefficient_at 𝓜 v) 0 l) ∙ read o l (dec_present w o)
      go (no l) =
          let far : places 𝓜 ≤ o = omega arith in
          ap (to_f gf) (get_or-eq_default (coefficients_of 𝓜 v) 0 (omega (arith, listed-length (places 𝓜) (coefficient_at 𝓜 v)))) ∙ to_f-zero gf
          ∙ sym (ends.zero_from o far)
