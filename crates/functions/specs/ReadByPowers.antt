-- The coefficients of a function from its sums over the fibres by the powers of a primitive element a, for every member: no table of duals, but
-- Horner's rule over these powers, with the coefficient of x^i y^j at lane i·w + j.
--
--   PowersGathered g h   h holds at lane i·w + j, i not 0, the sum over k of lane a^k·w + j of g times the k-th power of a^(q − 1 − i), and for
--                        i = q − 1 lane j of g more; at lane j lane j of g
--   Mended g b h         h is b but for the first w lanes, where it is g, and for the last w, to which the first of g are added
--   mended-gathered      so it does where b comes of Horner's rule over the powers of a
--   coefficients-by-powers   so h holds the coefficients of the function whose values the sums were made of; coefficient-at-lane: that of a
--                        present order below the number of places, at its lane
use Rattle.std.specs.Prelude.{◌≡◌, List, ℕ, suc, ◌+◌, ◌-◌, ◌*◌, ◌/◌, ◌%◌, ◌<◌, ◌≤◌, T, get_or}
use Rattle.std.proofs.Common.{sym, ap, ap₂, ◌∙◌, mul-le-mul_right, arith}
use Rattle.std.proofs.Math.Nat as Nat
use Rattle.std.proofs.Math.Decide.{ℕ_discrete, dec_lt}
use Rattle.algebra.specs.Field.{add-zero, zero-mul, one-mul}
use Rattle.algebra.specs.Sum.{sum, sum-ext}
use Rattle.algebra.specs.Power.{pow}
use Rattle.algebra.specs.Coefficients.{unit, unit-at, unit-off}
use Rattle.algebra.specs.Dual.{dual}
use Rattle.galois.specs.BinaryField.{GF, K, size, power, to_f}
use Rattle.hermitian.specs.Present.{Present, divided}
use Rattle.hermitian.specs.Orders.{order, x_power, y_power, order-x, order-y, order-of}
use Rattle.family.specs.Member.{Member, places}
use Rattle.family.specs.Points.{x_below, rest_below, place_of, place-below}
use Rattle.functions.specs.Horner.{HornerTo, horner-end}
use Rattle.functions.specs.Powers.{is_primitive, dual-first, dual-next}
use Rattle.functions.specs.ByPowers.{power_lane, lane-at}
use Rattle.functions.specs.Duals.{FibreSums, coefficient_at, coefficient-sum}

module _ (𝓜 : Member) (a : ℕ) where
  open 𝓜 use {gf, w, wide}
  open K gf use {◌⊕◌, ◌⊗◌}

  -- what the k-th power of a adds at a lane, and what Horner's rule multiplies with there
  abbrev pub at_power : (ℕ → GF gf) → ℕ → ℕ → GF gf
  at_power g l k = g (power gf a k * w + l % w)

  abbrev pub factor_at : ℕ → GF gf
  factor_at l = pow (K gf) (to_f gf a) (size gf - 1 - l / w)

  pub record PowersGathered (g h : ℕ → GF gf) : Type 0 where
    pub first : (j : ℕ) → j < w → h j ≡ g j
    pub next : (i j : ℕ) → 0 < i → i < size gf → j < w
        → h (i * w + j) ≡ sum (K gf) (size gf - 1) (λ k. g (power gf a k * w + j) ⊗ pow (K gf) (pow (K gf) (to_f gf a) (size gf - 1 - i)) k) ⊕ unit (K gf) (size gf - 1) i ⊗ g j

  pub record Mended (g b h : ℕ → GF gf) : Type 0 where
    pub first : (j : ℕ) → j < w → h j ≡ g j
    pub inner : (l : ℕ) → w ≤ l → l < (size gf - 1) * w → h l ≡ b l
    pub last : (j : ℕ) → j < w → h ((size gf - 1) * w + j) ≡ b ((size gf - 1) * w + j) ⊕ g j

  pub mended-gathered : (g b h : ℕ → GF gf) → HornerTo (K gf) (places 𝓜) (at_power g) factor_at (size gf - 1) 0 b → Mended g b h → PowersGathered g h
  mended-gathered g b h t m = record { first = m.first; next = λ i j pos l hj. go i j pos l hj (ℕ_discrete i (size gf - 1)) }
    where
      -- the sum of powers at a lane
      summed : ℕ → ℕ → GF gf
      summed i j = sum (K gf) (size gf - 1) (λ k. g (power gf a k * w + j) ⊗ pow (K gf) (pow (K gf) (to_f gf a) (size gf - 1 - i)) k)

      at : (i j : ℕ) → i < size gf → j < w → b (i * w + j) ≡ summed i j
      at i j l hj =
          let e = place_of 𝓜 i j hj in
          horner-end (K gf) (places 𝓜) (at_power g) factor_at (size gf - 1) b t (i * w + j) (place-below 𝓜 i j l hj)
          ∙ sum-ext (K gf) (size gf - 1) _ _ (λ k _. ap₂ (λ r x. g (power gf a k * w + r) ⊗ pow (K gf) (pow (K gf) (to_f gf a) (size gf - 1 - x)) k) e.1 e.0)

      go : (i j : ℕ) → 0 < i → i < size gf → j < w → Dec (i ≡ size gf - 1) → h (i * w + j) ≡ summed i j ⊕ unit (K gf) (size gf - 1) i ⊗ g j
      go i j pos l hj (yes e) =
          ap (λ k. h (k * w + j)) e ∙ m.last j hj
          ∙ ap₂ (λ u v. u ⊕ v) (ap (λ k. b (k * w + j)) (sym e) ∙ at i j l hj)
          (sym (ap (λ u. u ⊗ g j) (ap (unit (K gf) (size gf - 1)) e ∙ unit-at (K gf) (size gf - 1)) ∙ one-mul (K gf) (g j)))
      go i j pos l hj (no n) =
          let low : 1 * w ≤ i * w = mul-le-mul_right {m = 1} {n = i} w pos in
          let high : suc i * w ≤ (size gf - 1) * w = mul-le-mul_right {m = suc i} {n = size gf - 1} w (omega arith) in
          m.inner (i * w + j) (omega arith) (omega arith) ∙ at i j l hj
          ∙ sym (ap (λ u. summed i j ⊕ u) (ap (λ u. u ⊗ g j) (unit-off (K gf) (size gf - 1) i n) ∙ zero-mul (K gf) (g j)) ∙ add-zero (K gf) _)

  module _ (primitive : T (is_primitive gf a)) (f g h : ℕ → GF gf) (fibres : FibreSums 𝓜 f g) (gathered : PowersGathered g h) (v : List ℕ)
      (values : (p : ℕ) → p < places 𝓜 → f p ≡ to_f gf (get_or v p 0)) where
    -- the sum over all x at the monomial x^i y^j
    sums : (i j : ℕ) → j < w
        → sum (K gf) (size gf) (λ x. g (x * w + j) ⊗ dual (K gf) (size gf - 1) i (to_f gf x)) ≡ to_f gf (coefficient_at 𝓜 v (order w i j))
    sums i j hj =
        let d = divided {w = w} {o = order w i j} (i + j) j hj (omega arith) in
        sum-ext (K gf) (size gf) _ _ (λ x _. ap₂ (λ r k. g (x * w + r) ⊗ dual (K gf) (size gf - 1) k (to_f gf x)) (sym (order-y w i j hj)) (sym (order-x w i j hj)))
        ∙ coefficient-sum 𝓜 f g fibres v values (order w i j) (omega (arith, d))

    pub coefficients-by-powers : (i j : ℕ) → i < size gf → j < w → h (i * w + j) ≡ to_f gf (coefficient_at 𝓜 v (order w i j))
    coefficients-by-powers i j l hj = go i l (dec_lt 0 i)
      where
        here : 0 * w + j ≡ j
        here = omega (arith, Nat.zero-mul w)

        go : (i : ℕ) → i < size gf → Dec (0 < i) → h (i * w + j) ≡ to_f gf (coefficient_at 𝓜 v (order w i j))
        go i l (yes pos) =
            gathered.next i j pos l hj
            ∙ ap (λ u. sum (K gf) (size gf - 1) (λ k. g (power gf a k * w + j) ⊗ pow (K gf) (pow (K gf) (to_f gf a) (size gf - 1 - i)) k) ⊕ unit (K gf) (size gf - 1) i ⊗ g u) (sym here)
            ∙ sym (dual-next gf a primitive (λ x. g (x * w + j)) i pos l) ∙ sums i j hj
        go i l (no none) =
            let z : i ≡ 0 = omega arith in
            ap (λ k. h (k * w + j)) z ∙ ap h here ∙ gathered.first j hj ∙ ap g (sym here)
            ∙ sym (dual-first gf a primitive (λ x. g (x * w + j))) ∙ sums 0 j hj
            ∙ ap (λ k. to_f gf (coefficient_at 𝓜 v (order w k j))) (sym z)

    pub coefficient-at-lane : (o : ℕ) → o < places 𝓜 → Present w o → h (power_lane w o) ≡ to_f gf (coefficient_at 𝓜 v o)
    coefficient-at-lane o l p =
        let i : ℕ = x_power w o in
        let j : ℕ = y_power w o in
        ap (λ k. h (power_lane w k)) (sym (order-of w o p)) ∙ ap h (lane-at w i j (rest_below 𝓜 o))
        ∙ coefficients-by-powers i j (omega (arith, x_below 𝓜 o l)) (rest_below 𝓜 o)
        ∙ ap (λ k. to_f gf (coefficient_at 𝓜 v k)) (order-of w o p)
