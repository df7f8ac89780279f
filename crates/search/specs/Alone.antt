-- What sums over all places tell of a word, for every member: a codeword's are zero, and one wrong symbol alone is told by five of them.
--
--   overall v            the sum of the values at all places
--   AloneAt v e q        the sums of the values, of the values times x, times its square, times y and times its square are those of e at place q alone
--   SumsOf v all across squares   the first three of those sums, as numbers
--   PlaceAt x y r        r is the place of the point (x, y), and the number of places where it is none
--   Passed x y r, passed_start, passed-turn   none of the first r places with an x is that of the point
--   placed-here, placed-nowhere   so the next one is the place of the point, or none is
--   WrongPlace v e r     r is a place where e alone has the sums of the values, and the number of places where there is none
--   wrong-nowhere, wrong-beside, wrong-at   by the three sums, by those with y, and by the place of the point that they give
use Rattle.std.specs.Prelude.{◌≡◌, ◌≢◌, ℕ, ◌+◌, ◌*◌, ◌%◌, ◌<◌, ◌≤◌}
use Rattle.std.proofs.Common.{sym, ap, ap₂, ◌∙◌, subst, mod-eq_of_lt, mod-lt, div-add-mod', arith}
use Rattle.std.proofs.Math.Decide.{ℕ_discrete}
use Rattle.algebra.specs.Field.{div-mul, mul_comm, mul_assoc, mul-inv, mul-one}
use Rattle.algebra.specs.Sum.{sum}
use Rattle.galois.specs.BinaryField.{GF, K, times, inverse, to_f, value, value-lt, value-to_f, to_f-value, to_f-times, to_f-inverse, to_f-ne-zero, to_f-injective, times-lt, one-lt}
use Rattle.family.specs.Member.{Member, places, symbols, px, py}
use Rattle.family.specs.Curve.{x_of, y_of}
use Rattle.family.specs.Points.{x_below, rest_below, y_of-below, place_of, place-below}

module _ (𝓜 : Member) where
  open 𝓜 use {gf, w, wide}
  open K gf use {◌⊗◌, 𝟘, inv}

  unfoldable pub overall : (ℕ → GF gf) → GF gf
  overall v = sum (K gf) (places 𝓜) v

  pub record AloneAt (v : ℕ → GF gf) (e : GF gf) (q : ℕ) : Type 0 where
    pub total : overall v ≡ e
    pub by_x : overall (λ p. v p ⊗ px 𝓜 p) ≡ e ⊗ px 𝓜 q
    pub by_square : overall (λ p. (v p ⊗ px 𝓜 p) ⊗ px 𝓜 p) ≡ e ⊗ (px 𝓜 q ⊗ px 𝓜 q)
    pub by_y : overall (λ p. v p ⊗ py 𝓜 p) ≡ e ⊗ py 𝓜 q
    pub by_y_square : overall (λ p. (v p ⊗ py 𝓜 p) ⊗ py 𝓜 p) ≡ e ⊗ (py 𝓜 q ⊗ py 𝓜 q)

  pub record SumsOf (v : ℕ → GF gf) (all across squares : ℕ) : Type 0 where
    pub of_all : all ≡ value gf (overall v)
    pub of_x : across ≡ value gf (overall (λ p. v p ⊗ px 𝓜 p))
    pub of_square : squares ≡ value gf (overall (λ p. (v p ⊗ px 𝓜 p) ⊗ px 𝓜 p))

  pub record PlaceAt (x y r : ℕ) : Type 0 where
    pub within : r ≤ places 𝓜
    pub point : r < places 𝓜 → (x_of w r ≡ x % symbols 𝓜) × (y_of gf w r ≡ y)
    pub nowhere : places 𝓜 ≤ r → (p : ℕ) → p < places 𝓜 → x_of w p ≡ x % symbols 𝓜 → y_of gf w p ≡ y → ⊥

  pub record WrongPlace (v : ℕ → GF gf) (change r : ℕ) : Type 0 where
    pub within : r ≤ places 𝓜
    pub alone : r < places 𝓜 → AloneAt v (to_f gf change) r
    pub nowhere : places 𝓜 ≤ r → (p : ℕ) → p < places 𝓜 → AloneAt v (to_f gf change) p → ⊥

  -- ---- the place of a point

  pub record Passed (x y r : ℕ) : Type 0 where
    pub others : (q : ℕ) → q < r → y_of gf w (x % symbols 𝓜 * w + q) ≢ y

  pub passed_start : (x y : ℕ) → Passed x y 0
  passed_start x y = record { others = λ q h e. omega arith }

  module _ (x y r : ℕ) (passed : Passed x y r) where
    x-small : x % symbols 𝓜 < symbols 𝓜
    x-small = mod-lt x (omega (arith, one-lt gf))

    pub passed-turn : y_of gf w (x % symbols 𝓜 * w + r) ≢ y → Passed x y (r + 1)
    passed-turn n = record { others = λ q h. go q h (ℕ_discrete q r) }
      where
        go : (q : ℕ) → q < r + 1 → Dec (q ≡ r) → y_of gf w (x % symbols 𝓜 * w + q) ≢ y
        go q h (yes e) = λ d. n (ap (λ k. y_of gf w (x % symbols 𝓜 * w + k)) (sym e) ∙ d)
        go q h (no e) = passed.others q (omega arith)

    pub placed-here : r < w → y_of gf w (x % symbols 𝓜 * w + r) ≡ y → PlaceAt x y (x % symbols 𝓜 * w + r)
    placed-here h e =
        let below = place-below 𝓜 (x % symbols 𝓜) r x-small h in
        record {
          within = omega (arith, below);
          point = λ l. ((place_of 𝓜 (x % symbols 𝓜) r h).0, e);
          nowhere = λ l p hp ex ey. omega (arith, below);
        }

    pub placed-nowhere : w ≤ r → PlaceAt x y (places 𝓜)
    placed-nowhere h =
        record {
          within = omega arith;
          point = λ l. absurd (omega arith);
          nowhere = λ l p hp ex ey.
              let e : x % symbols 𝓜 * w + p % w ≡ p = omega (arith, div-add-mod' p w, ap (λ q. q * w) ex) in
              passed.others (p % w) (omega (arith, rest_below 𝓜 p)) (ap (y_of gf w) e ∙ ey);
        }

  -- ---- one wrong symbol

  -- a sum by the change is the value at the place, and the other way round
  module _ (change : ℕ) (off : 0 < change) (low : change < symbols 𝓜) where
    quotient : {scale s t : ℕ} {v : GF gf} → scale ≡ inverse gf change → s ≡ value gf v → t ≡ times gf s scale → (a : GF gf)
        → (to_f gf t ≡ a → v ≡ to_f gf change ⊗ a) × (v ≡ to_f gf change ⊗ a → to_f gf t ≡ a)
    quotient {scale} {s} {t} {v} scale-is s-is t-is a =
        let e = to_f gf change in
        let n : e ≢ 𝟘 = to_f-ne-zero gf change (λ z. omega (arith, z, mod-eq_of_lt low)) in
        let q : to_f gf t ≡ v ⊗ inv e =
        ap (to_f gf) t-is ∙ to_f-times gf s scale ∙ ap₂ (λ y z. y ⊗ z) (ap (to_f gf) s-is ∙ to_f-value gf v) (ap (to_f gf) scale-is ∙ to_f-inverse gf change) in (
          λ h. sym (div-mul (K gf) v e n) ∙ ap (λ y. y ⊗ e) (sym q ∙ h) ∙ mul_comm (K gf) a e,
          λ h. q ∙ ap (λ y. y ⊗ inv e) (h ∙ mul_comm (K gf) e a) ∙ mul_assoc (K gf) a e (inv e) ∙ ap (λ y. a ⊗ y) (mul-inv (K gf) e n) ∙ mul-one (K gf) a,
        )

  -- a sum with a square by the change is the square at the place, and the other way round
  squared : (change z : ℕ) {s : ℕ} {v a : GF gf} → s ≡ value gf v → to_f gf z ≡ a
      → (times gf change (times gf z z) ≡ s → v ≡ to_f gf change ⊗ (a ⊗ a)) × (v ≡ to_f gf change ⊗ (a ⊗ a) → times gf change (times gf z z) ≡ s)
  squared change z {s} {v} {a} s-is z-is =
      let made : to_f gf (times gf change (times gf z z)) ≡ to_f gf change ⊗ (a ⊗ a) =
      to_f-times gf change (times gf z z) ∙ ap (λ b. to_f gf change ⊗ b) (to_f-times gf z z ∙ ap₂ (λ b c. b ⊗ c) z-is z-is) in (
        λ h. sym (to_f-value gf v) ∙ ap (to_f gf) (sym (h ∙ s-is)) ∙ made,
        λ h. sym (mod-eq_of_lt (times-lt gf change (times gf z z))) ∙ sym (value-to_f gf (times gf change (times gf z z))) ∙ ap (value gf) (made ∙ sym h)
            ∙ sym s-is,
      )

  module _ (v : ℕ → GF gf) (change across squares : ℕ) (S : SumsOf v change across squares) (off : 0 < change) (scale x : ℕ)
      (scale-is : scale ≡ inverse gf change) (x-is : x ≡ times gf across scale) where
    low : change < symbols 𝓜
    low = subst (λ n. n < symbols 𝓜) (sym S.of_all) (value-lt gf _)

    -- the place's x
    x-found : (p : ℕ) → AloneAt v (to_f gf change) p → to_f gf x ≡ px 𝓜 p
    x-found p A = (quotient change off low scale-is S.of_x x-is (px 𝓜 p)).1 A.by_x

    pub wrong-nowhere : times gf change (times gf x x) ≢ squares → WrongPlace v change (places 𝓜)
    wrong-nowhere n =
        record {
          within = omega arith;
          alone = λ l. absurd (omega arith);
          nowhere = λ l p h A. n ((squared change x S.of_square (x-found p A)).1 A.by_square);
        }

    module _ (sum-y y sum-yy : ℕ) (sum-y-is : sum-y ≡ value gf (overall (λ p. v p ⊗ py 𝓜 p))) (y-is : y ≡ times gf sum-y scale)
        (sum-yy-is : sum-yy ≡ value gf (overall (λ p. (v p ⊗ py 𝓜 p) ⊗ py 𝓜 p))) where
      x-low : x < symbols 𝓜
      x-low = subst (λ n. n < symbols 𝓜) (sym x-is) (times-lt gf across scale)

      y-low : y < symbols 𝓜
      y-low = subst (λ n. n < symbols 𝓜) (sym y-is) (times-lt gf sum-y scale)

      -- the place's y
      y-found : (p : ℕ) → AloneAt v (to_f gf change) p → to_f gf y ≡ py 𝓜 p
      y-found p A = (quotient change off low scale-is sum-y-is y-is (py 𝓜 p)).1 A.by_y

      pub wrong-beside : times gf change (times gf y y) ≢ sum-yy → WrongPlace v change (places 𝓜)
      wrong-beside n =
          record {
            within = omega arith;
            alone = λ l. absurd (omega arith);
            nowhere = λ l p h A. n ((squared change y sum-yy-is (y-found p A)).1 A.by_y_square);
          }

      pub wrong-at : times gf change (times gf x x) ≡ squares → times gf change (times gf y y) ≡ sum-yy → {r : ℕ} → PlaceAt x y r → WrongPlace v change r
      wrong-at passed passed-y {r} P =
          record {
            within = P.within;
            alone = λ l.
                let q = P.point l in
                let here-x : to_f gf x ≡ px 𝓜 r = ap (to_f gf) (sym (q.0 ∙ mod-eq_of_lt x-low)) in
                let here-y : to_f gf y ≡ py 𝓜 r = ap (to_f gf) (sym q.1) in
                record {
                  total = sym (to_f-value gf _) ∙ ap (to_f gf) (sym S.of_all);
                  by_x = (quotient change off low scale-is S.of_x x-is (px 𝓜 r)).0 here-x;
                  by_square = (squared change x S.of_square here-x).0 passed;
                  by_y = (quotient change off low scale-is sum-y-is y-is (py 𝓜 r)).0 here-y;
                  by_y_square = (squared change y sum-yy-is here-y).0 passed-y;
                };
            nowhere = λ l p h A.
                P.nowhere l p h
                (sym (to_f-injective gf x (x_of w p) x-low (x_below 𝓜 p h) (x-found p A)) ∙ sym (mod-eq_of_lt x-low))
                (sym (to_f-injective gf y (y_of gf w p) y-low (y_of-below 𝓜 p h) (y-found p A)));
          }
