-- The values of one term, for every member: a monomial, with or without z.
--
--   monomial_at o p      the monomial of order o at a place
--   plain-term, z-term  the monomial of a present order is a Q, and so is that monomial times z
--   plain-holds, z-holds   what has their values holds them
use Rattle.std.specs.Prelude.{◌≡◌, refl, List, ◌≢◌, ℕ, ◌+◌, ◌*◌, ◌<◌, get_or}
use Rattle.std.proofs.Common.{sym, ap, ◌∙◌, arith}
use Rattle.std.proofs.Math.Path.{fun_ext}
use Rattle.std.proofs.Math.Decide.{ℕ_discrete}
use Rattle.algebra.specs.Field.{Field, add-zero, zero-add, mul-zero}
use Rattle.algebra.specs.Coefficients.{unit, unit-at, unit-off}
use Rattle.algebra.specs.Weighted.{weighted-by, weighted-is, weighted-zero}
use Rattle.galois.specs.BinaryField.{GF, K, to_f}
use Rattle.hermitian.specs.Present.{Present}
use Rattle.hermitian.specs.Value.{monomial, val-unit}
use Rattle.hermitian.specs.Keys.{plain, times_z, is_key}
use Rattle.hermitian.specs.Frobenius.{unit-plain, unit-z}
use Rattle.hermitian.specs.Interpolant.{Interpolant, without_z, with_z, interpolant-unit}
use Rattle.family.specs.Member.{Member, places, px, py}
use Rattle.values.specs.Holds.{Values, Holds}

module _ {F : Type 0} (K : Field F) where
  open K use {𝟘, 𝟙}

  unit-ext : (i : ℕ) (f : ℕ → F) → f i ≡ 𝟙 → ((k : ℕ) → k ≢ i → f k ≡ 𝟘) → f ≡ unit K i
  unit-ext i f p q = fun_ext (λ k. go k (ℕ_discrete k i))
    where
      go : (k : ℕ) → Dec (k ≡ i) → f k ≡ unit K i k
      go k (yes e) = ap f e ∙ p ∙ sym (unit-at K i) ∙ ap (unit K i) (sym e)
      go k (no e) = q k e ∙ sym (unit-off K i k e)

  -- the parts of a term with z
  z-first : (M o : ℕ) → without_z K (unit K (2 * (o + M) + 1)) ≡ (λ k. 𝟘)
  z-first M o = fun_ext (λ k. unit-off K (2 * (o + M) + 1) (2 * k) (λ (e : 2 * k ≡ 2 * (o + M) + 1). absurd (omega arith)))

  z-second : (M o : ℕ) → with_z K M (unit K (2 * (o + M) + 1)) ≡ unit K o
  z-second M o =
      unit-ext o _ (unit-at K (2 * (o + M) + 1))
      (λ k n. unit-off K (2 * (o + M) + 1) (2 * (k + M) + 1) (λ (e : 2 * (k + M) + 1 ≡ 2 * (o + M) + 1). absurd (omega arith)))

module _ (𝓜 : Member) where
  open 𝓜 use {gf, w, wide}
  open K gf use {◌⊕◌, ◌⊗◌, 𝟘}

  abbrev pub monomial_at : ℕ → ℕ → GF gf
  monomial_at o p = monomial (K gf) w (px 𝓜 p) (py 𝓜 p) o

  module _ (M : ℕ) (o : ℕ) (present : Present w o) where
    pub plain-term : Interpolant (K gf) w M (unit (K gf) (2 * o))
    plain-term = interpolant-unit (K gf) w M (is_key (plain o) present refl)

    pub z-term : Interpolant (K gf) w M (unit (K gf) (2 * (o + M) + 1))
    z-term = interpolant-unit (K gf) w M (is_key (times_z o) present refl)

    pub plain-holds : {v : Values 𝓜} (word : List ℕ) → ((p : ℕ) → p < places 𝓜 → v 0 p ≡ monomial_at o p) → ((p : ℕ) → p < places 𝓜 → v 1 p ≡ 𝟘)
        → Holds 𝓜 M word v (unit (K gf) (2 * o))
    plain-holds word whole slope =
        record {
          whole = λ p l.
              record {
                interpolant = plain-term;
                at0 = monomial_at o p;
                at1 = 𝟘;
                value0 = weighted-by (K gf) (unit-plain (K gf) o) (val-unit (K gf) w wide (px 𝓜 p) (py 𝓜 p) o);
                value1 = weighted-by (K gf) (unit-z (K gf) M o) (weighted-zero (K gf) _);
                total = ap (λ a. monomial_at o p ⊕ a) (mul-zero (K gf) _) ∙ add-zero (K gf) _ ∙ sym (whole p l);
              };
          slope = λ p l. weighted-by (K gf) (unit-z (K gf) M o) (weighted-is (K gf) (sym (slope p l)) (weighted-zero (K gf) _));
        }

    pub z-holds : {v : Values 𝓜} (word : List ℕ) → ((p : ℕ) → p < places 𝓜 → v 0 p ≡ to_f gf (get_or word p 0) ⊗ monomial_at o p)
        → ((p : ℕ) → p < places 𝓜 → v 1 p ≡ monomial_at o p) → Holds 𝓜 M word v (unit (K gf) (2 * (o + M) + 1))
    z-holds word whole slope =
        record {
          whole = λ p l.
              record {
                interpolant = z-term;
                at0 = 𝟘;
                at1 = monomial_at o p;
                value0 = weighted-by (K gf) (z-first (K gf) M o) (weighted-zero (K gf) _);
                value1 = weighted-by (K gf) (z-second (K gf) M o) (val-unit (K gf) w wide (px 𝓜 p) (py 𝓜 p) o);
                total = zero-add (K gf) _ ∙ sym (whole p l);
              };
          slope = λ p l.
              weighted-by (K gf) (z-second (K gf) M o) (weighted-is (K gf) (sym (slope p l)) (val-unit (K gf) w wide (px 𝓜 p) (py 𝓜 p) o));
        }
