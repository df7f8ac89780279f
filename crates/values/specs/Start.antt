-- The values of the start basis, for every member: in each class the power of y of least key, with or without z.
--
--   PlainStart j v, ZStart word j v   v has the values of y^j, or of y^j z
--   StartRows M word rows  so has each row, with the power of y that belongs to its class
--   start-stored           these rows, with the first keys as leads, store a basis of all Q
use Rattle.std.specs.Prelude.{◌≡◌, refl, List, [], ◌≢◌, get_or}
use Rattle.std.proofs.Math.Path.{sym, ap, ap₂, subst}
use Rattle.std.proofs.Common.{◌∙◌}
use Prim.Native.Nat.{ℕ, suc, ◌-◌, ◌*◌, ◌/◌, ◌%◌, ◌<◌}
use Rattle.std.proofs.Math.Decide.{ℕ_discrete}
use native.Mathlib.Omega.{arith}
use Rattle.algebra.specs.Field.{one-mul}
use Rattle.algebra.specs.Power.{pow, pow-nil}
use Rattle.algebra.specs.Coefficients.{unit}
use Rattle.algebra.specs.Subspace.{common-start, common-inside}
use Rattle.algebra.specs.Koetter.{basis-same, basis-ext}
use Rattle.galois.specs.BinaryField.{GF, K, to_f}
use Rattle.hermitian.specs.Present.{Present, divided, present-at, mod_below}
use Rattle.hermitian.specs.Value.{monomial}
use Rattle.hermitian.specs.Keys.{key, z_power, first, first-even, first-odd}
use Rattle.hermitian.specs.Interpolant.{interpolant-start}
use Rattle.family.specs.Member.{Member, places, px, py}
use Rattle.values.specs.Holds.{Values, Holds, Stored}
use Rattle.values.specs.Terms.{monomial_at, plain-holds, z-holds}

module _ (𝓜 : Member) where
  open 𝓜 use {gf, w, wide}
  open K gf use {◌⊗◌, 𝟘}

  -- y^j at a place
  abbrev pub y_power_at : ℕ → ℕ → GF gf
  y_power_at j p = pow (K gf) (py 𝓜 p) j

  pub record PlainStart (j : ℕ) (v : Values 𝓜) : Type 0 where
    pub whole : (p : ℕ) → p < places 𝓜 → v 0 p ≡ y_power_at j p
    pub slope : (p : ℕ) → p < places 𝓜 → v 1 p ≡ 𝟘

  pub record ZStart (word : List ℕ) (j : ℕ) (v : Values 𝓜) : Type 0 where
    pub whole : (p : ℕ) → p < places 𝓜 → v 0 p ≡ to_f gf (get_or word p 0) ⊗ y_power_at j p
    pub slope : (p : ℕ) → p < places 𝓜 → v 1 p ≡ y_power_at j p

  pub record StartRows (M : ℕ) (word : List ℕ) (rows : ℕ → Values 𝓜) : Type 0 where
    pub without_z : (r : ℕ) → r < 2 * w → r % 2 ≡ 0 → PlainStart (r / 2) (rows r)
    pub with_z : (r : ℕ) → r < 2 * w → r % 2 ≢ 0 → ZStart word (z_power w M (r / 2)) (rows r)

  -- the monomial of order j (w + 1) is y^j
  y-monomial : (j p : ℕ) → j < w → monomial_at 𝓜 (j * suc w) p ≡ y_power_at j p
  unfolding monomial
  y-monomial j p h =
      let d = divided {w = w} {o = j * suc w} j j h (omega arith) in
      let z : j - j ≡ 0 = omega arith in
      ap₂ (λ a b. pow (K gf) (px 𝓜 p) (a - b) ⊗ pow (K gf) (py 𝓜 p) b) d.0 d.1
      ∙ ap (λ a. pow (K gf) (px 𝓜 p) a ⊗ y_power_at j p) z ∙ ap (λ a. a ⊗ y_power_at j p) (pow-nil (K gf) (px 𝓜 p)) ∙ one-mul (K gf) _

  y-present : (j : ℕ) → j < w → Present w (j * suc w)
  y-present j h = present-at j j h (omega arith) (omega arith)

  module _ (M : ℕ) (word : List ℕ) (r : ℕ) (h : r < 2 * w) where
    even-holds : {v : Values 𝓜} → r % 2 ≡ 0 → PlainStart (r / 2) v → Holds 𝓜 M word v (unit (K gf) (first w M r))
    unfolding first
    even-holds {v} z s =
        let small : r / 2 < w = omega arith in
        subst (λ t. Holds 𝓜 M word v (unit (K gf) (key M t))) (sym (first-even w wide M r h z))
        (plain-holds 𝓜 M (r / 2 * suc w) (y-present (r / 2) small) word (λ p l. s.whole p l ∙ sym (y-monomial (r / 2) p small)) s.slope)

    odd-holds : {v : Values 𝓜} → r % 2 ≢ 0 → ZStart word (z_power w M (r / 2)) v → Holds 𝓜 M word v (unit (K gf) (first w M r))
    unfolding first z_power
    odd-holds {v} z s =
        let j : ℕ = z_power w M (r / 2) in
        let small : j < w = mod_below w wide _ in
        subst (λ t. Holds 𝓜 M word v (unit (K gf) (key M t))) (sym (first-odd w wide M r h z))
        (z-holds 𝓜 M (j * suc w) (y-present j small) word
        (λ p l. s.whole p l ∙ ap (λ a. to_f gf (get_or word p 0) ⊗ a) (sym (y-monomial j p small))) (λ p l. s.slope p l ∙ sym (y-monomial j p small)))

  pub start-stored : (M : ℕ) (word : List ℕ) (L : ℕ) {rows : ℕ → Values 𝓜} {leads : ℕ → ℕ} → StartRows M word rows
      → ((r : ℕ) → r < 2 * w → leads r ≡ first w M r) → Stored 𝓜 M word L [] rows leads
  start-stored M word L {rows} {leads} s el =
      record {
        polynomials = λ r. unit (K gf) (first w M r);
        basis =
            basis-same (K gf) (2 * w) L (common-start (K gf)) (common-inside (K gf) [])
            (basis-ext (K gf) (2 * w) L el (λ r h u. refl) (interpolant-start (K gf) w M wide L));
        held = λ r h u. go r h (ℕ_discrete (r % 2) 0);
      }
    where
      go : (r : ℕ) → r < 2 * w → Dec (r % 2 ≡ 0) → Holds 𝓜 M word (rows r) (unit (K gf) (first w M r))
      go r h (yes z) = even-holds M word r h z (s.without_z r h z)
      go r h (no z) = odd-holds M word r h z (s.with_z r h z)
