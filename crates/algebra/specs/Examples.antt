-- The hypotheses of Kötter's theorem can be met: all functions that end, with the functional 'coefficient at 0'.
--
--   Ended K c            c ends: the polynomials in one variable
--   ended-space          they are a space, for every shift
--   ended-start          the terms 0 to s − 1 are a basis of it, for every s and every limit
--   constant             the coefficient at 0, a functional for every shift by one or more
--   without-constant     a basis of the polynomials without a constant term, by Kötter's theorem
--   least-without        the least of them is x, the term at 1,
--   found                and a basis up to any limit from 1 on yields it
use Rattle.std.specs.Prelude.{◌≡◌, refl, [], ◌∷◌}
use Rattle.std.proofs.Common.{sym, ap, ap₂, ◌∙◌, mod-eq_of_lt}
use mathlib.Core.List.Memᴰ
use Prim.Native.Nat.{ℕ, zero, suc, ◌+◌, ◌<◌, ◌≤◌}
use Rattle.std.proofs.Math.Nat.{mod-le}
use native.Mathlib.Omega.{arith}
use Rattle.algebra.specs.Field.{Field, zero-mul}
use Rattle.algebra.specs.Coefficients.{shift-low, Below, Lead, below-mono, below-plus, below-scale, below-shift, unit, unit-at, unit-off, lead-unit}
use Rattle.algebra.specs.Subspace.{Space, Functional, Common, common-space, values}
use Rattle.algebra.specs.Koetter.{Basis, start, koetter}
use Rattle.algebra.specs.Least.{Least, least-exists, least-unique}

module _ {F : Type 0} (K : Field F) where
  open K use {◌⊕◌, ◌⊗◌, 𝟘, 𝟙}

  pub record Ended (c : ℕ → F) : Type 0 where
    pub bound : ℕ
    pub ends : Below K c bound

  pub ended-space : (s : ℕ) → Space K s Ended
  ended-space s =
      record {
        ends = λ h. (h.bound, h.ends);
        sums = λ h g.
            record {
              bound = h.bound + g.bound;
              ends = below-plus K (below-mono K (omega arith) h.ends) (below-mono K (omega arith) g.ends);
            };
        multiples = λ a h. record { bound = h.bound; ends = below-scale K a h.ends };
        shifts = λ h. record { bound = h.bound + s; ends = below-shift K s h.ends };
      }

  pub ended-start : (s L : ℕ) → Basis K s L Ended (λ r. unit K r) (λ r. r)
  ended-start s L =
      start K s L (λ r. r) (λ r h c m e. omega (arith, mod-le m s, e.class)) (λ r h u. mod-eq_of_lt h)
      (λ r h u. record { bound = suc r; ends = (lead-unit K r).above })

  pub constant : (s : ℕ) → 0 < s → Functional K s Ended
  constant s h =
      record {
        Val = λ c v. c 0 ≡ v;
        multiplier = 𝟘;
        total = λ {c} e. (c 0, refl);
        unique = λ p q. sym p ∙ q;
        val_plus = λ p q. ap₂ (λ x y. x ⊕ y) p q;
        val_scale = λ a p. ap (λ x. a ⊗ x) p;
        val_shift = λ {c} {v} p. shift-low K s 0 c h ∙ sym (zero-mul K v);
      }

  module _ (s : ℕ) (h : 0 < s) where
    -- the functionals of the list: this one alone
    abbrev WithoutConstant : (ℕ → F) → Type 0
    WithoutConstant = Common K Ended (values K (λ (p : Unit {0}). constant s h)) (tt ∷ [])

    -- a basis from the start basis, by one step
    pub without-constant : (L : ℕ) → (G : ℕ → ℕ → F) × (l : ℕ → ℕ) × Basis K s L WithoutConstant G l
    without-constant L = koetter K s L (ended-space s) (λ p. constant s h) (λ r. unit K r) (λ r. r) (ended-start s L) (tt ∷ [])

    x-without : WithoutConstant (unit K 1)
    unfolding constant
    x-without =
        record {
          member = record { bound = 2; ends = (lead-unit K 1).above };
          vanishes = λ p m. unit-off K 1 0 (λ e. absurd (omega arith));
        }

    pub least-without : Least K WithoutConstant (unit K 1) 1
    unfolding constant
    least-without =
        record {
          member = x-without;
          leads = lead-unit K 1;
          monic = unit-at K 1;
          least = λ d m e f. positive e m f;
        }
      where
        positive : {d : ℕ → F} → WithoutConstant d → (m : ℕ) → Lead K d m → 1 ≤ m
        positive e zero f = absurd (f.ne (e.vanishes tt (Memᴰ.head refl)))
        positive e (suc m) f = omega arith

    -- the step finds it, with any limit that it meets
    pub found : (L : ℕ) → 1 ≤ L → (d : ℕ → F) × (k : ℕ) × Least K WithoutConstant d k × (k ≡ 1) × (d ≡ unit K 1)
    found L u =
        let t = without-constant L in
        let S = common-space K (λ (p : Unit {0}). constant s h) (ended-space s) (tt ∷ []) in
        let f = least-exists K t.2 h S x-without (lead-unit K 1) u in
        let same = least-unique K S f.2 least-without in
        (f.0, f.1, f.2, same.0, same.1)
