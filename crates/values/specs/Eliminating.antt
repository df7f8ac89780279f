-- Gaussian elimination on rows of values, for every member: terms in the order of their keys, and a row for each place that counts.
--
--   counted p           the place p counts: its flag is 1
--   value_of p           the value of Q there, with the word's symbol for z
--   Pivots key rows     the rows, by place, have the values of rows in echelon form of the terms with keys below key; a row that is zero at its own place is none
--   Reduced key p v     v has the values of the term with this key, with a combination of smaller ones, zero at the places below p that count
--   pivots-start        before the first key there is no row
--   pivots-absent       a key that is no term's changes nothing
--   reduced-plain, reduced-z   the next term: a monomial, or one times z
--   reduced-pass, reduced-clear   past a place where it is zero or that does not count; past a place whose row clears it
--   pivots-stored       what is not zero at a place without a row becomes the row there
--   reduced-least       what is zero at all places that count has the values of the least Q through their nodes
--   pivots-none         no Q through these nodes leads below key
use Rattle.std.specs.Prelude.{Bool, true, ◌≡◌, refl, List, ◌≢◌, ℕ, ◌+◌, ◌*◌, ◌<◌, ◌≤◌, eqb, get_or}
use Rattle.std.proofs.Common.{sym, ap, ◌∙◌, subst, subst₂, add-one, eqb-true, eq-eqb}
use Rattle.std.proofs.Math.Decide.{ℕ_discrete}
use Rattle.algebra.specs.Coefficients.{choose, choose_yes, choose_no, Lead, unit, unit-at, lead-unit}
use Rattle.algebra.specs.Subspace.{Functional, ◌⊆◌, cleared}
use Rattle.algebra.specs.Least.{Least, least-same}
use Rattle.algebra.specs.Echelon.{Echelon, Monic, Vanishing, echelon-start, echelon-absent, echelon-insert, echelon-none, monic-start, monic-pass, monic-clear, monic-least}
use Rattle.galois.specs.BinaryField.{GF, K, to_f}
use Rattle.hermitian.specs.Present.{Present}
use Rattle.hermitian.specs.Value.{monomial}
use Rattle.hermitian.specs.Keys.{IsKey}
use Rattle.hermitian.specs.Interpolant.{Interpolant, interpolant-space}
use Rattle.hermitian.specs.Interpolation.{Value, evaluation}
use Rattle.family.specs.Member.{Member, places, px, py}
use Rattle.family.specs.Nodes.{node, sample_at, ThroughNodes}
use Rattle.values.specs.Holds.{Values, Holds, holds-added}
use Rattle.values.specs.Terms.{plain-term, z-term, plain-holds, z-holds}
use Rattle.values.specs.Settled.{settled, settled-member, settled_only}

module _ (𝓜 : Member) where
  open 𝓜 use {gf, w, wide}
  open K gf use {◌⊕◌, ◌⊗◌, 𝟘, inv}

  module _ (M : ℕ) (word flags : List ℕ) where
    abbrev pub counted : ℕ → Bool
    counted p = eqb (get_or flags p 0) 1

    abbrev pub value_of : ℕ → Functional (K gf) (2 * w) (Interpolant (K gf) w M)
    value_of p = evaluation (K gf) w M wide (sample_at 𝓜 (node p (get_or word p 0)))

    pub record Pivots (key : ℕ) (rows : ℕ → Values 𝓜) : Type 0 where
      pub polynomials : ℕ → ℕ → GF gf
      pub echelon : Echelon (K gf) value_of (places 𝓜) counted key (λ p. rows p 0 p) polynomials
      pub held : (p : ℕ) → p < places 𝓜 → rows p 0 p ≢ 𝟘 → Holds 𝓜 M word (rows p) (polynomials p)

    pub record Reduced (key p : ℕ) (v : Values 𝓜) : Type 0 where
      pub polynomial : ℕ → GF gf
      pub monic : Monic (K gf) value_of (places 𝓜) counted key p polynomial
      pub holds : Holds 𝓜 M word v polynomial

    -- ---- keys
    pub pivots-start : {rows : ℕ → Values 𝓜} → ((p : ℕ) → p < places 𝓜 → rows p 0 p ≡ 𝟘) → Pivots 0 rows
    pivots-start z =
        record {
          polynomials = λ p k. 𝟘;
          echelon = echelon-start (K gf) value_of (places 𝓜) counted z;
          held = λ p l ne. absurd (ne (z p l));
        }

    pub pivots-absent : {key : ℕ} {rows : ℕ → Values 𝓜} → ¬ IsKey w M key → Pivots key rows → Pivots (key + 1) rows
    pivots-absent {key} {rows} none P =
        subst (λ k. Pivots k rows) (sym (add-one key))
        (record {
          polynomials = P.polynomials;
          echelon = echelon-absent (K gf) value_of (places 𝓜) counted (λ d q. q.absent key none) P.echelon;
          held = P.held;
        })

    -- ---- a term
    reduced-unit : {key : ℕ} {v : Values 𝓜} → Interpolant (K gf) w M (unit (K gf) key) → Holds 𝓜 M word v (unit (K gf) key) → Reduced key 0 v
    reduced-unit {key} q H =
        record {
          polynomial = unit (K gf) key;
          monic = monic-start (K gf) value_of (places 𝓜) counted q (lead-unit (K gf) key).above (unit-at (K gf) key);
          holds = H;
        }

    pub reduced-plain : {v : Values 𝓜} (o : ℕ) → Present w o → ((p : ℕ) → p < places 𝓜 → v 0 p ≡ monomial (K gf) w (px 𝓜 p) (py 𝓜 p) o)
        → ((p : ℕ) → p < places 𝓜 → v 1 p ≡ 𝟘) → Reduced (2 * o) 0 v
    reduced-plain o present whole slope = reduced-unit (plain-term 𝓜 M o present) (plain-holds 𝓜 M o present word whole slope)

    pub reduced-z : {v : Values 𝓜} (o : ℕ) → Present w o
        → ((p : ℕ) → p < places 𝓜 → v 0 p ≡ to_f gf (get_or word p 0) ⊗ monomial (K gf) w (px 𝓜 p) (py 𝓜 p) o)
        → ((p : ℕ) → p < places 𝓜 → v 1 p ≡ monomial (K gf) w (px 𝓜 p) (py 𝓜 p) o) → Reduced (2 * (o + M) + 1) 0 v
    reduced-z o present whole slope = reduced-unit (z-term 𝓜 M o present) (z-holds 𝓜 M o present word whole slope)

    -- ---- places
    pub reduced-pass : {key : ℕ} {v : Values 𝓜} (p : ℕ) → p < places 𝓜 → (counted p ≡ true → v 0 p ≡ 𝟘) → Reduced key p v → Reduced key (p + 1) v
    reduced-pass {key} {v} p l z R =
        subst (λ q. Reduced key q v) (sym (add-one p))
        (record {
          polynomial = R.polynomial;
          monic =
              monic-pass (K gf) value_of (places 𝓜) counted (λ t. subst ((value_of p).Val R.polynomial) (z t) (R.holds.whole p l)) R.monic;
          holds = R.holds;
        })

    pub reduced-clear : {key : ℕ} {rows : ℕ → Values 𝓜} {v t : Values 𝓜} (p : ℕ) → p < places 𝓜 → Pivots key rows → rows p 0 p ≢ 𝟘
        → ((h q : ℕ) → h < 2 → q < places 𝓜 → t h q ≡ v h q ⊕ (v 0 p ⊗ inv (rows p 0 p)) ⊗ rows p h q) → Reduced key p v → Reduced key (p + 1) t
    reduced-clear {key} {rows} {v} {t} p l P ne e R =
        subst (λ q. Reduced key q t) (sym (add-one p))
        (record {
          polynomial = cleared (K gf) (v 0 p) (rows p 0 p) R.polynomial (P.polynomials p);
          monic =
              monic-clear (K gf) value_of (places 𝓜) counted (interpolant-space (K gf) w M wide) P.echelon l ne (R.holds.whole p l) R.monic;
          holds = holds-added 𝓜 (v 0 p ⊗ inv (rows p 0 p)) e R.holds (P.held p l ne);
        })

    pub pivots-stored : {key : ℕ} {rows rows' : ℕ → Values 𝓜} {v : Values 𝓜} (p : ℕ) → p < places 𝓜 → counted p ≡ true → v 0 p ≢ 𝟘 → rows p 0 p ≡ 𝟘
        → rows' p ≡ v → ((q : ℕ) → q ≢ p → rows' q ≡ rows q) → Reduced key p v → Pivots key rows → Pivots (key + 1) rows'
    pivots-stored {key} {rows} {rows'} {v} p l count ne free here there R P =
        subst (λ k. Pivots k rows') (sym (add-one key))
        (record {
          polynomials = next;
          echelon =
              echelon-insert (K gf) value_of (places 𝓜) counted (interpolant-space (K gf) w M wide) P.echelon R.monic l count (R.holds.whole p l) ne free
              (ap (λ u. u 0 p) here) next_here (λ q h o. ap (λ u. u 0 q) (there q o)) (λ q h o z. next-there q o);
          held = λ q h z. held q h z (ℕ_discrete q p);
        })
      where
        next : ℕ → ℕ → GF gf
        next q = choose (ℕ_discrete q p) R.polynomial (P.polynomials q)

        next_here : next p ≡ R.polynomial
        next_here = choose_yes (ℕ_discrete p p) _ _ refl

        next-there : (q : ℕ) → q ≢ p → next q ≡ P.polynomials q
        next-there q o = choose_no (ℕ_discrete q p) _ _ o

        held : (q : ℕ) → q < places 𝓜 → rows' q 0 q ≢ 𝟘 → Dec (q ≡ p) → Holds 𝓜 M word (rows' q) (next q)
        held q h z (yes e) =
            subst (λ i. Holds 𝓜 M word (rows' i) (next i)) (sym e) (subst₂ (Holds 𝓜 M word) (sym here) (sym next_here) R.holds)
        held q h z (no o) =
            subst₂ (Holds 𝓜 M word) (sym (there q o)) (sym (next-there q o)) (P.held q h (λ y. z (ap (λ u. u 0 q) (there q o) ∙ y)))

    -- ---- the end
    -- what vanishes at the places that count is what passes through their nodes
    through : ◌⊆◌ (K gf) (Vanishing (K gf) value_of (places 𝓜) counted) (ThroughNodes 𝓜 M (settled word flags (places 𝓜)))
    through c h =
        record {
          member = h.member;
          vanishes = λ q m.
              let t = settled_only word flags (places 𝓜) q m in
              subst (λ i. Value (K gf) w M (sample_at 𝓜 i) c 𝟘) (sym t.is) (h.vanishes t.at t.below (eq-eqb (get_or flags t.at 0) 1 t.flag));
        }

    vanishing : ◌⊆◌ (K gf) (ThroughNodes 𝓜 M (settled word flags (places 𝓜))) (Vanishing (K gf) value_of (places 𝓜) counted)
    vanishing c h =
        record {
          member = h.member;
          vanishes = λ q l t.
              h.vanishes (node q (get_or word q 0)) (settled-member word flags (places 𝓜) q l (eqb-true (get_or flags q 0) 1 t));
        }

    pub reduced-least : {key : ℕ} {rows : ℕ → Values 𝓜} {v : Values 𝓜} → Pivots key rows → Reduced key (places 𝓜) v
        → (Q : ℕ → GF gf) × Holds 𝓜 M word v Q × Least (K gf) (ThroughNodes 𝓜 M (settled word flags (places 𝓜))) Q key
    reduced-least P R =
        (R.polynomial, R.holds, least-same (K gf) through vanishing (monic-least (K gf) value_of (places 𝓜) counted P.echelon R.monic))

    pub pivots-none : {key : ℕ} {rows : ℕ → Values 𝓜} → Pivots key rows → (Q : ℕ → GF gf) (l : ℕ) → ThroughNodes 𝓜 M (settled word flags (places 𝓜)) Q
        → Lead (K gf) Q l → key ≤ l
    pivots-none P Q l h = echelon-none (K gf) value_of (places 𝓜) counted P.echelon Q l (vanishing Q h)
