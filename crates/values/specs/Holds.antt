-- A polynomial Q = Q0 + Q1 z by its values at the places, for every member: a word gives z a symbol at each place.
--
--   Values                  the values by part and place: part 0 is Q with the word's symbol for z, part 1 is Q1, its slope in z
--   Holds M word v Q        v has the values of Q
--   holds-ext               so has what agrees with v at the places
--   holds-added             v plus a multiple of u has the values of the same sum of polynomials
--   holds-raised            x + a times v has those of x + a times Q
--   value-moved             the value with another symbol for z: it moves by the slope
--   holds-moved             so v holds Q by another word, where the symbols differ
--   first-value             the value of Q0
--   Stored M word L ns rows leads   there are polynomials that are a basis up to L of the Q through the nodes ns, and the rows have their
--                           values, for the classes that are not spent
use Rattle.std.specs.Prelude.{◌≡◌, List, ℕ, ◌*◌, ◌<◌, ◌≤◌, get_or}
use Rattle.std.proofs.Common.{sym, ap₂, ◌∙◌, subst, arith}
use Rattle.algebra.specs.Field.{add-mul, ring}
use Rattle.algebra.specs.Coefficients.{plus, scale}
use Rattle.algebra.specs.Weighted.{weighted-unique, weighted-by, weighted-is, weighted-plus, weighted-scale}
use Rattle.algebra.specs.Koetter.{Basis, raised}
use Rattle.galois.specs.BinaryField.{GF, K, to_f}
use Rattle.hermitian.specs.Value.{Val, val-times_x}
use Rattle.hermitian.specs.Interpolant.{without_z, with_z, with_shift, gap, fn_with_z}
use Rattle.hermitian.specs.Interpolation.{Value, value-plus, value-scale, value-shift}
use Rattle.family.specs.Member.{Member, places, px, py}
use Rattle.family.specs.Points.{on-curve-at}
use Rattle.family.specs.Nodes.{Node, node, sample_at, ThroughNodes}

module _ (𝓜 : Member) where
  open 𝓜 use {gf, w, wide}
  open K gf use {◌⊕◌, ◌⊗◌}

  abbrev pub Values : Type 0
  Values = ℕ → ℕ → GF gf

  pub record Holds (M : ℕ) (word : List ℕ) (v : Values) (Q : ℕ → GF gf) : Type 0 where
    pub whole : (p : ℕ) → p < places 𝓜 → Value (K gf) w M (sample_at 𝓜 (node p (get_or word p 0))) Q (v 0 p)
    pub slope : (p : ℕ) → p < places 𝓜 → Val (K gf) w (px 𝓜 p) (py 𝓜 p) (with_z (K gf) M Q) (v 1 p)

  pub record Stored (M : ℕ) (word : List ℕ) (L : ℕ) (ns : List Node) (rows : ℕ → Values) (leads : ℕ → ℕ) : Type 0 where
    pub polynomials : ℕ → ℕ → GF gf
    pub basis : Basis (K gf) (2 * w) L (ThroughNodes 𝓜 M ns) polynomials leads
    pub held : (r : ℕ) → r < 2 * w → leads r ≤ L → Holds M word (rows r) (polynomials r)

  module _ {M : ℕ} {word : List ℕ} where
    pub holds-ext : {u v : Values} {Q : ℕ → GF gf} → ((h p : ℕ) → h < 2 → p < places 𝓜 → u h p ≡ v h p) → Holds M word v Q → Holds M word u Q
    holds-ext {u} {v} {Q} e H =
        record {
          whole = λ p l. subst (Value (K gf) w M (sample_at 𝓜 (node p (get_or word p 0))) Q) (sym (e 0 p (omega arith) l)) (H.whole p l);
          slope = λ p l. weighted-is (K gf) (sym (e 1 p (omega arith) l)) (H.slope p l);
        }

    pub holds-added : {v u t : Values} {Q P : ℕ → GF gf} (a : GF gf) → ((h p : ℕ) → h < 2 → p < places 𝓜 → t h p ≡ v h p ⊕ a ⊗ u h p)
        → Holds M word v Q → Holds M word u P → Holds M word t (plus (K gf) Q (scale (K gf) a P))
    holds-added {v} {u} {t} {Q} {P} a e H O =
        holds-ext {u = t} {v = λ h p. v h p ⊕ a ⊗ u h p} e
        (record {
          whole = λ p l. value-plus (K gf) w M wide _ (H.whole p l) (value-scale (K gf) w M wide _ a (O.whole p l));
          slope = λ p l. weighted-plus (K gf) (H.slope p l) (weighted-scale (K gf) a (O.slope p l));
        })

    pub holds-raised : {v t : Values} {Q : ℕ → GF gf} (a : GF gf) → ((h p : ℕ) → h < 2 → p < places 𝓜 → t h p ≡ (px 𝓜 p ⊕ a) ⊗ v h p)
        → Holds M word v Q → Holds M word t (raised (K gf) (2 * w) a Q)
    holds-raised {v} {t} {Q} a e H =
        holds-ext {u = t} {v = λ h p. px 𝓜 p ⊗ v h p ⊕ a ⊗ v h p} (λ h p k l. e h p k l ∙ add-mul (K gf) _ _ _)
        (record {
          whole = λ p l. value-plus (K gf) w M wide _ (value-shift (K gf) w M wide _ (H.whole p l)) (value-scale (K gf) w M wide _ a (H.whole p l));
          slope = λ p l.
              let q = (H.whole p l).interpolant in
              weighted-plus (K gf)
              (weighted-by (K gf) (with_shift (K gf) M w Q (gap (K gf) w M q))
              (val-times_x (K gf) w wide (px 𝓜 p) (py 𝓜 p) (on-curve-at 𝓜 p) (fn_with_z (K gf) w M q) (H.slope p l)))
              (weighted-scale (K gf) a (H.slope p l));
        })

  -- ---- another symbol for z
  module _ (M : ℕ) {Q : ℕ → GF gf} (p z : ℕ) {v s : GF gf} (value : Value (K gf) w M (sample_at 𝓜 (node p z)) Q v)
      (slope : Val (K gf) w (px 𝓜 p) (py 𝓜 p) (with_z (K gf) M Q) s) where
    same-slope : value.at1 ≡ s
    same-slope = weighted-unique (K gf) value.value1 slope

    pub first-value : Val (K gf) w (px 𝓜 p) (py 𝓜 p) (without_z (K gf) Q) (v ⊕ to_f gf z ⊗ s)
    first-value = weighted-is (K gf) (back value.at0 value.at1 v s value.total same-slope) value.value0
      where
        back : (a b v s : GF gf) → a ⊕ to_f gf z ⊗ b ≡ v → b ≡ s → a ≡ v ⊕ to_f gf z ⊗ s
        back a b v s e f = sym (ap₂ (λ x y. x ⊕ to_f gf z ⊗ y) (sym e) (sym f) ∙ again a (to_f gf z ⊗ b))
          where
            again : (a c : GF gf) → (a ⊕ c) ⊕ c ≡ a
            again a c = simp (ring, K gf)

    pub value-moved : (z' : ℕ) → Value (K gf) w M (sample_at 𝓜 (node p z')) Q (v ⊕ (to_f gf z ⊕ to_f gf z') ⊗ s)
    value-moved z' =
        record {
          interpolant = value.interpolant;
          at0 = value.at0;
          at1 = value.at1;
          value0 = value.value0;
          value1 = value.value1;
          total = moved value.at0 value.at1 (to_f gf z) (to_f gf z') ∙ ap₂ (λ x y. x ⊕ (to_f gf z ⊕ to_f gf z') ⊗ y) value.total same-slope;
        }
      where
        moved : (a b y x : GF gf) → a ⊕ x ⊗ b ≡ (a ⊕ y ⊗ b) ⊕ (y ⊕ x) ⊗ b
        moved a b y x = simp (ring, K gf)

  pub holds-moved : {M : ℕ} {word : List ℕ} {v t : Values} {Q : ℕ → GF gf} (word' : List ℕ)
      → ((p : ℕ) → p < places 𝓜 → t 0 p ≡ v 0 p ⊕ (to_f gf (get_or word p 0) ⊕ to_f gf (get_or word' p 0)) ⊗ v 1 p)
      → ((p : ℕ) → p < places 𝓜 → t 1 p ≡ v 1 p) → Holds M word v Q → Holds M word' t Q
  holds-moved {M} {word} {v} {t} {Q} word' e f H =
      record {
        whole = λ p l.
            subst (Value (K gf) w M (sample_at 𝓜 (node p (get_or word' p 0))) Q) (sym (e p l))
            (value-moved M p (get_or word p 0) (H.whole p l) (H.slope p l) (get_or word' p 0));
        slope = λ p l. weighted-is (K gf) (sym (f p l)) (H.slope p l);
      }
