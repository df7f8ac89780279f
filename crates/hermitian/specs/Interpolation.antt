-- Interpolation: Q through samples, as an instance of Kötter's theorem.
--
--   Sample K w             a point of the curve, and a symbol z there
--   at_z z a b              a + b z
--   Value K w M p c v      the value of Q at the sample p is v: that of Q0 at the point, plus z times that of Q1
--   value-total, value-unique, value-plus, value-scale, value-shift   its laws
--   evaluation             so it is a functional in the sense of `algebra`, with multiplier x
--   Through sample ps c    c is a Q that vanishes at sample p for each p of the list ps
--   through-space, through-basis   they are a space, and it has a basis up to any limit
--   through-joined         a Q made of two parts that vanishes
--   least-term             the least Q in document 01's words: its highest term is before that of every other
use Rattle.std.specs.Prelude.{◌≡◌, refl, ◌⊎◌, ℕ, ◌*◌, ◌≤◌}
use Rattle.std.proofs.Common.{sym, ap, ap₂, ◌∙◌, subst, inl, inr, ⊎_elim, eq-or-lt_of_le}
use mathlib.Core.List.{List, Memᴰ}
use Rattle.algebra.specs.Field.{Field, add-self, ring}
use Rattle.algebra.specs.Coefficients.{plus, scale, shift, Lead, unit}
use Rattle.algebra.specs.Weighted.{weighted-total, weighted-unique, weighted-plus, weighted-scale, weighted-by}
use Rattle.algebra.specs.Subspace.{Space, Functional, Common, common-space}
use Rattle.algebra.specs.Koetter.{Basis, koetter}
use Rattle.algebra.specs.Least.{Least}
use Rattle.hermitian.specs.Present.{Present}
use Rattle.hermitian.specs.Ring.{Fn}
use Rattle.hermitian.specs.Value.{Curve, Val, val-times_x}
use Rattle.hermitian.specs.Keys.{Term, key, monomial_order, Before, IsKey, is_key, key-injective, key-before, first}
use Rattle.hermitian.specs.Interpolant.{Interpolant, without_z, with_z, joined, without-joined, with-joined, without-shift, with_shift, gap, fn-without_z, fn_with_z, interpolant-space, interpolant-start, interpolant-lead, interpolant-joined}

module _ {F : Type 0} (K : Field F) (w : ℕ) where
  open K use {◌⊕◌, ◌⊗◌, 𝟘}

  -- Q0 + Q1 z from the values of Q0 and Q1
  abbrev pub at_z : F → F → F → F
  at_z z a b = a ⊕ z ⊗ b

  at_z-plus : (z a b c d : F) → at_z z (a ⊕ c) (b ⊕ d) ≡ at_z z a b ⊕ at_z z c d
  at_z-plus z a b c d = simp (ring, K)

  at_z-factor : (z k a b : F) → at_z z (k ⊗ a) (k ⊗ b) ≡ k ⊗ at_z z a b
  at_z-factor z k a b = simp (ring, K)

  pub record Sample : Type 0 where
    pub x : F
    pub y : F
    pub z : F
    pub on : Curve K w x y

  module _ (M : ℕ) where
    pub record Value (p : Sample) (c : ℕ → F) (v : F) : Type 0 where
      pub interpolant : Interpolant K w M c
      pub at0 : F
      pub at1 : F
      pub value0 : Val K w p.x p.y (without_z K c) at0
      pub value1 : Val K w p.x p.y (with_z K M c) at1
      pub total : at_z p.z at0 at1 ≡ v

    abbrev pub Through : {P : Type 0} → (P → Sample) → List P → (ℕ → F) → Type 0
    Through sample ps = Common K (Interpolant K w M) (λ p. Value (sample p)) ps

    pub value-total : (p : Sample) {c : ℕ → F} → Interpolant K w M c → (v : F) × Value p c v
    value-total p {c} q =
        let f = fn-without_z K w M q in
        let g = fn_with_z K w M q in (
          _,
          record {
            interpolant = q;
            at0 = _;
            at1 = _;
            value0 = weighted-total K _ f.bound f.ends;
            value1 = weighted-total K _ g.bound g.ends;
            total = refl;
          },
        )

    pub value-unique : (p : Sample) {c : ℕ → F} {u v : F} → Value p c u → Value p c v → u ≡ v
    value-unique p a b =
        sym a.total
        ∙ ap₂ (at_z p.z) (weighted-unique K a.value0 b.value0) (weighted-unique K a.value1 b.value1)
        ∙ b.total

    module _ {P : Type 0} (sample : P → Sample) where
      pub through-joined : {ps : List P} {a b : ℕ → F} → Fn K w a → Fn K w b
          → ((p : P) → Memᴰ p ps → (v : F) × Val K w (sample p).x (sample p).y b v × Val K w (sample p).x (sample p).y a ((sample p).z ⊗ v))
          → Through sample ps (joined K M a b)
      through-joined {ps} {a} {b} f g h =
          let q = interpolant-joined K w M f g in
          record {
            member = q;
            vanishes = λ p m.
                let t = h p m in
                record {
                  interpolant = q;
                  at0 = (sample p).z ⊗ t.0;
                  at1 = t.0;
                  value0 = weighted-by K (without-joined K M a b) t.2;
                  value1 = weighted-by K (with-joined K M a b) t.1;
                  total = add-self K ((sample p).z ⊗ t.0);
                };
          }

      -- 'the least Q has the smallest highest term'
      pub least-term : {ps : List P} {c : ℕ → F} {l : ℕ} → Least K (Through sample ps) c l
          → (t : Term) × Present w (monomial_order t) × (l ≡ key M t)
          × ((d : ℕ → F) (u : Term) → Through sample ps d → Lead K d (key M u) → (t ≡ u) ⊎ Before M t u)
      least-term {ps} {c} {l} h = go (interpolant-lead K w M h.member.member h.leads)
        where
          go : IsKey w M l
              → (t : Term) × Present w (monomial_order t) × (l ≡ key M t)
              × ((d : ℕ → F) (u : Term) → Through sample ps d → Lead K d (key M u) → (t ≡ u) ⊎ Before M t u)
          go (is_key t p e) = (
            t,
            p,
            e,
            λ d u f g.
                let le : key M t ≤ key M u = subst (λ k. k ≤ key M u) e (h.least d (key M u) f g) in
                ⊎_elim (λ q. inl (key-injective M t u q)) (λ q. inr (key-before M t u q)) (eq-or-lt_of_le le),
          )

    module _ (two : 2 ≤ w) where
      pub value-plus : (p : Sample) {c d : ℕ → F} {u v : F} → Value p c u → Value p d v → Value p (plus K c d) (u ⊕ v)
      value-plus p a b =
          record {
            interpolant = (interpolant-space K w M two).sums a.interpolant b.interpolant;
            at0 = _;
            at1 = _;
            value0 = weighted-plus K a.value0 b.value0;
            value1 = weighted-plus K a.value1 b.value1;
            total = at_z-plus p.z _ _ _ _ ∙ ap₂ (λ s t. s ⊕ t) a.total b.total;
          }

      pub value-scale : (p : Sample) (k : F) {c : ℕ → F} {v : F} → Value p c v → Value p (scale K k c) (k ⊗ v)
      value-scale p k a =
          record {
            interpolant = (interpolant-space K w M two).multiples k a.interpolant;
            at0 = _;
            at1 = _;
            value0 = weighted-scale K k a.value0;
            value1 = weighted-scale K k a.value1;
            total = at_z-factor p.z k _ _ ∙ ap (λ s. k ⊗ s) a.total;
          }

      -- multiplication by x multiplies both parts by x
      pub value-shift : (p : Sample) {c : ℕ → F} {v : F} → Value p c v → Value p (shift K (2 * w) c) (p.x ⊗ v)
      value-shift p {c} a =
          let q = a.interpolant in
          record {
            interpolant = (interpolant-space K w M two).shifts q;
            at0 = _;
            at1 = _;
            value0 =
                weighted-by K (without-shift K M w c)
                (val-times_x K w two p.x p.y p.on (fn-without_z K w M q) a.value0);
            value1 =
                weighted-by K (with_shift K M w c (gap K w M q))
                (val-times_x K w two p.x p.y p.on (fn_with_z K w M q) a.value1);
            total = at_z-factor p.z p.x _ _ ∙ ap (λ s. p.x ⊗ s) a.total;
          }

      abbrev pub evaluation : Sample → Functional K (2 * w) (Interpolant K w M)
      evaluation p =
          record {
            Val = Value p;
            multiplier = p.x;
            total = value-total p;
            unique = value-unique p;
            val_plus = value-plus p;
            val_scale = value-scale p;
            val_shift = value-shift p;
          }

      module _ {P : Type 0} (sample : P → Sample) where
        pub through-space : (ps : List P) → Space K (2 * w) (Through sample ps)
        through-space ps = common-space K (λ p. evaluation (sample p)) (interpolant-space K w M two) ps

        pub through-basis : (L : ℕ) (ps : List P) → (G : ℕ → ℕ → F) × (l : ℕ → ℕ) × Basis K (2 * w) L (Through sample ps) G l
        through-basis L ps =
            koetter K (2 * w) L (interpolant-space K w M two) (λ p. evaluation (sample p)) (λ r. unit K (first w M r)) (first w M)
            (interpolant-start K w M two L) ps
