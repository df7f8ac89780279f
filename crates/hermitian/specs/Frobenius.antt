-- x^q + x, which vanishes at every point of a field of q elements: there is always a Q, and the least Q has no key above 2wq.
--
--   value-plain          the value of one term without z is that of its monomial
--   value-power          that of x^i is the power of x
--   constant-nowhere     a Q whose highest term is 1 vanishes nowhere
--   frobenius w q        x^q + x, as a Q on keys
--   frobenius-lead, frobenius-one   its highest key is 2wq, with coefficient 𝟙
--   frobenius-through    it vanishes at samples with x^q = x
--   frobenius-bound, least-Q-frobenius   so through any such samples there is a least Q, and its key is at most 2wq;
--   frobenius-least      it is x^q + x where no Q through them has a smaller lead
use Rattle.std.specs.Prelude.{◌≡◌, refl, List, ℕ, ◌+◌, ◌-◌, ◌*◌, ◌<◌, ◌≤◌}
use Rattle.std.proofs.Common.{sym, ap, ◌∙◌, subst, subst₂, le_refl, mul-le-mul_right}
use Rattle.std.proofs.Math.Path.{ap₂, fun_ext}
use Rattle.std.proofs.Math.Decide.{ℕ_discrete}
use native.Mathlib.Omega.{arith}
use Rattle.algebra.specs.Field.{Field, add-zero, add-self, mul-zero, mul-one}
use Rattle.algebra.specs.Power.{pow, pow-nil, pow-one}
use Rattle.algebra.specs.Coefficients.{plus, scale, Lead, below-mono, lead-plus, unit, unit-at, unit-off, lead-unit}
use Rattle.algebra.specs.Weighted.{weighted-by, weighted-zero}
use Rattle.algebra.specs.Least.{Least, least-exists}
use Rattle.hermitian.specs.Present.{Present, present-at, divided}
use Rattle.hermitian.specs.Value.{monomial, val-unit}
use Rattle.hermitian.specs.Keys.{is_key, plain}
use Rattle.hermitian.specs.Interpolant.{without_z, with_z, interpolant-unit, interpolant-space}
use Rattle.hermitian.specs.Interpolation.{Sample, Value, Through, value-unique, value-plus, value-scale, through-basis, through-space}

module _ {F : Type 0} (K : Field F) where
  open K use {◌⊕◌, ◌⊗◌, 𝟘, 𝟙}

  pub unit-plain : (o : ℕ) → without_z K (unit K (2 * o)) ≡ unit K o
  unit-plain o = fun_ext (λ k. go k (ℕ_discrete k o))
    where
      go : (k : ℕ) → Dec (k ≡ o) → unit K (2 * o) (2 * k) ≡ unit K o k
      go k (yes e) = ap (λ i. unit K (2 * o) (2 * i)) e ∙ unit-at K (2 * o) ∙ sym (ap (unit K o) e ∙ unit-at K o)
      go k (no e) = unit-off K (2 * o) (2 * k) (λ (q : 2 * k ≡ 2 * o). e (omega arith)) ∙ sym (unit-off K o k e)

  pub unit-z : (M o : ℕ) → with_z K M (unit K (2 * o)) ≡ (λ k. 𝟘)
  unit-z M o = fun_ext (λ k. unit-off K (2 * o) (2 * (k + M) + 1) (λ (q : 2 * (k + M) + 1 ≡ 2 * o). absurd (omega arith)))

  module _ (w : ℕ) (two : 2 ≤ w) (M : ℕ) where
    pub value-plain : (p : Sample K w) (o : ℕ) → Present w o → Value K w M p (unit K (2 * o)) (monomial K w p.x p.y o)
    value-plain p o h =
        record {
          interpolant = interpolant-unit K w M (is_key (plain o) h refl);
          at0 = _;
          at1 = 𝟘;
          value0 = weighted-by K (unit-plain o) (val-unit K w two p.x p.y o);
          value1 = weighted-by K (unit-z M o) (weighted-zero K _);
          total = ap (λ a. monomial K w p.x p.y o ⊕ a) (mul-zero K p.z) ∙ add-zero K _;
        }

    -- the monomial of order i·w is x^i
    monomial-power : (x y : F) (i : ℕ) → monomial K w x y (i * w) ≡ pow K x i
    unfolding monomial
    monomial-power x y i =
        let d = divided {w = w} {o = i * w} i 0 (omega arith) (omega arith) in
        let e : i - 0 ≡ i = omega arith in
        ap₂ (λ q r. pow K x (q - r) ⊗ pow K y r) d.0 d.1 ∙ ap₂ (λ k a. pow K x k ⊗ a) e (pow-nil K y) ∙ mul-one K _

    power-present : (i : ℕ) → Present w (i * w)
    power-present i = present-at i 0 (omega arith) (omega arith) (omega arith)

    pub value-power : (p : Sample K w) (i : ℕ) → Value K w M p (unit K (2 * (i * w))) (pow K p.x i)
    value-power p i = subst (Value K w M p _) (monomial-power p.x p.y i) (value-plain p (i * w) (power-present i))

    pub constant-nowhere : (p : Sample K w) {c : ℕ → F} → Lead K c 0 → Value K w M p c 𝟘 → ⊥
    constant-nowhere p {c} h v =
        h.ne (sym (mul-one K (c 0)) ∙ value-unique K w M p (subst (λ d. Value K w M p d (c 0 ⊗ 𝟙)) (fun_ext (λ k. go k (ℕ_discrete k 0))) one) v)
      where
        one : Value K w M p (scale K (c 0) (unit K 0)) (c 0 ⊗ 𝟙)
        one =
            let o : 2 * (0 * w) ≡ 0 = omega arith in
            value-scale K w M two p (c 0) (subst₂ (λ k a. Value K w M p (unit K k) a) o (pow-nil K p.x) (value-power p 0))

        go : (k : ℕ) → Dec (k ≡ 0) → c 0 ⊗ unit K 0 k ≡ c k
        go k (yes e) = ap (λ a. c 0 ⊗ a) (ap (unit K 0) e ∙ unit-at K 0) ∙ mul-one K (c 0) ∙ ap c (sym e)
        go k (no e) = ap (λ a. c 0 ⊗ a) (unit-off K 0 k e) ∙ mul-zero K (c 0) ∙ sym (h.above.zero_from k (omega arith))

  abbrev pub frobenius : ℕ → ℕ → ℕ → F
  frobenius w q = plus K (unit K (2 * (q * w))) (unit K (2 * w))

  module _ (w : ℕ) (two : 2 ≤ w) (M q : ℕ) where
    module _ (large : 2 ≤ q) where
      higher : 2 * w < 2 * (q * w)
      higher = omega (arith, mul-le-mul_right w large)

      pub frobenius-lead : Lead K (frobenius w q) (2 * (q * w))
      frobenius-lead = lead-plus K (lead-unit K (2 * (q * w))) (below-mono K higher (lead-unit K (2 * w)).above)

      pub frobenius-one : frobenius w q (2 * (q * w)) ≡ 𝟙
      frobenius-one =
          ap₂ (λ a b. a ⊕ b) (unit-at K (2 * (q * w))) (unit-off K (2 * w) (2 * (q * w)) (λ (e : 2 * (q * w) ≡ 2 * w). omega (arith, higher)))
          ∙ add-zero K 𝟙

    frobenius-value : (p : Sample K w) → pow K p.x q ≡ p.x → Value K w M p (frobenius w q) 𝟘
    frobenius-value p e =
        let o : 1 * w ≡ w = omega arith in
        let v = subst (λ k. Value K w M p (unit K (2 * k)) (pow K p.x 1)) o (value-power w two M p 1) in
        subst (Value K w M p (frobenius w q)) (ap₂ (λ a b. a ⊕ b) e (pow-one K p.x) ∙ add-self K p.x)
        (value-plus K w M two p (value-power w two M p q) v)

    module _ {P : Type 0} (sample : P → Sample K w) (all : (p : P) → pow K (sample p).x q ≡ (sample p).x) where
      pub frobenius-through : (ps : List P) → Through K w M sample ps (frobenius w q)
      frobenius-through ps =
          record {
            member = (interpolant-space K w M two).sums (interpolant-unit K w M (is_key (plain (q * w)) (power-present w two M q) refl))
                (interpolant-unit K w M (is_key (plain w) (present-at 1 0 (omega arith) (omega arith) (omega arith)) refl));
            vanishes = λ p m. frobenius-value (sample p) (all p);
          }

      module _ (large : 2 ≤ q) where
        pub frobenius-least : (ps : List P) → ((d : ℕ → F) (m : ℕ) → Through K w M sample ps d → Lead K d m → 2 * (q * w) ≤ m)
            → Least K (Through K w M sample ps) (frobenius w q) (2 * (q * w))
        frobenius-least ps least =
            record { member = frobenius-through ps; leads = frobenius-lead large; monic = frobenius-one large; least = least }

        pub frobenius-bound : {ps : List P} {c : ℕ → F} {l : ℕ} → Least K (Through K w M sample ps) c l → l ≤ 2 * (q * w)
        frobenius-bound {ps} h = h.least (frobenius w q) (2 * (q * w)) (frobenius-through ps) (frobenius-lead large)

        pub least-Q-frobenius : (ps : List P) → (c : ℕ → F) × (l : ℕ) × Least K (Through K w M sample ps) c l × (l ≤ 2 * (q * w))
        least-Q-frobenius ps =
            let b = through-basis K w M two sample (2 * (q * w)) ps in
            let t = least-exists K b.2 (omega arith) (through-space K w M two sample ps) (frobenius-through ps) (frobenius-lead large) (le_refl _) in
            (t.0, t.1, t.2, frobenius-bound t.2)
