-- The least element of a space: of smallest lead, with coefficient 𝟙 there. There is at most one, and a basis holds it.
--
--   Least K W c l        c is in W with lead l and coefficient 𝟙 there, and no element of W has a smaller lead
--   least-unique         a space has at most one
--   least-same           it depends on the elements of W alone
--   held-least           of a basis, the row of smallest lead among the classes that are not spent, divided by its leading coefficient, is least
--   class-lead           the row of an element's class has no larger lead than the element
--   held-exists          where an element of W has a lead up to the limit, such a row exists,
--   least-exists         and so does the least element
--   all-spent            where every class is spent, every lead is above the limit
use Rattle.std.specs.Prelude.{◌≡◌, refl, ℕ, ◌%◌, ◌<◌, ◌≤◌}
use Rattle.std.proofs.Common.{sym, ap, ap₂, ◌∙◌, subst, ⊎_elim, mod-lt, le_trans, arith}
use Rattle.std.proofs.Math.Path.{fun_ext}
use Rattle.std.proofs.Math.Decide.{dec_le}
use Rattle.lists.specs.Smallest.{Smallest, smallest-exists}
use Rattle.algebra.specs.Field.{Field, add-self, add-cancel, inv-mul, inv-ne-zero}
use Rattle.algebra.specs.Coefficients.{plus, scale, Below, Lead, below-plus, below-pred, zero-or-lead, lead-scale}
use Rattle.algebra.specs.Subspace.{Space, ◌⊆◌}
use Rattle.algebra.specs.Koetter.{Basis}

module _ {F : Type 0} (K : Field F) where
  open K use {◌⊕◌, 𝟘, 𝟙, inv}

  pub record Least (W : (ℕ → F) → Type 0) (c : ℕ → F) (l : ℕ) : Type 0 where
    pub member : W c
    pub leads : Lead K c l
    pub monic : c l ≡ 𝟙
    pub least : (d : ℕ → F) (m : ℕ) → W d → Lead K d m → l ≤ m

  pub least-same : {W W' : (ℕ → F) → Type 0} {c : ℕ → F} {l : ℕ} → ◌⊆◌ K W W' → ◌⊆◌ K W' W → Least W c l → Least W' c l
  least-same {c = c} into from h =
      record { member = into c h.member; leads = h.leads; monic = h.monic; least = λ d m e. h.least d m (from d e) }

  pub least-unique : {s : ℕ} {W : (ℕ → F) → Type 0} {c d : ℕ → F} {l m : ℕ} → Space K s W → Least W c l → Least W d m → (l ≡ m) × (c ≡ d)
  least-unique {s} {W} {c} {d} {l} {m} S p q = (same, fun_ext (λ k. add-cancel K (c k) (d k) (zero-sum k)))
    where
      same : l ≡ m
      same = omega (arith, p.least d m q.member q.leads, q.least c l p.member p.leads)

      sum-ends : Below K (plus K c d) l
      sum-ends =
          let q' = subst (Lead K d) (sym same) q.leads in
          below-pred K (below-plus K p.leads.above q'.above)
          (ap₂ (λ x y. x ⊕ y) p.monic (ap d same ∙ q.monic) ∙ add-self K 𝟙)

      -- the sum has a smaller lead, so none
      zero-sum : (k : ℕ) → c k ⊕ d k ≡ 𝟘
      zero-sum =
          ⊎_elim (λ z. z) (λ t. absurd (omega (arith, t.1, p.least (plus K c d) t.0 (S.sums p.member q.member) t.2)))
          (zero-or-lead K l sum-ends)

  module _ {s L : ℕ} {W : (ℕ → F) → Type 0} {G : ℕ → ℕ → F} {l : ℕ → ℕ} (B : Basis K s L W G l) where
    pub held-least : {r : ℕ} → Space K s W → Smallest s (λ q. l q ≤ L) l r → Least W (scale K (inv (G r (l r))) (G r)) (l r)
    held-least {r} S h =
        let e = B.held r h.within h.passes in
        record {
          member = S.multiples (inv (G r (l r))) e.member;
          leads = lead-scale K (inv (G r (l r))) (inv-ne-zero K (G r (l r)) e.leads.ne) e.leads;
          monic = inv-mul K (G r (l r)) e.leads.ne;
          least = λ d m x y.
              let q : m % s < s = mod-lt m (omega (arith, h.within)) in
              smaller q (B.least (m % s) q d m (record { member = x; leads = y; class = refl })) (dec_le (l (m % s)) L);
        }
      where
        smaller : {q m : ℕ} → q < s → l q ≤ m → Dec (l q ≤ L) → l r ≤ m
        smaller {q} b le (yes u) = le_trans (h.least q b u) le
        smaller {q} b le (no u) = omega (arith, h.passes)

    module _ (positive : 0 < s) where
      -- the class of an element is spent only if its lead is above the limit
      pub class-lead : {c : ℕ → F} {m : ℕ} → W c → Lead K c m → (m % s < s) × (l (m % s) ≤ m)
      class-lead {c} {m} h e =
          let q : m % s < s = mod-lt m positive in
          (q, B.least (m % s) q c m (record { member = h; leads = e; class = refl }))

      pub held-exists : {c : ℕ → F} {m : ℕ} → W c → Lead K c m → m ≤ L → (r : ℕ) × Smallest s (λ q. l q ≤ L) l r
      held-exists {c} {m} h e u =
          let t = class-lead h e in
          smallest-exists (λ q. l q ≤ L) (λ q. dec_le (l q) L) l t.0 (le_trans t.1 u)

      pub all-spent : ((r : ℕ) → r < s → L < l r) → {c : ℕ → F} {m : ℕ} → W c → Lead K c m → L < m
      all-spent spent {c} {m} h e =
          let t = class-lead h e in
          omega (arith, spent (m % s) t.0)

      pub least-exists : {c : ℕ → F} {m : ℕ} → Space K s W → W c → Lead K c m → m ≤ L → (d : ℕ → F) × (k : ℕ) × Least W d k
      least-exists S h e u =
          let t = held-exists h e u in
          (scale K (inv (G t.0 (l t.0))) (G t.0), l t.0, held-least S t.1)
