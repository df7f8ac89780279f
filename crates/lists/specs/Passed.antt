-- A loop that stores at one index after another: what an array holds while it runs.
--
--   Passed d P from i before out   out is as long as before, P k holds of the entry k for from ≤ k < i, and the other entries are those of before
--   passed_start   before the loop
--   passed-turn    a turn that stores v, of which P i holds, at i
use Rattle.std.specs.Prelude.{◌≡◌, refl, List, ℕ, ◌+◌, ◌<◌, ◌≤◌, length, get_or, set}
use Rattle.std.proofs.Common.{sym, ◌∙◌, subst, ⊎_elim, eq-or-lt_of_le, le_of_suc-le-suc, add-one, arith, length-set, get_or-set_same, get_or-set_other}

module _ {A : Type 0} (d : A) (P : ℕ → A → Type 0) where
  pub record Passed (from i : ℕ) (before out : List A) : Type 0 where
    pub as_long : length out ≡ length before
    pub stored : (k : ℕ) → from ≤ k → k < i → P k (get_or out k d)
    pub earlier : (k : ℕ) → k < from → get_or out k d ≡ get_or before k d
    pub later : (k : ℕ) → i ≤ k → get_or out k d ≡ get_or before k d

  pub passed_start : (from : ℕ) (before : List A) → Passed from from before before
  passed_start from before =
      record { as_long = refl; stored = λ k a b. absurd (omega arith); earlier = λ k a. refl; later = λ k a. refl }

  pub passed-turn : {from i : ℕ} {before out : List A} (v : A) → from ≤ i → i < length before → P i v → Passed from i before out
      → Passed from (i + 1) before (set out i v)
  passed-turn {from} {i} {before} {out} v low l p h =
      record {
        as_long = length-set out i v ∙ h.as_long;
        stored = λ k a b.
            ⊎_elim
            (λ (e : k ≡ i). subst (λ j. P j (get_or (set out i v) j d)) (sym e) (subst (P i) (sym (get_or-set_same out i v d (omega (arith, h.as_long)))) p))
            (λ (b : k < i). subst (P k) (sym (get_or-set_other out i k v d (λ (e : k ≡ i). absurd (omega arith)))) (h.stored k a b))
            (eq-or-lt_of_le (le_of_suc-le-suc (subst (λ j. k < j) (add-one i) b)));
        earlier = λ k a. get_or-set_other out i k v d (λ (e : k ≡ i). absurd (omega arith)) ∙ h.earlier k a;
        later = λ k a. get_or-set_other out i k v d (λ (e : k ≡ i). absurd (omega arith)) ∙ h.later k (omega arith);
      }
