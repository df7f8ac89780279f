-- One step on rows of values and their leads, for every member: classes are the remainders of a key modulo 2w.
--
--   classes                 2w: one row for each remainder of a key
--   discrepancy_of L l s     the symbol s of a row at a place, and 0 for a spent class: l > L
--   discrepancy_at L leads s r    that of class r, whose row has the symbol s r there
--   DiscrepanciesAt L leads rows p ds   for each class ds has a symbol: that of the row's value at p, or 0 if it is spent
--   discrepancies-by        so they are where they are listed
--   NextRows at a ds rows rows'   the rows after a step at class at: the pivot's is multiplied by x + a, and another is cleared, by the multiple of
--                           the pivot's that takes its discrepancy away
--   MovedRows q c rows rows'   the same rows by another symbol at place q, c away from the old one
use Rattle.std.specs.Prelude.{◌≡◌, List, ◌≢◌, Bool, ℕ, ◌*◌, ◌<◌, ◌≤◌, ltb}
use Rattle.std.proofs.Common.{sym, ◌∙◌, lt-ltb, le-ltb}
use Rattle.std.proofs.Math.Path.{ap, subst}
use Rattle.std.proofs.Math.Bool.{true, false, cond}
use native.Mathlib.Omega.{arith}
use Rattle.std.proofs.Math.ListN.{get_or}
use Rattle.lists.specs.Listed.{listed, listed_at}
use Rattle.galois.specs.BinaryField.{K, to_f, times, inverse}
use Rattle.family.specs.Member.{Member, symbols, places, px}
use Rattle.values.specs.Holds.{Values}
use Rattle.stepping.specs.Choice.{lead_at}

unfoldable pub discrepancy_of : ℕ → ℕ → ℕ → ℕ
discrepancy_of L l s = cond (ltb L l) 0 s

unfoldable pub discrepancy_at : ℕ → List ℕ → (ℕ → ℕ) → ℕ → ℕ
discrepancy_at L leads s r = discrepancy_of L (lead_at leads r) (s r)

module _ (L l s : ℕ) where
  pub discrepancy-live : l ≤ L → discrepancy_of L l s ≡ s
  unfolding discrepancy_of
  discrepancy-live h = ap (λ b. cond b 0 s) (le-ltb L l h)

  pub discrepancy-spent : L < l → discrepancy_of L l s ≡ 0
  unfolding discrepancy_of
  discrepancy-spent h = ap (λ b. cond b 0 s) (lt-ltb L l h)

  discrepancy-small : (n : ℕ) → s < n → discrepancy_of L l s < n
  unfolding discrepancy_of
  discrepancy-small n h = go (ltb L l)
    where
      go : (b : Bool) → cond b 0 s < n
      go true = omega arith
      go false = h

module _ (𝓜 : Member) where
  open 𝓜 use {gf, w}
  open K gf use {◌⊕◌, ◌⊗◌}

  abbrev pub classes : ℕ
  classes = 2 * w

  pub record DiscrepanciesAt (L : ℕ) (leads : List ℕ) (rows : ℕ → Values 𝓜) (p : ℕ) (ds : List ℕ) : Type 0 where
    pub live : (r : ℕ) → r < classes → lead_at leads r ≤ L → to_f gf (get_or ds r 0) ≡ rows r 0 p
    pub spent : (r : ℕ) → r < classes → L < lead_at leads r → get_or ds r 0 ≡ 0
    pub small : (r : ℕ) → r < classes → get_or ds r 0 < symbols 𝓜

  pub discrepancies-by : (L : ℕ) (leads : List ℕ) {rows : ℕ → Values 𝓜} {p : ℕ} (s : ℕ → ℕ) {ds : List ℕ}
      → ((r : ℕ) → r < classes → s r < symbols 𝓜) → ((r : ℕ) → r < classes → to_f gf (s r) ≡ rows r 0 p)
      → ds ≡ listed classes (discrepancy_at L leads s) → DiscrepanciesAt L leads rows p ds
  unfolding discrepancy_at
  discrepancies-by L leads {rows} {p} s {ds} small is e =
      record {
        live = λ r h u. ap (to_f gf) (at r h ∙ discrepancy-live L (lead_at leads r) (s r) u) ∙ is r h;
        spent = λ r h u. at r h ∙ discrepancy-spent L (lead_at leads r) (s r) u;
        small = λ r h. subst (λ x. x < symbols 𝓜) (sym (at r h)) (discrepancy-small L (lead_at leads r) (s r) (symbols 𝓜) (small r h));
      }
    where
      at : (r : ℕ) → r < classes → get_or ds r 0 ≡ discrepancy_of L (lead_at leads r) (s r)
      at r h = ap (λ l. get_or l r 0) e ∙ listed_at classes r (discrepancy_at L leads s) 0 h

  pub record NextRows (at a : ℕ) (ds : List ℕ) (rows rows' : ℕ → Values 𝓜) : Type 0 where
    pub pivot : (h q : ℕ) → h < 2 → q < places 𝓜 → rows' at h q ≡ (px 𝓜 q ⊕ to_f gf a) ⊗ rows at h q
    pub other : (r : ℕ) → r < classes → r ≢ at → (h q : ℕ) → h < 2 → q < places 𝓜
        → rows' r h q ≡ rows r h q ⊕ to_f gf (times gf (get_or ds r 0) (inverse gf (get_or ds at 0))) ⊗ rows at h q

  pub record MovedRows (q c : ℕ) (rows rows' : ℕ → Values 𝓜) : Type 0 where
    pub slopes : (r p : ℕ) → r < classes → p < places 𝓜 → rows' r 1 p ≡ rows r 1 p
    pub here : (r : ℕ) → r < classes → rows' r 0 q ≡ rows r 0 q ⊕ to_f gf c ⊗ rows r 1 q
    pub elsewhere : (r p : ℕ) → r < classes → p < places 𝓜 → p ≢ q → rows' r 0 p ≡ rows r 0 p
