-- What `extend_own` and `extend` return: the lemmas of stepping, of rows in planes.
use mathlib.Core.Path.{◌≡◌, ap, ◌∙◌}
use mathlib.Core.List.{List}
use Prim.Native.Nat.{ℕ, ◌+◌, ◌%◌, ◌<◌, ◌≤◌}
use native.Mathlib.Nat.{mod-eq_of_lt}
use lib.ListN.{length, get_or, set}
use Rattle.lists.specs.Listed.{listed}
use Rattle.galois.specs.Field16.{to_f}
use Rattle.family.specs.Member.{m16, places}
use Rattle.curve.specs.Curve.{x_of}
use Rattle.stepping.specs.Extended as Stepping
use Rattle.basis.specs.Choice.{Chosen}
use Rattle.basis.specs.Step.{classes, row_values, discrepancy_at, discrepancies-are, NextRows, MovedRows}
use Rattle.interpolation.specs.Extending.{ExtendsOwn, Extends}

module _ (L : ℕ) (rows : List (List ℕ)) (leads : List ℕ) (p : ℕ) (inside : p < places m16) (ds : List ℕ)
    (ds-are : ds ≡ listed classes (discrepancy_at L leads rows (p % 64))) (at : ℕ) (chosen : Chosen classes ds leads at) where
  pub chosen_live : at < classes → get_or leads at 0 ≤ L
  chosen_live = Stepping.chosen_live m16 row_values L rows leads p inside ds (discrepancies-are L leads rows p inside ds-are) at chosen

  pub extends-same : classes ≤ at → ExtendsOwn L p rows leads rows leads
  extends-same = Stepping.extends-same m16 row_values L rows leads p inside ds (discrepancies-are L leads rows p inside ds-are) at chosen

  pub extends-raised : (rows' : List (List ℕ)) (x : ℕ) → at < classes → length leads ≡ classes → x ≡ x_of (p % 64) → NextRows at x ds rows rows'
      → ExtendsOwn L p rows leads rows' (set leads at (get_or leads at 0 + classes))
  extends-raised rows' x h size x-is step =
      Stepping.extends-raised m16 row_values L rows leads p inside ds (discrepancies-are L leads rows p inside ds-are) at chosen rows' x h size step.as_long
      (ap to_f (x-is ∙ ap x_of (mod-eq_of_lt inside))) step.next

module _ {L p c : ℕ} {rows : List (List ℕ)} {leads : List ℕ} {rows' : List (List ℕ)} {leads' : List ℕ} where
  pub extends-moved : (between : List (List ℕ)) → MovedRows p c rows between → ExtendsOwn L p between leads rows' leads' → Extends L p c rows leads rows' leads'
  extends-moved between move E = Stepping.extends-moved m16 row_values between move.as_long move.moved E

  pub extends-kept : c ≡ 0 → ExtendsOwn L p rows leads rows' leads' → Extends L p c rows leads rows' leads'
  extends-kept e E = Stepping.extends-kept m16 row_values e E
