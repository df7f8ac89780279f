-- One step on eight rows of values in planes and their leads, by part and place: the facts of stepping at this member.
--
--   classes                 8: one row for each remainder of a key
--   row_values rows r        the values of row r by part and place
--   discrepancy_of L l row p    the symbol at place p of the values of a row, and 0 for a spent class: l > L
--   discrepancy_at           that of class r; discrepancies-are: they are those that a step asks for
--   NextRows at a ds rows out   out has the rows after a step at class at: the pivot's is multiplied by x + a, and another is cleared, by the multiple of
--                           the pivot's that takes its discrepancy away
--   MovedRows q c rows out  the same rows by another symbol at place q, c away from the old one
use Rattle.std.specs.Prelude.{◌≡◌, List, [], ℕ, ◌%◌, ◌<◌, length, get_or}
use Rattle.std.proofs.Common.{sym, ap, ◌∙◌, mod-eq_of_lt}
use Rattle.lists.specs.Listed.{listed}
use Rattle.galois.specs.Field16.{GF}
use Rattle.family.specs.Member.{m16, places}
use Rattle.planes.specs.Arrays.{symbol_at, symbol-lt, element-symbol}
use Rattle.planes.specs.Rows.{value_at, whole_of, value-whole}
use Rattle.stepping.specs.Step as Stepping
use Rattle.basis.specs.Choice.{lead_at}

abbrev pub classes : ℕ
classes = 8

unfoldable pub row_values : List (List ℕ) → ℕ → ℕ → ℕ → GF
row_values rows r h p = value_at h (get_or rows r []) p

abbrev pub discrepancy_of : ℕ → ℕ → List ℕ → ℕ → ℕ
discrepancy_of L l row p = Stepping.discrepancy_of L l (symbol_at (whole_of row) p)

unfoldable pub discrepancy_at : ℕ → List ℕ → List (List ℕ) → ℕ → ℕ → ℕ
discrepancy_at L leads rows p r = discrepancy_of L (lead_at leads r) (get_or rows r []) p

pub discrepancies-are : (L : ℕ) (leads : List ℕ) (rows : List (List ℕ)) (p : ℕ) {ds : List ℕ} → p < places m16
    → ds ≡ listed classes (discrepancy_at L leads rows (p % 64)) → Stepping.DiscrepanciesAt m16 L leads (row_values rows) p ds
unfolding row_values discrepancy_at Stepping.discrepancy_at
discrepancies-are L leads rows p inside e =
    Stepping.discrepancies-by m16 L leads (λ r. symbol_at (whole_of (get_or rows r [])) p) (λ r h. symbol-lt (whole_of (get_or rows r [])) p)
    (λ r h. sym (element-symbol (whole_of (get_or rows r [])) p) ∙ value-whole (get_or rows r []) p)
    (e ∙ ap (λ q. listed classes (discrepancy_at L leads rows q)) (mod-eq_of_lt inside))

pub record NextRows (at a : ℕ) (ds : List ℕ) (rows out : List (List ℕ)) : Type 0 where
  pub as_long : length out ≡ length rows
  pub next : Stepping.NextRows m16 at a ds (row_values rows) (row_values out)

pub record MovedRows (q c : ℕ) (rows out : List (List ℕ)) : Type 0 where
  pub as_long : length out ≡ length rows
  pub moved : Stepping.MovedRows m16 q c (row_values rows) (row_values out)
