-- The rows of a step, stored one after another: the cells of stepping, each a whole row.
--
--   factor_of ds by, Cleared ds by pivot rows   of row k: what is stored is the row and a multiple of the pivot's
--   added-zero, added-product  of no discrepancy the row itself; otherwise by the product that the code computes
--   step-stored                the pivot's row is cleared by nothing, and is the last to be stored
--   MovedRow q c rows          of row k: what is stored is the row by another symbol
use mathlib.Core.Path.{◌≡◌, ap, ap₂, ◌∙◌, subst}
use mathlib.Core.List.{List, []}
use Prim.Native.Nat.{ℕ, ◌+◌, ◌<◌, ◌≤◌}
use native.Mathlib.Omega.{arith}
use lib.ListN.{length, get_or, set, length-set}
use lib.Seq.{get_or-set_other}
use Rattle.lists.specs.Passed.{Passed}
use Rattle.galois.specs.Gf16.{gf16, times, inverse}
use Rattle.galois.specs.Field16.{to_f, to_f-zero, times_comm, times_zero}
use Rattle.family.specs.Member.{m16, places, px}
use Rattle.lanewise.specs.Multiples.{by-nothing}
use Rattle.planes.specs.Rows.{AddedBy, MultiplesOf, Raised, Moved}
use Rattle.stepping.specs.Cells as Cells
use Rattle.basis.specs.Step.{classes, row_values, NextRows, MovedRows}

-- the multiple that clears row k
unfoldable pub factor_of : List ℕ → ℕ → ℕ → ℕ
factor_of ds by k = times (get_or ds k 0) by

-- what is stored as row k
abbrev pub Cleared : List ℕ → ℕ → List ℕ → List (List ℕ) → ℕ → List ℕ → Type 0
Cleared ds by pivot rows = Cells.Cleared gf16 (factor_of ds by) pivot rows

pub added-zero : {row : List ℕ} {ms : List (List ℕ)} (d by : ℕ) → d ≡ 0 → AddedBy row (times d by) ms row
added-zero d by e = by-nothing gf16 2 2 (ap (λ x. to_f (times x by)) e ∙ ap to_f (times_comm 0 by ∙ times_zero by) ∙ to_f-zero)

pub added-product : {row r : List ℕ} {ms : List (List ℕ)} {k : ℕ} (d by : ℕ) → k ≡ times d by → AddedBy row k ms r → AddedBy row (times d by) ms r
added-product {row} {r} {ms} d by e h = subst (λ x. AddedBy row x ms r) e h

pub cleared-turn : (ds : List ℕ) (by : ℕ) (pivot : List ℕ) (rows out : List (List ℕ)) (k : ℕ) (v : List ℕ) {ms : List (List ℕ)} → k < length rows
    → Passed [] (Cleared ds by pivot rows) 0 k rows out → AddedBy (get_or out k []) (times (get_or ds k 0) by) ms v → MultiplesOf pivot ms
    → Passed [] (Cleared ds by pivot rows) 0 (k + 1) rows (set out k v)
unfolding factor_of
cleared-turn ds by pivot rows out k v l P A made = Cells.cleared-turn gf16 2 2 0 (factor_of ds by) pivot rows out k v (omega arith) l P A made

pub step-stored : (at a : ℕ) (ds : List ℕ) (rows out : List (List ℕ)) (by i : ℕ) (last : List ℕ) → at < classes → classes ≤ i → length rows ≡ classes
    → by ≡ inverse (get_or ds at 0) → Passed [] (Cleared (set ds at 0) by (get_or rows at []) rows) 0 i rows out → Raised (get_or rows at []) a last
    → NextRows at a ds rows (set out at last)
unfolding row_values factor_of
step-stored at a ds rows out by i last h done size b P R =
    let N =
    Cells.cells-stored gf16 classes (places m16) {x = px m16} (λ r. r) at a ds (factor_of (set ds at 0) by) rows out 0 i last h
    (λ r l. (omega arith, omega arith, omega arith)) (λ r l e. e) (λ r l n. ap₂ times (get_or-set_other ds at r 0 0 n) b) P R in
    record {
      as_long = length-set out at last ∙ P.as_long;
      next = record { pivot = N.pivot.lanes; other = λ r l n p q m k. (N.other r l n).lanes p q m };
    }

-- ---- the rows by another symbol
abbrev pub MovedRow : ℕ → ℕ → List (List ℕ) → ℕ → List ℕ → Type 0
MovedRow q c rows = Cells.MovedCell gf16 (places m16) q c rows

pub moved-turn : (q c : ℕ) (rows out : List (List ℕ)) (k : ℕ) (v : List ℕ) → k < length rows → Passed [] (MovedRow q c rows) 0 k rows out
    → Moved (get_or out k []) q c v → Passed [] (MovedRow q c rows) 0 (k + 1) rows (set out k v)
moved-turn q c rows out k v l P m = Cells.moved-turn gf16 (places m16) q c 0 rows out k v (omega arith) l P m

pub moved-stored : (q c : ℕ) (rows out : List (List ℕ)) (i : ℕ) → classes ≤ i → Passed [] (MovedRow q c rows) 0 i rows out → MovedRows q c rows out
unfolding row_values
moved-stored q c rows out i done P =
    record {
      as_long = P.as_long;
      moved = record {
        slopes = λ r p l k. (P.stored r (omega arith) (omega arith)).is.slopes p;
        here = λ r l. (P.stored r (omega arith) (omega arith)).is.here;
        elsewhere = λ r p l k. (P.stored r (omega arith) (omega arith)).is.elsewhere p k;
      };
    }
