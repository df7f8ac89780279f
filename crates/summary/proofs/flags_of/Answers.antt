-- `summary::flags_of` meets its contract. The loop's invariant: the flags of the places passed are stored, the rest is as it was.
use mathlib.Core.Path.{◌≡◌, ap, ◌∙◌}
use native.Mathlib.Omega.{arith}
use lib.ListN.{get_or}
use Rattle.lists.specs.Listed.{listed_at, listed_start, listed-store, listed-end}
use Rattle.soft.specs.Column.{column_of}
use Rattle.soft.specs.ColumnLaws.{column-length}
use Rattle.soft.specs.Blank.{flags_of}
use Rattle.soft.specs.Mark.{plain_gap}
use Rattle.summary.proofs.Turns.{all_open}
use Rattle.summary.proofs.flags_of.Goals as goal

pub returns-then-smallest-ne0 : goal.returns-then-smallest-ne0
returns-then-smallest-ne0 c =
    all_open (column_of 16 _) (λ p l. column-length 16 _ p) _ c.requires (λ e. c.if-smallest-ne0.true (c.smallest.ensures ∙ e))

pub loop-place-init : goal.loop-place-init
loop-place-init c = (omega arith, listed_start _ _)

pub flag_of-requires : goal.flag_of-requires
flag_of-requires c =
    let place = c.loop-place.place in
    ap (λ g. get_or g place 0) c.requires ∙ listed_at 64 place (plain_gap (column_of 16 _)) 0 (omega arith)

pub loop-place-preserved : goal.loop-place-preserved
loop-place-preserved c = (omega arith, listed-store 0 _ _ _ _ _ (omega arith) c.flag_of.ensures c.loop-place.invariant.1)

pub returns : goal.returns
unfolding flags_of
returns c =
    let e : c.loop-place.place ≡ 64 = omega arith in
    rw e at (listed-end _ _ _ _ (omega arith) c.loop-place.invariant.1)
