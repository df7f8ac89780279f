-- `columns::costs::whole_column` meets its contract. The loop's invariant: the costs passed are stored, the rest is as it was.
use mathlib.Core.Path.{◌≡◌, refl}
use native.Mathlib.Omega.{arith}
use Rattle.lists.specs.Listed.{listed_start, listed-store, listed-end}
use Rattle.soft.specs.Column.{column_of}
use Rattle.columns.proofs.costs.whole_column.Goals as goal

pub loop-s-init : goal.loop-s-init
loop-s-init c = (omega arith, listed_start _ _)

pub loop-s-preserved : goal.loop-s-preserved
loop-s-preserved c = (omega arith, listed-store 0 _ _ _ _ _ (omega arith) refl c.loop-s.invariant.1)

pub returns : goal.returns
unfolding column_of
returns c =
    let e : c.loop-s.s ≡ 16 = omega arith in
    rw e at (listed-end _ _ _ _ (omega arith) c.loop-s.invariant.1)
