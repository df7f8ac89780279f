-- `columns::bits::values_at` meets its contract. The loop's invariant: the values passed are stored, the rest is as it was.
use mathlib.Core.Path.{◌≡◌}
use native.Mathlib.Omega.{arith}
use Rattle.lists.specs.Listed.{listed_start, listed-store, listed-end}
use Rattle.soft.specs.Bits.{values_at}
use Rattle.columns.proofs.bits.values_at.Goals as goal

pub loop-i-init : goal.loop-i-init
loop-i-init c = (omega arith, listed_start _ _)

pub loop-i-preserved : goal.loop-i-preserved
loop-i-preserved c =
    (omega arith, listed-store 0 _ _ _ _ _ (omega arith) c.entry_or.ensures c.loop-i.invariant.1)

pub returns : goal.returns
unfolding values_at
returns c =
    let e : c.loop-i.i ≡ 4 = omega arith in
    rw e at (listed-end _ _ _ _ (omega arith) c.loop-i.invariant.1)
