use Prim.Native.Nat.{◌-◌}
use Rattle.lists.specs.Filled.{Filled}
use Rattle.soft.specs.Column.{cost_from}
use Rattle.columns.proofs.costs.fill.Given as goal

abbrev pub invariant-loop-i : goal.invariant-loop-i
invariant-loop-i l = Filled l.initial.out (cost_from l.bytes) l.i l.out

abbrev pub decreases-loop-i : goal.decreases-loop-i
decreases-loop-i l = l.i-end - l.i
