use Prim.Native.Nat.{◌≤◌, ◌-◌}
use Rattle.soft.specs.Column.{column_of}
use Rattle.summary.specs.Summary.{HeldTo}
use Rattle.summary.proofs.held_of.Given as goal

abbrev pub invariant-loop-symbol : goal.invariant-loop-symbol
invariant-loop-symbol l = (l.symbol ≤ 16) × HeldTo (column_of 16 l.costs) l.symbol l.held.best l.held.least l.held.next

abbrev pub decreases-loop-symbol : goal.decreases-loop-symbol
decreases-loop-symbol l = 16 - l.symbol
