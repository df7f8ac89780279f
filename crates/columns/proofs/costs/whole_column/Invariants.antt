use mathlib.Core.Path.{◌≡◌}
use mathlib.Core.List.{◌++◌}
use Prim.Native.Nat.{◌≤◌, ◌-◌}
use lib.ListN.{drop}
use Rattle.lists.specs.Listed.{listed}
use Rattle.soft.specs.Column.{cost_at}
use Rattle.columns.proofs.costs.whole_column.Given as goal

abbrev pub invariant-loop-s : goal.invariant-loop-s
invariant-loop-s l = (l.s ≤ 16) × (l.out ≡ listed l.s (cost_at 16 l.costs l.place) ++ drop l.s l.initial.out)

abbrev pub decreases-loop-s : goal.decreases-loop-s
decreases-loop-s l = 16 - l.s
