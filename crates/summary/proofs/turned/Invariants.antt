use mathlib.Core.Path.{◌≡◌}
use mathlib.Core.List.{◌++◌}
use Prim.Native.Nat.{◌+◌, ◌≤◌, ◌-◌}
use lib.ListN.{drop}
use Rattle.lists.specs.Listed.{listed}
use Rattle.soft.specs.Column.{column_of}
use Rattle.summary.specs.Summary.{best_to, least_to, next_to}
use Rattle.summary.proofs.turned.Given as goal

abbrev pub invariant-loop-place : goal.invariant-loop-place
invariant-loop-place l =
    (l.place ≤ 64) × (l.bests ≡ listed l.place (best_to (column_of 16 l.costs) (l.symbol + 1)) ++ drop l.place l.initial.bests)
    × (l.leasts ≡ listed l.place (least_to (column_of 16 l.costs) (l.symbol + 1)) ++ drop l.place l.initial.leasts)
    × (l.nexts ≡ listed l.place (next_to (column_of 16 l.costs) (l.symbol + 1)) ++ drop l.place l.initial.nexts)

abbrev pub decreases-loop-place : goal.decreases-loop-place
decreases-loop-place l = 64 - l.place
