use mathlib.Core.Path.{◌≡◌}
use mathlib.Core.List.{◌++◌}
use Prim.Native.Nat.{◌≤◌, ◌-◌}
use lib.ListN.{drop}
use Rattle.lists.specs.Count.{bit}
use Rattle.lists.specs.Listed.{listed}
use Rattle.soft.specs.Column.{column_of}
use Rattle.soft.specs.Blank.{open_at}
use Rattle.summary.proofs.flags_of.Given as goal

abbrev pub invariant-loop-place : goal.invariant-loop-place
invariant-loop-place l = (l.place ≤ 64) × (l.out ≡ listed l.place (λ p. bit (open_at (column_of 16 l.costs) p)) ++ drop l.place l.initial.out)

abbrev pub decreases-loop-place : goal.decreases-loop-place
decreases-loop-place l = 64 - l.place
