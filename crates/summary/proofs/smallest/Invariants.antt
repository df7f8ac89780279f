use mathlib.Core.Path.{◌≡◌}
use Prim.Native.Nat.{◌≤◌, ◌-◌}
use Rattle.lists.specs.Least.{least_of}
use Rattle.soft.specs.Column.{ceiling}
use Rattle.summary.specs.Summary.{entry_of}
use Rattle.summary.proofs.smallest.Given as goal

abbrev pub invariant-loop-place : goal.invariant-loop-place
invariant-loop-place l = (l.place ≤ 64) × (l.out ≡ least_of ceiling l.place (entry_of l.gaps))

abbrev pub decreases-loop-place : goal.decreases-loop-place
decreases-loop-place l = 64 - l.place
