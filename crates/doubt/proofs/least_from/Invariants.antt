use mathlib.Core.Path.{◌≡◌}
use Prim.Native.Nat.{◌≤◌, ◌-◌}
use Rattle.lists.specs.Least.{least_of}
use Rattle.doubt.specs.Keys.{far}
use Rattle.weighing.specs.Bound.{key_from}
use Rattle.doubt.proofs.least_from.Given as goal

abbrev pub invariant-loop-place : goal.invariant-loop-place
invariant-loop-place l = (l.place ≤ 64) × (l.least ≡ least_of far l.place (key_from far l.bound l.keys))

abbrev pub decreases-loop-place : goal.decreases-loop-place
decreases-loop-place l = 64 - l.place
