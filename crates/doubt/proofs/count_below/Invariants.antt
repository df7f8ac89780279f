use mathlib.Core.Path.{◌≡◌}
use Prim.Native.Nat.{◌/◌, ◌≤◌, ◌-◌}
use lib.Dec.{ltb}
use Rattle.lists.specs.Count.{count}
use Rattle.weighing.specs.Keys.{entry_of}
use Rattle.doubt.proofs.count_below.Given as goal

abbrev pub invariant-loop-place : goal.invariant-loop-place
invariant-loop-place l =
    (l.place ≤ 64) × (l.n ≤ l.place) × (l.n ≡ count l.place (λ p. ltb (entry_of l.keys p / 64) l.limit))

abbrev pub decreases-loop-place : goal.decreases-loop-place
decreases-loop-place l = 64 - l.place
