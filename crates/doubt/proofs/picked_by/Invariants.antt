use mathlib.Core.Path.{◌≡◌}
use Prim.Native.Nat.{◌≤◌, ◌-◌}
use Rattle.lists.specs.Count.{count, kept}
use Rattle.lists.specs.Padded.{padded}
use Rattle.soft.specs.Doubt.{most_doubt}
use Rattle.weighing.specs.Bound.{below_at}
use Rattle.doubt.proofs.picked_by.Given as goal

abbrev pub invariant-loop-place : goal.invariant-loop-place
invariant-loop-place l =
    (l.place ≤ 64) × (l.found ≤ l.place) × (l.found ≡ count l.place (below_at l.keys l.bound)) × (l.out ≡ padded most_doubt (kept l.place (below_at l.keys l.bound)))

abbrev pub decreases-loop-place : goal.decreases-loop-place
decreases-loop-place l = 64 - l.place
