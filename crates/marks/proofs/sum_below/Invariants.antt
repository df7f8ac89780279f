use mathlib.Core.Bool.{cond}
use mathlib.Core.Path.{◌≡◌}
use Prim.Native.Nat.{◌≤◌, ◌-◌, ◌*◌}
use lib.Dec.{ltb}
use lib.ListN.{get_or}
use Rattle.lists.specs.Count.{sum_of}
use Rattle.weighing.specs.Low.{above}
use Rattle.marks.proofs.sum_below.Given as goal

abbrev pub invariant-loop-place : goal.invariant-loop-place
invariant-loop-place l =
    (l.place ≤ 64) × (l.sum ≤ above * l.place) × (l.sum ≡ sum_of l.place (λ p. cond (ltb (get_or l.gaps p 0) l.limit) (get_or l.gaps p 0) 0))

abbrev pub decreases-loop-place : goal.decreases-loop-place
decreases-loop-place l = 64 - l.place
