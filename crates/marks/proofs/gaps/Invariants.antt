use Prim.Native.Nat.{◌≤◌, ◌-◌}
use Rattle.lists.specs.Passed.{Passed}
use Rattle.weighing.specs.Low.{gap_rule}
use Rattle.marks.proofs.gaps.Given as goal

abbrev pub invariant-loop-place : goal.invariant-loop-place
invariant-loop-place l =
    (l.place ≤ 64) × Passed 0 (gap_rule l.plain l.flags) 0 l.place l.initial.out l.out

abbrev pub decreases-loop-place : goal.decreases-loop-place
decreases-loop-place l = 64 - l.place
