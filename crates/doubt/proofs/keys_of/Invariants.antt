use Prim.Native.Nat.{◌≤◌, ◌-◌}
use Rattle.lists.specs.Passed.{Passed}
use Rattle.doubt.specs.Keys.{far}
use Rattle.weighing.specs.Summed.{key_rule}
use Rattle.doubt.proofs.keys_of.Given as goal

abbrev pub invariant-loop-place : goal.invariant-loop-place
invariant-loop-place l =
    (l.place ≤ 64) × Passed 0 (key_rule 64 far l.least l.gaps l.counts) 0 l.place l.initial.out l.out

abbrev pub decreases-loop-place : goal.decreases-loop-place
decreases-loop-place l = 64 - l.place
