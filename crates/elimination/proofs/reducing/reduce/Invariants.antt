use Prim.Native.Nat.{◌-◌, ◌≤◌}
use Rattle.family.specs.Member.{m16, places}
use Rattle.elimination.proofs.Clearing.{UpTo}
use Rattle.elimination.proofs.reducing.reduce.Given as goal

abbrev pub invariant-loop-place : goal.invariant-loop-place
invariant-loop-place l = (l.place ≤ places m16) × UpTo l.initial.rest l.pivots l.flags l.place l.rest

abbrev pub decreases-loop-place : goal.decreases-loop-place
decreases-loop-place l = places m16 - l.place
