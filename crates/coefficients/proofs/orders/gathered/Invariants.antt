use Prim.Native.Nat.{◌-◌, ◌≤◌}
use Rattle.coefficients.proofs.Turns.{GatheredTo}
use Rattle.coefficients.proofs.orders.gathered.Given as goal

abbrev pub invariant-loop-x : goal.invariant-loop-x
invariant-loop-x l = (l.x ≤ 16) × GatheredTo l.sums l.x l.out

abbrev pub decreases-loop-x : goal.decreases-loop-x
decreases-loop-x l = 16 - l.x
