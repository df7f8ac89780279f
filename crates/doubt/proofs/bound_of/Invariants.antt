use Prim.Native.Nat.{◌≤◌, ◌-◌}
use Rattle.doubt.specs.Keys.{far}
use Rattle.weighing.specs.Bound.{Bound}
use Rattle.doubt.proofs.bound_of.Given as goal

abbrev pub invariant-loop-round : goal.invariant-loop-round
invariant-loop-round l = (l.round ≤ l.doubt) × Bound 64 far l.keys l.round l.bound

abbrev pub decreases-loop-round : goal.decreases-loop-round
decreases-loop-round l = l.doubt - l.round
