-- The blank places are within the limit.
use native.Mathlib.Omega.{arith}
use Rattle.near.specs.Near as Near
use Rattle.candidate.proofs.open.Open.least_distance.Goals as goal

pub overflow_sub-result : goal.overflow_sub-result
unfolding Near.blank_limit
overflow_sub-result c = omega (arith, c.args.self.now.allowed)
