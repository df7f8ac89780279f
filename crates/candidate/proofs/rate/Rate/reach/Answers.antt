-- The two roundings are the same.
use native.Mathlib.Omega.{arith}
use Rattle.near.specs.Near as Near
use Rattle.candidate.proofs.rate.Rate.reach.Goals as goal

pub overflow_sub-result : goal.overflow_sub-result
overflow_sub-result c = omega arith

pub returns : goal.returns
unfolding Near.reach_of
returns c = omega arith
