-- M is below 64.
use native.Mathlib.Omega.{arith}
use Rattle.near.specs.Near as Near
use Rattle.hermitian.specs.Present.{genus}
use Rattle.candidate.proofs.rate.Rate.least_distance.Goals as goal

pub overflow_sub-result : goal.overflow_sub-result
unfolding Near.m_of genus
overflow_sub-result c = omega arith

pub returns : goal.returns
unfolding Near.m_of genus
returns c = omega arith
