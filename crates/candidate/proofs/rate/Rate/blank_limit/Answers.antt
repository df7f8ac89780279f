-- The least distance is above the genus.
use native.Mathlib.Omega.{arith}
use Rattle.near.specs.Near as Near
use Rattle.hermitian.specs.Present.{genus}
use Rattle.candidate.proofs.rate.Rate.blank_limit.Goals as goal

pub overflow_sub-result : goal.overflow_sub-result
unfolding Near.m_of genus Near.blank_limit
overflow_sub-result c = omega arith

pub overflow_sub-result-2 : goal.overflow_sub-result-2
unfolding Near.m_of genus Near.blank_limit
overflow_sub-result-2 c = omega arith

pub returns : goal.returns
unfolding Near.m_of genus Near.blank_limit
returns c = omega arith
