-- M is k + 5.
use native.Mathlib.Omega.{arith}
use Rattle.near.specs.Near as Near
use Rattle.hermitian.specs.Present.{genus}
use Rattle.candidate.proofs.rate.Rate.top_order.Goals as goal

pub overflow_add-result : goal.overflow_add-result
unfolding Near.m_of genus
overflow_add-result c = omega arith

pub overflow_sub-result : goal.overflow_sub-result
unfolding Near.m_of genus
overflow_sub-result c = omega arith

pub returns : goal.returns
unfolding Near.m_of genus
returns c = omega arith
