-- Twice T and the blank places are fewer than the least distance, so that no difference falls below zero.
use native.Mathlib.Omega.{arith}
use Rattle.numbers.specs.Most.{room, sure-from}
use Rattle.numbers.proofs.sums.sure_doubt.Goals as goal

pub overflow_sub-result : goal.overflow_sub-result
overflow_sub-result c = omega (arith, room c.args.rate.ranged c.requires)

pub overflow_mul-result : goal.overflow_mul-result
overflow_mul-result c = omega (arith, room c.args.rate.ranged c.requires)

pub overflow_sub-result-2 : goal.overflow_sub-result-2
overflow_sub-result-2 c = omega (arith, room c.args.rate.ranged c.requires)

pub overflow_sub-result-3 : goal.overflow_sub-result-3
overflow_sub-result-3 c = omega (arith, room c.args.rate.ranged c.requires)

pub returns : goal.returns
returns c = sure-from c.args.rate.ranged c.requires c.least_distance.ensures c.reach.ensures
