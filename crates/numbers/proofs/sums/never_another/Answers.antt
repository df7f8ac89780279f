-- Twice T and the blank places are fewer than the least distance, so that no difference falls below zero.
use native.Mathlib.Omega.{arith}
use Rattle.numbers.specs.Most.{room, alone-from}
use Rattle.numbers.proofs.sums.never_another.Goals as goal

pub overflow_sub-result : goal.overflow_sub-result
overflow_sub-result c = omega (arith, room c.args.rate.ranged c.requires)

pub overflow_sub-result-2 : goal.overflow_sub-result-2
overflow_sub-result-2 c = omega (arith, room c.args.rate.ranged c.requires)

pub overflow_sub-result-3 : goal.overflow_sub-result-3
overflow_sub-result-3 c = omega (arith, room c.args.rate.ranged c.requires)

pub returns : goal.returns
returns c = alone-from c.args.rate.ranged c.requires c.least_distance.ensures c.reach.ensures
