-- `columns::bits::bit_cost` meets its contract: the value is positive or zero, or it is negative.
use native.Mathlib.Omega.{arith}
use Rattle.soft.proofs.BitsLaws.{bit-cost-low, bit-cost-high, bit-cost-most}
use Rattle.columns.proofs.bits.bit_cost.Goals as goal

pub overflow_mul-result : goal.overflow_mul-result
overflow_mul-result c = omega (arith, bit-cost-most _ _ (bit-cost-low c.if-value-lt128.true c.requires))

pub returns-then-value-lt128 : goal.returns-then-value-lt128
returns-then-value-lt128 c = bit-cost-low c.if-value-lt128.true c.requires

pub overflow_mul-result-2 : goal.overflow_mul-result-2
overflow_mul-result-2 c = omega (arith, bit-cost-most _ _ (bit-cost-high c.if-value-lt128.false c.requires))

pub returns : goal.returns
returns c = bit-cost-high c.if-value-lt128.false c.requires
