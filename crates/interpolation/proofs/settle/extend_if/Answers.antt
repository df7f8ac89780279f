-- The two cases of the flag.
use Rattle.family.specs.Member.{m16}
use Rattle.stepping.specs.Extended.{extends-taken, extends-not}
use Rattle.basis.specs.Step.{row_values}
use Rattle.interpolation.proofs.settle.extend_if.Goals as goal

pub returns-then-flag-eq1 : goal.returns-then-flag-eq1
returns-then-flag-eq1 c = extends-taken m16 row_values c.if-flag-eq1.true c.extend_own.ensures

pub returns-else-flag-eq1 : goal.returns-else-flag-eq1
returns-else-flag-eq1 c = extends-not m16 row_values c.if-flag-eq1.false
