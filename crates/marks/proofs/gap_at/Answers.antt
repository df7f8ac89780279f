-- A changed place, and another.
use native.Mathlib.Omega.{arith}
use Rattle.weighing.specs.Marking.{gap-changed, gap-unchanged}
use Rattle.marks.proofs.gap_at.Goals as goal

pub returns-then-flag-eq1 : goal.returns-then-flag-eq1
returns-then-flag-eq1 c = gap-changed (omega arith) c.if-flag-eq1.true

pub returns : goal.returns
returns c = gap-unchanged (omega arith) c.if-flag-eq1.false
