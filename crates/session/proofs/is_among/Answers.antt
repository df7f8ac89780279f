-- `session::is_among` meets its contract. The loop's invariant: the place is among the list exactly if it is among what is left of it.
use native.Mathlib.Omega.{arith}
use Rattle.calls.specs.Scan.{among-start, among-here, among_next, among-end}
use Rattle.session.proofs.is_among.Goals as goal

pub loop-i-init : goal.loop-i-init
loop-i-init c = (omega arith, among-start _ _)

pub overflow_cast-list : goal.overflow_cast-list
overflow_cast-list c = omega (arith, c.type_inv.list c.loop-i.i)

pub returns-then-list-i : goal.returns-then-list-i
returns-then-list-i c = among-here _ _ _ c.loop-i-test.true c.loop-i.invariant.1 c.if-list-i.true

pub loop-i-preserved : goal.loop-i-preserved
loop-i-preserved c = (
  omega arith,
  among_next _ _ _ c.loop-i-test.true c.loop-i.invariant.1 c.if-list-i.false,
)

pub returns : goal.returns
returns c = among-end _ _ _ c.loop-i-test.false c.loop-i.invariant.1
