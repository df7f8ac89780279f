-- Even keys are without z, odd ones with z, from M on.
use Rattle.elimination.proofs.Monomials.{even-tests, low-tests, odd-tests}
use native.Mathlib.Omega.{arith}
use Rattle.elimination.proofs.term.is_term.Goals as goal

pub returns-then-key-eq0 : goal.returns-then-key-eq0
returns-then-key-eq0 c = even-tests _ _ c.if-key-eq0.true c.is_present.ensures

pub returns-then-order-m : goal.returns-then-order-m
returns-then-order-m c = low-tests _ _ c.if-key-eq0.false (omega (arith, c.if-order-m.true))

pub returns : goal.returns
returns c = odd-tests _ _ c.if-key-eq0.false (omega (arith, c.if-order-m.false)) c.is_present-2.ensures
