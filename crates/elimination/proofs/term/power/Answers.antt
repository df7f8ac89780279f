-- The product of as many factors as turns were made.
use native.Mathlib.Omega.{arith}
use Rattle.elimination.proofs.Monomials.{power-start, power-turn, power-end}
use Rattle.elimination.proofs.term.power.Goals as goal

pub loop-i-init : goal.loop-i-init
loop-i-init c = (omega arith, power-start _ c.spread-out.ensures)

pub loop-i-preserved : goal.loop-i-preserved
loop-i-preserved c = (omega arith, power-turn _ _ _ c.times-next.ensures c.loop-i.invariant.1)

pub returns : goal.returns
returns c = power-end _ _ c.loop-i.invariant.0 c.loop-i-test.false c.loop-i.invariant.1
