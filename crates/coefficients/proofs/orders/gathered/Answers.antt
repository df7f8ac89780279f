-- `gathered` meets its contract. The loop's invariant: the sums over the x passed.
use native.Mathlib.Omega.{arith}
use Rattle.coefficients.proofs.Turns.{gathered-start, gathered-turn, gathered-end}
use borrow.Author.Rules.{rules}
use Rattle.coefficients.proofs.orders.gathered.Goals as goal

pub loop-x-init : goal.loop-x-init
loop-x-init c = (search rules, gathered-start _)

pub loop-x-preserved : goal.loop-x-preserved
loop-x-preserved c = (
  search rules,
  gathered-turn _ _ _ _ _ c.loop-x.invariant.1
      (c.x_duals-duals.ensures.entries _ c.loop-x-test.true) c.entry.ensures c.sum-next.ensures,
)

pub returns : goal.returns
returns c = gathered-end _ _ _ (omega arith) c.loop-x.invariant.1
