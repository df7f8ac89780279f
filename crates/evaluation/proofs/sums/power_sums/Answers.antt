-- `power_sums` meets its contract. The loop's invariant: the sums over the orders passed, four for each turn.
use native.Mathlib.Omega.{arith}
use Rattle.evaluation.proofs.Turns.{powers-start, powers-turn, powers-end}
use borrow.Author.Rules.{rules}
use Rattle.evaluation.proofs.sums.power_sums.Goals as goal

pub loop-order-init : goal.loop-order-init
loop-order-init c = (search rules, search rules, powers-start _)

pub loop-order-preserved : goal.loop-order-preserved
loop-order-preserved c = (
  search rules,
  search rules,
  powers-turn _ _ _ _ _ _ (omega arith) c.loop-order.invariant.2
      (c.x_powers-powers.ensures.entries _ (omega arith)) c.entry.ensures c.sum-next.ensures,
)

pub returns : goal.returns
returns c = powers-end _ _ _ (omega arith) c.loop-order.invariant.2
