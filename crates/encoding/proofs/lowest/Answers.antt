-- `lowest` meets its contract: the loop stores the coefficient of each order below 12.
use native.Mathlib.Omega.{arith}
use Rattle.lists.specs.Filled.{filled-start, filled-turn}
use Rattle.encoding.proofs.Symbols.{filled-to}
use borrow.Author.Rules.{rules}
use Rattle.encoding.proofs.lowest.Goals as goal

pub loop-order-init : goal.loop-order-init
loop-order-init c = (search rules, filled-start _ _)

pub loop-order-preserved : goal.loop-order-preserved
loop-order-preserved c = (search rules, filled-turn 0 c.loop-order.invariant.1 _ (search rules) c.coefficient.ensures)

pub returns : goal.returns
returns c = filled-to (omega arith) c.loop-order.invariant.1
