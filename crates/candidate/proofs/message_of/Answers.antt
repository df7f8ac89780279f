-- Each symbol passed is that of its order.
use mathlib.Core.Path.{◌≡◌}
use native.Mathlib.Omega.{arith}
use Rattle.lists.specs.Filled.{filled-start, filled-turn}
use Rattle.family.specs.Member.{m16}
use Rattle.search.specs.Message.{symbol-at, message-end}
use Rattle.code.specs.Rates.{longest, order-fits}
use borrow.Author.Rules.{rules}
use Rattle.candidate.proofs.message_of.Goals as goal

pub loop-t-init : goal.loop-t-init
loop-t-init c = filled-start _ _

pub bounds-function-order : goal.bounds-function-order
bounds-function-order c = (order-fits _ c.order.ensures).1

pub loop-t-preserved : goal.loop-t-preserved
loop-t-preserved c = filled-turn 0 c.loop-t.invariant _ (search rules) (symbol-at m16 longest _ _ (search rules) c.order.ensures)

pub returns : goal.returns
returns c =
    let e : c.loop-t.t ≡ c.args.rate.k = omega arith in
    message-end _ _ _ _ _ e c.loop-t.invariant
