-- `summary::better` meets its contract: the test, case by case.
use mathlib.Core.Bool.{cond}
use mathlib.Core.Path.{sym, ap}
use borrow.Author.Tests.{lt-ltb, le-ltb}
use Rattle.summary.proofs.better.Goals as goal

pub returns-then-cost-least : goal.returns-then-cost-least
returns-then-cost-least c = let a = c.args in ap (λ t. cond t a.symbol a.best) (sym (lt-ltb a.cost a.least c.if-cost-least.true))

pub returns : goal.returns
returns c = let a = c.args in ap (λ t. cond t a.symbol a.best) (sym (le-ltb a.cost a.least c.if-cost-least.false))
