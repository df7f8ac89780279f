-- `totals::total::is_changed` meets its contract: one equation for each return.
use Rattle.weighing.specs.Changed.{changed-best, changed-other}
use Rattle.totals.proofs.total.is_changed.Goals as goal

pub returns-then-symbol-best : goal.returns-then-symbol-best
returns-then-symbol-best c = let a = c.args in changed-best a.symbol a.best a.flag c.if-symbol-best.true

pub returns : goal.returns
returns c = let a = c.args in changed-other a.symbol a.best a.flag c.if-symbol-best.false
