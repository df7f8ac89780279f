-- No change: the step itself. Else the rows move by the change first.
use Rattle.interpolation.proofs.Extended.{extends-kept, extends-moved}
use Rattle.interpolation.proofs.node.extend.Goals as goal

pub returns-then-change-eq0 : goal.returns-then-change-eq0
returns-then-change-eq0 c = extends-kept c.if-change-eq0.true c.extend_own.ensures

pub returns : goal.returns
returns c = extends-moved _ c.moved_rows.ensures c.extend_own-2.ensures
