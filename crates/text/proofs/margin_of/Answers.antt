-- The mark says which of the two texts it is.
use Rattle.text.specs.Text.{margin_shown}
use Rattle.text.proofs.Marked.{absent, present}
use Rattle.text.proofs.margin_of.Goals as goal

pub returns-then-report-ne1 : goal.returns-then-report-ne1
unfolding margin_shown
returns-then-report-ne1 c = absent _ c.if-report-ne1.true

pub returns : goal.returns
unfolding margin_shown
returns c = present _ c.if-report-ne1.false c.margin_in.ensures
