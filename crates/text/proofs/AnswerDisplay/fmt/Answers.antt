-- The heading, and then the message.
use Rattle.text.specs.Text.{message_line}
use Rattle.text.proofs.AnswerDisplay.fmt.Goals as goal

pub returns-clause-writes : goal.returns-clause-writes
unfolding message_line
returns-clause-writes g c plain ok = c.writeln.ensures.writes plain ok
