-- The heading, and then the message.
use Rattle.text.specs.Appended.{appended-both}
use Rattle.text.proofs.put_answer.Goals as goal

pub returns : goal.returns
returns c = appended-both c.put_heading-after.ensures.0 c.put_message.ensures
