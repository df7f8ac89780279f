-- The word, and then the number.
use Rattle.text.specs.Text.{refused_line}
use Rattle.text.specs.Appended.{appended-both}
use Rattle.text.proofs.put_refused.Goals as goal

pub returns : goal.returns
unfolding refused_line
returns c = appended-both c.put_bytes-at.ensures c.put_number.ensures.0
