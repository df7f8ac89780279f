-- A buffer of more than 4,096 bytes is not lent; the call leaves the session as it was.
use Rattle.stream.specs.Changes.{change_by}
use Rattle.stream.proofs.Answering.{kept_same}
use Rattle.stream.proofs.replies.write_capture.Goals as goal

pub returns : goal.returns
unfolding change_by
returns c = kept_same c.lend.ensures
