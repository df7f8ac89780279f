-- The session is the one that the withdrawal leaves.
use Rattle.stream.specs.Changes.{change_by}
use Rattle.stream.proofs.replies.withdraw.Goals as goal

pub returns : goal.returns
unfolding change_by
returns c = c.lend.ensures
