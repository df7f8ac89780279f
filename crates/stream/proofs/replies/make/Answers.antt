-- The session is the one that the step leaves.
use Rattle.session.specs.Calls.{ended}
use Rattle.stream.proofs.Answering.{leaves-step}
use Rattle.stream.proofs.replies.make.Goals as goal

pub returns : goal.returns
returns c = leaves-step {r = ended c.step-answer.result c.step-answer.new.session} c.step-answer.ensures
