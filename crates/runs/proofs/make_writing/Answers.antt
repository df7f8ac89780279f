-- `make_writing` meets its contract: what writing a capture ensures is a step that leaves the session as it was.
use borrow.Author.Rules.{rules}
use Rattle.runs.specs.Step.{writing_step}
use Rattle.runs.proofs.make_writing.Goals as goal

pub returns : goal.returns
returns c = writing_step (search rules)
