-- `make_reading` meets its contract: what reading ensures is a step that leaves the session as it was.
use borrow.Author.Rules.{rules}
use Rattle.runs.specs.Step.{reading_step}
use Rattle.runs.proofs.make_reading.Goals as goal

pub returns : goal.returns
returns c = reading_step (search rules)
