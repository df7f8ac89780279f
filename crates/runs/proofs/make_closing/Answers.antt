-- `make_closing` meets its contract: what closing ensures is a step that leaves the session as it was.
use borrow.Author.Rules.{rules}
use Rattle.runs.specs.Step.{closing-step}
use Rattle.runs.proofs.make_closing.Goals as goal

pub returns : goal.returns
returns c = closing-step (search rules)
