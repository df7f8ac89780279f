-- `open` meets its contract: what opening answers is an opening that answers as the book does.
use Rattle.session.specs.Laws.{opening-as, opens}
use Rattle.runs.proofs.open.Goals as goal

pub returns : goal.returns
returns c = opening-as c.open.ensures (opens _ _)
