-- What both contracts say together.
use Rattle.agreement.specs.Both.{both-agree}
use Rattle.agreement.proofs.compare.Goals as goal

pub returns : goal.returns
returns c = both-agree _ _ _ _ _ _ _ _ _ c.eliminate-answer.ensures c.nearest-found.ensures
