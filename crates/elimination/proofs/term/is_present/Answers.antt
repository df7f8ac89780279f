-- The test of a present order.
use Rattle.elimination.proofs.Monomials.{le-tests}
use Rattle.elimination.proofs.term.is_present.Goals as goal

pub returns : goal.returns
returns c = le-tests _ _
