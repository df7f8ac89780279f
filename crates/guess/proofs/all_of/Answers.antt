-- The first lane of the planes folded six times.
use Rattle.guess.proofs.Guessing.{all-by}
use Rattle.guess.proofs.all_of.Goals as goal

pub returns : goal.returns
returns c =
    all-by _ c.folded-one.ensures c.folded-two.ensures c.folded-four.ensures
    c.folded-eight.ensures c.at.ensures
