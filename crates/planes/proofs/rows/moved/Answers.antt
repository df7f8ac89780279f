-- The symbol times the slope is added at one lane.
use borrow.Author.Rules.{rules}
use Rattle.planes.proofs.Moving.{moved_by}
use Rattle.planes.proofs.rows.moved.Goals as goal

pub returns : goal.returns
returns c =
    moved_by _ _ _ _ (search rules) c.slope-slopes.ensures c.at.ensures
    c.product-by.ensures c.whole.ensures c.single.ensures
    c.sum.ensures c.joined.ensures
