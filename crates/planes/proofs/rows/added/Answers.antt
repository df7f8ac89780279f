-- `added` meets its contract: two multiples add to the one that is asked for.
use Rattle.planes.proofs.Multiplied.{added-by}
use Rattle.planes.proofs.rows.added.Goals as goal

pub returns : goal.returns
returns c = added-by _ _ _ c.sum.ensures c.sum-2.ensures
