-- `broad` meets its contract: each plane with lane j of each four at all of them.
use Rattle.evaluation.specs.Broad.{broad-by}
use Rattle.evaluation.proofs.value.broad.Goals as goal

pub returns : goal.returns
returns c =
    broad-by _ _ c.broad_plane-one.ensures c.broad_plane-two.ensures c.broad_plane-four.ensures c.broad_plane-eight.ensures
