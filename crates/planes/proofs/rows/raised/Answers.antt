-- `raised` meets its contract: the product of both parts with x + a.
use Rattle.planes.proofs.Raising.{raised_by}
use Rattle.planes.proofs.rows.raised.Goals as goal

pub returns : goal.returns
returns c =
    raised_by _ _ _ c.xs.ensures c.spread.ensures
    c.sum-by.ensures c.whole.ensures c.times.ensures
    c.slope.ensures c.times-2.ensures c.joined.ensures
