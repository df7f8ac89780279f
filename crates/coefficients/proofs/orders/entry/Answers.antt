-- `entry` meets its contract: the four lanes of x, repeated, times the dual.
use Rattle.coefficients.proofs.Fourths.{entry-by}
use Rattle.coefficients.proofs.orders.entry.Goals as goal

pub returns : goal.returns
returns c =
    entry-by _ _ _ c.repeat-one.ensures c.repeat-two.ensures c.repeat-four.ensures
    c.repeat-eight.ensures c.times.ensures
