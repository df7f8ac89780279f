-- The values of Q0 at each lane, and the coefficients read off them.
use Rattle.parts.proofs.Splitting.{first_read}
use Rattle.parts.proofs.orders.without_z.Goals as goal

pub returns : goal.returns
returns c =
    first_read _ _ _ c.whole.ensures c.planes.ensures c.slope.ensures
    c.times.ensures c.sum.ensures c.coefficients.ensures
