-- The slopes are the values of Q1.
use Rattle.parts.proofs.Splitting.{second-read}
use Rattle.parts.proofs.orders.with_z.Goals as goal

pub returns : goal.returns
returns c = second-read _ c.slope.ensures c.coefficients.ensures
