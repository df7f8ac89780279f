-- `coefficients` meets its contract: the sums over the fibres, then over all x, are the coefficients that the word of the values shows.
use Rattle.coefficients.proofs.Turns.{coefficients-by}
use Rattle.coefficients.proofs.orders.coefficients.Goals as goal

pub returns : goal.returns
returns c = coefficients-by _ _ _ c.fibres.ensures c.gathered.ensures c.symbols.ensures
