-- A power of x times a power of y.
use Rattle.elimination.proofs.Monomials.{monomial-made}
use Rattle.elimination.proofs.term.monomial.Goals as goal

pub returns : goal.returns
returns c = monomial-made _ c.xs.ensures c.ys.ensures c.power.ensures c.power-2.ensures c.times.ensures
