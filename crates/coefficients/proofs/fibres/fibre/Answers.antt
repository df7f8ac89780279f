-- `fibre` meets its contract: the sums of each four lanes of the products, at one of the four.
use Rattle.coefficients.proofs.Fourths.{fibre-by}
use Rattle.coefficients.proofs.fibres.fibre.Goals as goal

pub returns : goal.returns
returns c =
    fibre-by _ _ _ c.requires c.times-terms.ensures c.met-one.ensures
    c.met-two.ensures c.met-four.ensures c.met-eight.ensures
