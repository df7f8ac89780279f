-- `values` meets its contract: the sums over the powers of x, then over those of y, are the values (`values-read`).
use Rattle.evaluation.proofs.Turns.{evaluated-by}
use Rattle.evaluation.proofs.value.values.Goals as goal

pub returns : goal.returns
returns c = evaluated-by _ _ _ c.power_sums.ensures c.fibre_values.ensures
