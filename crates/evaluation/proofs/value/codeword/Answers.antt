-- `codeword` meets its contract: the values of the function whose coefficients the planes hold, as symbols.
use Rattle.evaluation.proofs.Turns.{codeword-by}
use Rattle.evaluation.proofs.value.codeword.Goals as goal

pub returns : goal.returns
returns c = codeword-by _ _ _ c.planes.ensures c.values.ensures c.symbols.ensures
