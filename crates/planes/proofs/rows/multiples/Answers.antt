-- `multiples` meets its contract: α times a row three times, and two sums.
use Rattle.planes.proofs.Multiplied.{multiples-by}
use Rattle.planes.proofs.rows.multiples.Goals as goal

pub returns : goal.returns
returns c =
    multiples-by _ _ _ _ _ _ c.doubled-two.ensures c.doubled-four.ensures
    c.doubled-eight.ensures c.sum-three.ensures c.sum-twelve.ensures
