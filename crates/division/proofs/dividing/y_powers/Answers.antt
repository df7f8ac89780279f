-- `y_powers` meets its contract, power by power.
use Rattle.division.proofs.Powers.{powers-are}
use Rattle.division.proofs.dividing.y_powers.Goals as goal

pub returns : goal.returns
returns c = powers-are _ _ _ _ c.times_y-first.ensures c.times_y-second.ensures c.times_y-third.ensures
