-- Products of y in all lanes.
use Rattle.interpolation.proofs.Starting.{powers-made}
use Rattle.interpolation.proofs.start.y_powers.Goals as goal

pub returns : goal.returns
returns c = powers-made c.ys-y.ensures c.times-second.ensures c.times-third.ensures c.spread.ensures
