-- `look_up` meets its contract: what a look_up answers, of bytes.
use Rattle.promises.specs.Told.{by-look-up}
use Rattle.promises.proofs.look_up.Goals as goal

pub returns : goal.returns
returns c = by-look-up c.look_up.ensures c.bytes.ensures
