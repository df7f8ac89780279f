-- `close` meets its contract: what closing ensures, of costs of 16 bits.
use Rattle.promises.specs.Told.{by_closing}
use Rattle.promises.proofs.close.Goals as goal

pub returns : goal.returns
returns c = by_closing c.close.ensures c.costs.ensures
