-- `decode_table_below` meets its contract: what table decoding by a threshold answers, of bytes.
use Rattle.promises.specs.Told.{by-threshold}
use Rattle.promises.proofs.decode_table_below.Goals as goal

pub returns : goal.returns
returns c = by-threshold c.decode_table_below.ensures c.bytes.ensures
