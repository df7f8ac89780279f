-- `decode_table` meets its contract: what table decoding answers, of bytes.
use Rattle.promises.specs.Told.{by-table}
use Rattle.promises.proofs.decode_table.Goals as goal

pub returns : goal.returns
returns c = by-table c.decode_table.ensures c.bytes.ensures
