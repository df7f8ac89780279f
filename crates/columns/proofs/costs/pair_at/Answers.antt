-- `columns::costs::pair_at` meets its contract: both bytes are missing, or the first is there and the second is read past it.
use Rattle.weighing.specs.Columns.{pair-missing}
use Rattle.columns.proofs.costs.pair_at.Goals as goal

pub returns-then-bytes-at : goal.returns-then-bytes-at
returns-then-bytes-at c = pair-missing c.args.bytes.now c.args.at c.if-bytes-at.true
