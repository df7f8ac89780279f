-- `copy` meets its contract: what it writes is the front of the one list, and the rest is the rest of the other.
use Rattle.lists.specs.Over.{over-front}
use Rattle.lists.proofs.copy.Goals as goal

pub returns : goal.returns
returns c = over-front _ _ _ _ c.min-count.ensures c.copy_from_slice.ensures.after
