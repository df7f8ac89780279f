use lib.ListN.{replicate}
use Rattle.lists.specs.Filled.{Filled}
use Rattle.superframe.specs.Superframe.{frame_length}
use Rattle.superframe.proofs.Built.{byte_in}
use Rattle.superframe.proofs.building.bytes_of.Given as goal

abbrev pub invariant-loop-i : goal.invariant-loop-i
invariant-loop-i l = Filled (replicate frame_length 0) (byte_in l.rate l.sent) l.i l.out
