use lib.ListN.{replicate}
use Rattle.lists.specs.Filled.{Filled}
use Rattle.reading.specs.Flags.{read_flag}
use Rattle.reading.proofs.flags.Given as goal

abbrev pub invariant-loop-place : goal.invariant-loop-place
invariant-loop-place l = Filled (replicate 64 0) (read_flag l.taken l.doubtful l.counts) l.place l.out
