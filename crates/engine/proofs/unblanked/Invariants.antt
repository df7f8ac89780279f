use lib.ListN.{replicate}
use Rattle.lists.specs.Filled.{Filled}
use Rattle.engine.specs.Solution.{open_flag}
use Rattle.engine.proofs.unblanked.Given as goal

abbrev pub invariant-loop-place : goal.invariant-loop-place
invariant-loop-place l = Filled (replicate 64 0) (open_flag l.blanks) l.place l.out
