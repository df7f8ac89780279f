use lib.ListN.{replicate}
use Rattle.code.specs.Encoding.{most_rate}
use Rattle.lists.specs.Filled.{Filled}
use Rattle.candidate.specs.Candidate.{symbol_in}
use Rattle.candidate.proofs.message_of.Given as goal

abbrev pub invariant-loop-t : goal.invariant-loop-t
invariant-loop-t l = Filled (replicate most_rate 0) (symbol_in l.function) l.t l.out
