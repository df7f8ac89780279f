use lib.ListN.{replicate}
use Rattle.lists.specs.Filled.{Filled}
use Rattle.superframe.specs.Superframe.{words, sent_word}
use Rattle.superframe.proofs.building.codewords.Given as goal

abbrev pub invariant-loop-v : goal.invariant-loop-v
invariant-loop-v l = Filled (replicate words (replicate 64 0)) (sent_word l.rate l.messages) l.v l.out
