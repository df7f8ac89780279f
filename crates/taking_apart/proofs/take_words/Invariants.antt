use Rattle.taking_apart.proofs.Apart.{UpTo}
use Rattle.taking_apart.proofs.take_words.Given as goal

abbrev pub invariant-loop-v : goal.invariant-loop-v
invariant-loop-v l = UpTo l.rate l.frame l.initial.messages l.v l.status l.weight l.messages
