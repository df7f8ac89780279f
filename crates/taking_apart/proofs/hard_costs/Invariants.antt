use Rattle.lists.specs.Filled.{Filled}
use Rattle.taking_apart.proofs.Apart.{cost_in}
use Rattle.taking_apart.proofs.hard_costs.Given as goal

abbrev pub invariant-loop-i : goal.invariant-loop-i
invariant-loop-i l = Filled l.initial.out (cost_in l.word) l.i l.out
