use mathlib.Core.Path.{◌≡◌}
use Rattle.lists.specs.XorSum.{xor_sum}
use Rattle.guess.specs.Guess.{symbol_in}
use Rattle.guess.proofs.sum_of.Given as goal

abbrev pub invariant-loop-symbol : goal.invariant-loop-symbol
invariant-loop-symbol l = l.out ≡ xor_sum l.symbol-index (symbol_in l.fn.word)
