use mathlib.Core.Path.{◌≡◌}
use Rattle.lists.specs.XorSum.{xor_sum}
use Rattle.guess.specs.Guess.{with_bit}
use Rattle.guess.proofs.sum_with.Given as goal

abbrev pub invariant-loop-place : goal.invariant-loop-place
invariant-loop-place l = l.out ≡ xor_sum l.place (with_bit l.word l.bit)
