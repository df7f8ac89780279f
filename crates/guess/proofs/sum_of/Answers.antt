-- The sum so far is that of the places passed.
use mathlib.Core.Path.{sym}
use Rattle.lists.specs.XorSum.{xor_sum-nil}
use Rattle.guess.proofs.Guessing.{symbols-turn}
use Rattle.guess.proofs.sum_of.Goals as goal

pub loop-symbol-init : goal.loop-symbol-init
loop-symbol-init c = sym (xor_sum-nil _)

pub loop-symbol-preserved : goal.loop-symbol-preserved
loop-symbol-preserved c = symbols-turn _ _ _ c.loop-symbol.invariant
