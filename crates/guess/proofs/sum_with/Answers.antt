-- The sum so far is that of the places passed.
use mathlib.Core.Path.{sym}
use Rattle.lists.specs.XorSum.{xor_sum-nil}
use Rattle.guess.proofs.Guessing.{bits-turn}
use Rattle.guess.proofs.sum_with.Goals as goal

pub loop-place-init : goal.loop-place-init
loop-place-init c = sym (xor_sum-nil _)

pub loop-place-preserved : goal.loop-place-preserved
loop-place-preserved c = bits-turn _ _ _ _ c.loop-place.invariant
