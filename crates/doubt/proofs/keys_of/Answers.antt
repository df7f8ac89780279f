-- `doubt::keys_of` meets its contract. The loop's invariant: the keys of the places passed are stored.
use native.Mathlib.Omega.{arith}
use Rattle.lists.specs.Passed.{passed_start, passed-turn}
use Rattle.doubt.proofs.keys_of.Goals as goal

pub loop-place-init : goal.loop-place-init
loop-place-init c = (omega arith, passed_start 0 _ 0 _)

pub loop-place-preserved : goal.loop-place-preserved
loop-place-preserved c = (
  omega arith,
  passed-turn 0 _ _ (omega arith) (omega arith) c.key_of.ensures c.loop-place.invariant.1,
)

pub returns : goal.returns
returns c = record { at = λ p l. c.loop-place.invariant.1.stored p (omega arith) (omega arith) }
