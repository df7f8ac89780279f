-- The gaps of the places passed are stored.
use native.Mathlib.Omega.{arith}
use Rattle.lists.specs.Passed.{passed_start, passed-turn}
use Rattle.weighing.specs.Marking.{gaps-made}
use Rattle.marks.proofs.gaps.Goals as goal

pub loop-place-init : goal.loop-place-init
loop-place-init c = (omega arith, passed_start 0 _ 0 _)

pub loop-place-smaller : goal.loop-place-smaller
loop-place-smaller c = omega arith

pub loop-place-preserved : goal.loop-place-preserved
loop-place-preserved c = (
  omega arith,
  passed-turn 0 _ _ (omega arith) (omega arith) c.gap_at.ensures c.loop-place.invariant.1,
)

pub returns : goal.returns
returns c =
    let i = c.loop-place.invariant.1 in
    gaps-made _ _ i.as_long (λ p l. i.stored p (omega arith) (omega arith))
