-- `doubt::count_below` meets its contract. The loop's invariant: `n` counts the places passed whose gap is below the limit.
use mathlib.Core.Path.{◌≡◌, sym}
use native.Mathlib.Omega.{arith}
use Rattle.lists.specs.Count.{count-nil, count_turn, from_bit}
use Rattle.weighing.specs.Keys.{below_by}
use Rattle.doubt.proofs.count_below.Goals as goal

pub loop-place-init : goal.loop-place-init
loop-place-init c = (omega arith, omega arith, sym (count-nil _))

pub loop-place-preserved : goal.loop-place-preserved
loop-place-preserved c = (
  omega arith,
  omega (arith, (from_bit _ c.from-n.ensures).1),
  count_turn _ _ _ _ c.loop-place.invariant.2 (from_bit _ c.from-n.ensures).0,
)

pub returns : goal.returns
unfolding below_by
returns c =
    let e : c.loop-place.place ≡ 64 = omega arith in
    rw e at c.loop-place.invariant.2
