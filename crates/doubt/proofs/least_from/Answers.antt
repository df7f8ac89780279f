-- `doubt::least_from` meets its contract. The loop's invariant: `least` is the least of the keys passed that are not below the bound.
use mathlib.Core.Path.{◌≡◌, sym}
use native.Mathlib.Omega.{arith}
use Rattle.lists.specs.Least.{least-nil, least-turn}
use Rattle.doubt.specs.Keys.{far}
use Rattle.doubt.proofs.least_from.Goals as goal

pub loop-place-init : goal.loop-place-init
loop-place-init c = (omega arith, sym (least-nil far _))

pub loop-place-preserved : goal.loop-place-preserved
loop-place-preserved c = (
  omega arith,
  least-turn far _ _ _ _ _ c.loop-place.invariant.1 c.from_bound.ensures c.min-least.ensures,
)

pub returns : goal.returns
returns c =
    let e : c.loop-place.place ≡ 64 = omega arith in
    rw e at c.loop-place.invariant.1
