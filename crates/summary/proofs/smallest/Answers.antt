-- `summary::smallest` meets its contract. The loop's invariant: it is the smallest gap of the places passed, or the ceiling.
use mathlib.Core.Path.{◌≡◌, refl, sym}
use native.Mathlib.Omega.{arith}
use Rattle.lists.specs.Least.{least-nil, least-turn}
use Rattle.soft.specs.Column.{ceiling}
use Rattle.summary.proofs.smallest.Goals as goal

pub loop-place-init : goal.loop-place-init
loop-place-init c = (omega arith, sym (least-nil ceiling _))

pub loop-place-preserved : goal.loop-place-preserved
loop-place-preserved c = (omega arith, least-turn ceiling _ _ _ _ _ c.loop-place.invariant.1 refl c.min-out.ensures)

pub returns : goal.returns
returns c =
    let e : c.loop-place.place ≡ 64 = omega arith in
    rw e at c.loop-place.invariant.1
