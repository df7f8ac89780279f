-- `summary::gaps_of` meets its contract. The loop's invariant: the differences at the places passed are stored, the rest is as it was.
use mathlib.Core.Path.{◌≡◌, refl}
use native.Mathlib.Omega.{arith}
use Rattle.lists.specs.Listed.{listed_start, listed-store, listed-end}
use Rattle.summary.proofs.gaps_of.Goals as goal

pub loop-place-init : goal.loop-place-init
loop-place-init c = (omega arith, listed_start _ _)

pub overflow_sub-out : goal.overflow_sub-out
overflow_sub-out c = omega (arith, c.requires.at_place c.loop-place.place (omega arith))

pub loop-place-preserved : goal.loop-place-preserved
loop-place-preserved c = (omega arith, listed-store 0 _ _ _ _ _ (omega arith) refl c.loop-place.invariant.1)

pub returns : goal.returns
returns c =
    let e : c.loop-place.place ≡ 64 = omega arith in
    rw e at (listed-end _ _ _ _ (omega arith) c.loop-place.invariant.1)
