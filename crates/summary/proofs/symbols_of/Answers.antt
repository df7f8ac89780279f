-- `summary::symbols_of` meets its contract. The loop's invariant: the symbols of the places passed are stored, the rest is as it was.
use mathlib.Core.Path.{◌≡◌, refl}
use native.Mathlib.Omega.{arith}
use Rattle.lists.specs.Listed.{listed_start, listed-store, listed-end}
use Rattle.summary.proofs.symbols_of.Goals as goal

pub loop-place-init : goal.loop-place-init
loop-place-init c = (omega arith, listed_start _ _)

pub loop-place-preserved : goal.loop-place-preserved
loop-place-preserved c = (omega arith, listed-store 0 _ _ _ _ _ (omega arith) refl c.loop-place.invariant.1)

pub returns : goal.returns
returns c =
    let e : c.loop-place.place ≡ 64 = omega arith in
    rw e at (listed-end _ _ _ _ (omega arith) c.loop-place.invariant.1)
