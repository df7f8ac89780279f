-- `columns::blank::blanks` meets its contract. The loop's invariant: `n` counts the flags passed that are not 1.
use mathlib.Core.Path.{◌≡◌, sym}
use native.Mathlib.Omega.{arith}
use Rattle.lists.specs.Count.{from_bit, count-nil, count_turn}
use Rattle.columns.proofs.blank.blanks.Goals as goal

pub loop-place-init : goal.loop-place-init
loop-place-init c = (omega arith, omega arith, sym (count-nil _))

pub loop-place-preserved : goal.loop-place-preserved
loop-place-preserved c = let b = from_bit _ c.from-n.ensures in (omega arith, omega (arith, b.1), count_turn _ _ _ _ c.loop-place.invariant.2 b.0)

pub returns : goal.returns
returns c =
    let e : c.loop-place.place ≡ 64 = omega arith in
    rw e at c.loop-place.invariant.2
