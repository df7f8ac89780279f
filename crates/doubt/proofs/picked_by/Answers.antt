-- `doubt::picked_by` meets its contract. The loop's invariant: `out` holds the places passed whose keys are below the bound, and `found` counts them.
use mathlib.Core.Path.{◌≡◌, refl, sym, ◌∙◌}
use native.Mathlib.Omega.{arith}
use Rattle.lists.specs.Count.{count-nil, count_turn, kept-length, from_bit}
use Rattle.soft.specs.Doubt.{most_doubt}
use Rattle.doubt.specs.Keys.{far}
use Rattle.weighing.specs.Bound.{chosen-below}
use Rattle.doubt.specs.Picked.{picked_same}
use Rattle.weighing.specs.Doubting.{places-start, places-turn}
use Rattle.doubt.proofs.picked_by.Goals as goal

pub loop-place-init : goal.loop-place-init
loop-place-init c = (omega arith, omega arith, sym (count-nil _), places-start most_doubt _)

pub loop-place-preserved : goal.loop-place-preserved
loop-place-preserved c =
    let i = c.loop-place.invariant in (
      omega arith,
      omega (arith, (from_bit _ c.from-found.ensures).1),
      count_turn _ _ _ _ i.2 (from_bit _ c.from-found.ensures).0,
      places-turn most_doubt _ _ _ _ _ _ i.3 i.2 refl c.with_place.ensures,
    )

pub returns : goal.returns
returns c =
    let e : c.loop-place.place ≡ 64 = omega arith in
    picked_same (sym (chosen-below 64 far _ c.bound_of-bound.ensures))
    (record { places = rw e at c.loop-place.invariant.3; count = rw e at c.loop-place.invariant.2 ∙ sym (kept-length 64 _) })
