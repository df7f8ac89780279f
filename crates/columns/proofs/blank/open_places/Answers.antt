-- `columns::blank::open_places` meets its contract. The loop's invariant: the flags of the places passed are stored, the rest is as it was.
use mathlib.Core.Path.{◌≡◌, ap, ◌∙◌}
use native.Mathlib.Omega.{arith}
use Rattle.lists.specs.Count.{bit, from_bit}
use Rattle.lists.specs.Listed.{listed_start, listed-store, listed-end}
use Rattle.soft.specs.Blank.{flags_of}
use Rattle.columns.proofs.blank.open_places.Goals as goal

pub loop-place-init : goal.loop-place-init
loop-place-init c = (omega arith, listed_start _ _)

pub loop-place-preserved : goal.loop-place-preserved
loop-place-preserved c = (
  omega arith,
  listed-store 0 _ _ _ _ _ (omega arith) ((from_bit _ c.from.ensures).0 ∙ ap bit c.is_open.ensures) c.loop-place.invariant.1,
)

pub returns : goal.returns
unfolding flags_of
returns c =
    let e : c.loop-place.place ≡ 64 = omega arith in
    rw e at (listed-end _ _ _ _ (omega arith) c.loop-place.invariant.1)
