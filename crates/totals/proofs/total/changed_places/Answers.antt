-- The flags of the places passed are stored, the rest is as it was.
use mathlib.Core.Path.{◌≡◌, ◌∙◌}
use native.Mathlib.Omega.{arith}
use Rattle.lists.specs.Count.{from_bit}
use Rattle.lists.specs.Listed.{listed_start, listed-store, listed-end}
use Rattle.weighing.specs.Changed.{changed-flag, changed-listed}
use Rattle.totals.proofs.total.changed_places.Goals as goal

pub loop-place-init : goal.loop-place-init
loop-place-init c = (omega arith, listed_start _ _)

pub loop-place-preserved : goal.loop-place-preserved
loop-place-preserved c = (
  omega arith,
  listed-store 0 _ _ _ _ _ (omega arith)
      (changed-flag _ _ _ _ c.entry_or.ensures c.is_changed.ensures (from_bit _ c.from.ensures).0)
      c.loop-place.invariant.1,
)

pub returns : goal.returns
returns c =
    let e : c.loop-place.place ≡ 64 = omega arith in
    λ columns b f. rw e at (listed-end _ _ _ _ (omega arith) c.loop-place.invariant.1) ∙ changed-listed 64 columns _ b f
