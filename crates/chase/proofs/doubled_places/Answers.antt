-- The loop's invariant: the list holds those of the places passed that count, and `count` is their number.
use mathlib.Core.Path.{ap, ◌∙◌}
use Prim.Native.Nat.{◌<◌, ◌≤◌}
use lib.ListN.{length}
use Rattle.std.proofs.Common.{take_all}
use Rattle.lists.specs.Count.{from_bit}
use Rattle.soft.specs.Doubt.{most_doubt}
use Rattle.soft.specs.Blank.{flag_at, unblanked}
use Rattle.doubt.specs.Picked.{picked_same}
use Rattle.search.specs.Doubling.{doubled-start, doubled-turn, count-start, count_turn, count_fits}
use borrow.Author.Rules.{rules}
use Rattle.chase.proofs.doubled_places.Goals as goal

pub loop-place-init : goal.loop-place-init
loop-place-init c = (search rules, count-start (flag_at c.args.counts) c.args.doubtful.now, doubled-start (flag_at c.args.counts) c.args.doubtful.now most_doubt)

pub loop-place-preserved : goal.loop-place-preserved
loop-place-preserved c =
    let i = c.loop-place.invariant in
    let n : c.loop-place.place-index < length c.args.doubtful.now = search rules in
    let b = c.has_flag-chosen.ensures in
    let counted = count_turn (flag_at c.args.counts) c.args.doubtful.now c.loop-place.place-index n _ _ _ i.1 b (from_bit _ c.from-count.ensures).0 in (
      count_fits (flag_at c.args.counts) c.args.doubtful.now _ _ counted,
      counted,
      doubled-turn (flag_at c.args.counts) c.args.doubtful.now c.loop-place.place-index n most_doubt _ _ _ _ i.2 i.1 b c.with_place.ensures,
    )

pub returns : goal.returns
returns c =
    let i = c.loop-place.invariant in
    let h : length c.args.doubtful.now ≤ c.loop-place.place-index = search rules in
    picked_same (ap (unblanked (flag_at c.args.counts)) (take_all c.loop-place.place-index c.args.doubtful.now h)) (record { places = i.2; count = i.1 })
