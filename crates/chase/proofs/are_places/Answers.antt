-- The loop's invariant: the places so far pass the test, and their flags are 0.
use mathlib.Core.Path.{◌≡◌, refl, sym, ap, ◌∙◌}
use Prim.Native.Nat.{◌<◌, ◌≤◌}
use native.Mathlib.Omega.{arith}
use lib.ListN.{length, take}
use Rattle.std.proofs.Common.{take_all}
use Rattle.lists.specs.Distinct.{below, distinct}
use Rattle.chase.specs.Places.{are_places}
use Rattle.near.specs.Flags as Family
use Rattle.near.specs.Flags.{flag-all, places-turn, places-above, places-again}
use borrow.Author.Rules.{rules}
use Rattle.chase.proofs.are_places.Goals as goal

pub loop-p-init : goal.loop-p-init
unfolding Family.are_places below distinct
loop-p-init c = (search rules, flag-all c.args.doubtful.now, refl)

pub returns-then-place-ge-PLACES : goal.returns-then-place-ge-PLACES
returns-then-place-ge-PLACES c =
    let ps = c.args.doubtful.now in
    let i = c.loop-p.invariant in
    let h : c.loop-p.p-index < length ps = search rules in
    let whole : are_places (take (length ps) ps) ≡ are_places ps = ap are_places (take_all (length ps) ps (omega arith)) in
    elim c.then-place-ge-PLACES.branch [
      | goal.then-place-ge-PLACES-via-then-place-ge-PLACES w ↦
          sym (sym whole ∙ places-above ps c.loop-p.p-index (length ps) refl (omega arith) h w.if-place-ge-PLACES.true)
      | goal.then-place-ge-PLACES-via-else-place-ge-PLACES+then-unnamed-place-eq0 w ↦
          sym (sym whole ∙ places-again ps c.loop-p.p-index (length ps) refl (omega arith) h _ w.if-place-ge-PLACES.false w.if-unnamed-place-eq0.true i.1)
    ]

pub loop-p-preserved : goal.loop-p-preserved
loop-p-preserved c =
    let i = c.loop-p.invariant in
    let h : c.loop-p.p-index < length c.args.doubtful.now = search rules in
    let t = places-turn _ _ _ h c.if-place-ge-PLACES.false c.if-unnamed-place-eq0.false i.1 i.2 in
    (search rules, t.0, t.1)

pub returns : goal.returns
returns c =
    let h : length c.args.doubtful.now ≤ c.loop-p.p-index = search rules in
    sym (ap are_places (sym (take_all c.loop-p.p-index c.args.doubtful.now h)) ∙ c.loop-p.invariant.2)
