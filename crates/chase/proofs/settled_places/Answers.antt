-- The places passed have the flag 0, the others the flag that they had.
use mathlib.Core.Path.{subst}
use Prim.Native.Nat.{◌<◌, ◌≤◌}
use lib.ListN.{length}
use Rattle.std.proofs.Common.{take_all}
use Rattle.soft.specs.Blank.{flag_at}
use Rattle.chase.specs.Places.{Flagged}
use Rattle.near.specs.Flags.{flag-start, flag-turn}
use Rattle.near.specs.Tree.{places-at}
use borrow.Author.Rules.{rules}
use Rattle.chase.proofs.settled_places.Goals as goal

pub loop-place-init : goal.loop-place-init
loop-place-init c = (search rules, λ P. flag-start _ c.args.doubled.now (search rules))

pub loop-place-preserved : goal.loop-place-preserved
loop-place-preserved c =
    let h : c.loop-place.place-index < length c.args.doubled.now = search rules in
    (search rules, λ P. flag-turn _ _ _ h (places-at P _ h) (c.loop-place.invariant.1 P))

pub returns : goal.returns
returns c =
    let h : length c.args.doubled.now ≤ c.loop-place.place-index = search rules in
    λ P. subst (λ l. Flagged (flag_at c.args.counts) l c.loop-place.out) (take_all c.loop-place.place-index c.args.doubled.now h) (c.loop-place.invariant.1 P)
