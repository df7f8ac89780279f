-- Each order passed holds what stood five below; then each passed again has both terms.
use borrow.Author.Rules.{rules}
use mathlib.Core.Path.{refl}
use native.Mathlib.Omega.{arith}
use lib.Dec.{lit≤}
use Rattle.lists.specs.Passed.{passed_start, passed-turn}
use Rattle.functions.specs.TimesY.{lower-all, folded_start, folded-turn, folded-end}
use Rattle.division.proofs.leading.times_y.Goals as goal

pub loop-o-init : goal.loop-o-init
loop-o-init c = (search rules, passed_start _ _ _ _)

pub loop-o-preserved : goal.loop-o-preserved
loop-o-preserved c =
    let i = c.loop-o.invariant in
    (search rules, passed-turn 0 _ _ i.0 (search rules) refl i.1)

pub loop-folded-init : goal.loop-folded-init
loop-folded-init c =
    let F = folded_start 4 64 _ (lit≤ tt) _ (lower-all 4 64 _ _ c.loop-o-test.false c.loop-o.invariant.1) in
    (search rules, search rules, search rules, F.as_long, F)

pub loop-folded-preserved : goal.loop-folded-preserved
loop-folded-preserved c =
    let i = c.loop-folded.invariant in
    let F = folded-turn 4 64 _ (lit≤ tt) _ _ (search rules) i.0 i.4 in
    (omega arith, omega arith, i.2, F.as_long, F)

pub returns : goal.returns
returns c = folded-end 4 64 _ _ _ c.loop-folded.invariant.2 c.loop-folded-test.false c.loop-folded.invariant.4
