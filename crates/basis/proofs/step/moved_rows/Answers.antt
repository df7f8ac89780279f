-- Each row passed has moved.
use borrow.Author.Rules.{rules}
use mathlib.Core.Path.{◌∙◌}
use mathlib.Core.List.{[]}
use Rattle.lists.specs.Passed.{passed_start}
use Rattle.basis.proofs.Rowwise.{moved-turn, moved-stored}
use Rattle.basis.proofs.step.moved_rows.Goals as goal

pub loop-r-init : goal.loop-r-init
loop-r-init c = (search rules, search rules, passed_start [] _ 0 _)

pub loop-r-preserved : goal.loop-r-preserved
loop-r-preserved c =
    let i = c.loop-r.invariant in
    let P = moved-turn _ _ _ _ _ _ (search rules) i.2 c.moved.ensures in
    (i.0, P.as_long ∙ i.0, P)

pub returns : goal.returns
returns c = moved-stored _ _ _ _ _ c.loop-r-test.false c.loop-r.invariant.2
