-- Each row passed is cleared, but that of the pivot, which is then replaced by the raised one.
use borrow.Author.Rules.{rules}
use mathlib.Core.Path.{◌∙◌}
use mathlib.Core.List.{[]}
use Rattle.lists.specs.Passed.{passed_start}
use Rattle.basis.proofs.Rowwise.{cleared-turn, step-stored}
use Rattle.basis.proofs.step.next_rows.Goals as goal

pub loop-r-init : goal.loop-r-init
loop-r-init c = (search rules, search rules, passed_start [] _ 0 _)

pub loop-r-preserved : goal.loop-r-preserved
loop-r-preserved c =
    let i = c.loop-r.invariant in
    let P = cleared-turn _ _ _ _ _ _ _ (search rules) i.2 c.next_row.ensures c.multiples-pivots.ensures in
    (i.0, P.as_long ∙ i.0, P)

pub returns : goal.returns
returns c =
    let i = c.loop-r.invariant in
    step-stored _ _ _ _ _ _ _ _ (search rules) c.loop-r-test.false i.0 c.inverse-by.ensures i.2 c.raised.ensures
