-- Each class passed holds its first term.
use borrow.Author.Rules.{rules}
use mathlib.Core.Path.{◌∙◌}
use mathlib.Core.List.{[]}
use Rattle.lists.specs.Passed.{passed_start, passed-turn}
use Rattle.interpolation.proofs.Starting.{rows-laid}
use Rattle.interpolation.proofs.start.start_rows.Goals as goal

pub loop-r-init : goal.loop-r-init
loop-r-init c = (c.y_powers-powers.ensures, search rules, search rules, passed_start [] _ 0 _)

pub loop-r-preserved : goal.loop-r-preserved
loop-r-preserved c =
    let i = c.loop-r.invariant in
    let P = passed-turn [] _ _ (search rules) (search rules) (record { is = c.start_row.ensures }) i.3 in
    (i.0, i.1, P.as_long ∙ i.1, P)

pub returns : goal.returns
returns c = rows-laid _ _ _ _ _ _ c.loop-r-test.false c.planes-symbols.ensures c.loop-r.invariant.3
