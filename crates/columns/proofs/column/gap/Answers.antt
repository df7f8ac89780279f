-- `columns::column::gap` meets its contract: the difference of the two costs, which does not wrap since the best symbol's number is the smaller one.
use mathlib.Core.Path.{◌≡◌}
use native.Mathlib.Omega.{arith}
use lib.ListN.{length}
use borrow.Author.Rules.{rules}
use Rattle.soft.specs.Column.{gap_of}
use Rattle.soft.specs.ColumnLaws.{best-below, second_below}
use Rattle.columns.proofs.column.gap.Goals as goal

pub returns : goal.returns
unfolding gap_of
returns c =
    let column = c.args.column in
    let l : length column ≡ 16 = search rules in
    let t = c.two_least-found.ensures in
    omega
    (arith, c.cost_in-2.ensures, c.cost_in.ensures, t.best, t.second, best-below column (omega arith), second_below column (omega arith))
