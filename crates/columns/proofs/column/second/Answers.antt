-- `columns::column::second` meets its contract: the symbol is what its number leaves, divided by sixteen.
use mathlib.Core.Path.{◌≡◌}
use native.Mathlib.Omega.{arith}
use lib.ListN.{length}
use borrow.Author.Rules.{rules}
use Rattle.soft.specs.ColumnLaws.{second_below}
use Rattle.columns.proofs.column.second.Goals as goal

pub returns : goal.returns
returns c =
    let column = c.args.column in
    let l : length column ≡ 16 = search rules in
    omega (arith, c.symbol_in.ensures, c.two_least.ensures.second, second_below column (omega arith))
