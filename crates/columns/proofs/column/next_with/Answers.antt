-- `columns::column::next_with` meets its contract: one equation.
use native.Mathlib.Omega.{arith}
use Rattle.columns.proofs.column.next_with.Goals as goal

pub returns : goal.returns
returns c = omega (arith, c.min.ensures, c.max.ensures)
