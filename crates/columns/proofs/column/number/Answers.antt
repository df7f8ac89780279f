-- `columns::column::number` meets its contract: one equation, by which equal costs are in the order of the symbols, and a bound.
use native.Mathlib.Omega.{arith}
use Rattle.columns.proofs.column.number.Goals as goal

pub returns : goal.returns
returns c = (omega arith, omega arith)
