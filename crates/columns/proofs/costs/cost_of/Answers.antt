-- `soft::costs::cost_of` meets its contract: a column's entry is the cost that stands there, and there is none past the last symbol or past the last costs.
use mathlib.Core.Path.{sym, ◌∙◌}
use native.Mathlib.Omega.{arith}
use Rattle.soft.specs.ColumnLaws.{cost-column, cost-none}
use Rattle.weighing.specs.Columns.{cost-missing}
use Rattle.columns.proofs.costs.cost_of.Goals as goal

pub returns-then-symbol-gt15 : goal.returns-then-symbol-gt15
returns-then-symbol-gt15 c = sym (cost-none 16 c.args.costs.now c.args.place c.args.symbol (omega arith))

pub returns-then-costs-place : goal.returns-then-costs-place
returns-then-costs-place c = cost-missing 16 c.args.costs.now c.args.place (omega arith) c.args.symbol (omega arith)

pub returns : goal.returns
returns c = c.entry_or.ensures ∙ sym (cost-column 16 c.args.costs.now c.args.place c.args.symbol (omega arith))
