-- `columns::costs::part_column` meets its contract: past the last costs all are 0. The loop's invariant: the costs passed are stored, and 0 behind them.
use mathlib.Core.Path.{refl}
use native.Mathlib.Omega.{arith}
use Rattle.lists.specs.Passed.{passed_start, passed-turn}
use Rattle.weighing.specs.Columns.{column-part, column-missing}
use Rattle.columns.proofs.costs.part_column.Goals as goal

pub returns-then-costs-place : goal.returns-then-costs-place
returns-then-costs-place c = column-missing 16 c.args.costs.now c.args.place (omega arith)

pub loop-s-init : goal.loop-s-init
loop-s-init c = (omega arith, passed_start 0 _ 0 _)

pub bounds-out-s : goal.bounds-out-s
bounds-out-s c = omega (arith, c.loop-s.invariant.1.as_long)

pub loop-s-preserved : goal.loop-s-preserved
loop-s-preserved c = (omega arith, passed-turn 0 _ _ (omega arith) (omega arith) refl c.loop-s.invariant.1)

pub returns : goal.returns
returns c = column-part 16 _ _ _ _ (omega arith) c.loop-s.invariant.1
