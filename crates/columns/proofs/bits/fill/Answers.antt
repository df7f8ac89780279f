-- `columns::bits::fill` meets its contract. The loop's invariant: the costs passed are stored, the rest is as it was.
use mathlib.Core.Path.{refl}
use native.Mathlib.Omega.{arith}
use borrow.Author.Rules.{rules}
use Rattle.lists.specs.Filled.{filled-start, filled-turn, filled-end, filled-length}
use Rattle.columns.proofs.bits.fill.Goals as goal

pub loop-symbol-init : goal.loop-symbol-init
loop-symbol-init c = filled-start _ _

pub bounds-out-symbol : goal.bounds-out-symbol
bounds-out-symbol c = omega (arith, filled-length 0 c.loop-symbol.invariant)

pub loop-symbol-preserved : goal.loop-symbol-preserved
loop-symbol-preserved c = filled-turn 0 c.loop-symbol.invariant _ (search rules) c.symbol_cost.ensures

pub shape_of-out : goal.shape_of-out
shape_of-out c = filled-length 0 c.loop-symbol.invariant

pub returns : goal.returns
returns c = filled-end 0 c.loop-symbol.invariant _ refl (search rules)
