-- `soft::costs::fill` meets its contract. The loop's invariant: the costs passed are stored, the rest is as it was.
use mathlib.Core.Path.{refl}
use native.Mathlib.Omega.{arith}
use borrow.Author.Rules.{rules}
use Rattle.lists.specs.Filled.{filled-start, filled-turn, filled-end, filled-length}
use Rattle.soft.specs.Column.{costs_from}
use Rattle.columns.proofs.costs.fill.Goals as goal

pub loop-i-init : goal.loop-i-init
loop-i-init c = filled-start _ _

pub bounds-out-i : goal.bounds-out-i
bounds-out-i c = omega (arith, filled-length 0 c.loop-i.invariant)

pub loop-i-preserved : goal.loop-i-preserved
loop-i-preserved c = filled-turn 0 c.loop-i.invariant _ (search rules) c.pair_at.ensures

pub shape_of-out : goal.shape_of-out
shape_of-out c = filled-length 0 c.loop-i.invariant

pub returns : goal.returns
unfolding costs_from
returns c = filled-end 0 c.loop-i.invariant _ refl (search rules)
