-- The costs passed are stored.
use mathlib.Core.Path.{refl}
use Prim.Native.Nat.{◌*◌}
use Rattle.lists.specs.Filled.{filled-start, filled-turn, filled-end}
use Rattle.soft.specs.Column.{places, symbols}
use Rattle.taking_apart.proofs.Apart.{hard-columns}
use borrow.Author.Rules.{rules}
use Rattle.taking_apart.proofs.hard_costs.Goals as goal

pub loop-i-init : goal.loop-i-init
loop-i-init c = filled-start _ _

pub loop-i-preserved : goal.loop-i-preserved
loop-i-preserved c = filled-turn 0 c.loop-i.invariant _ (search rules) c.hard_cost.ensures

pub returns : goal.returns
returns c = hard-columns _ _ (search rules) (filled-end 0 c.loop-i.invariant (places * symbols) (search rules) c.loop-i-test.false)
