-- The costs of the places passed stand.
use mathlib.Core.Path.{◌∙◌}
use Rattle.branches.proofs.Fading.{fading-start, fading-turn, fading-end}
use borrow.Author.Rules.{rules}
use Rattle.branches.proofs.branch.faded_costs.Goals as goal

pub loop-place-init : goal.loop-place-init
loop-place-init c = fading-start _ _

pub loop-place-preserved : goal.loop-place-preserved
loop-place-preserved c = fading-turn _ _ _ (search rules) c.own_place.ensures c.own_cost.ensures c.loop-place.invariant

pub returns : goal.returns
returns c = c.loop-place.invariant ∙ fading-end _ _ _ c.loop-place-test.false
