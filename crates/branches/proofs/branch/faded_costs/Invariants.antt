use mathlib.Core.Path.{◌≡◌}
use Rattle.branches.proofs.Fading.{fading_costs}
use Rattle.branches.proofs.branch.faded_costs.Given as goal

abbrev pub invariant-loop-place : goal.invariant-loop-place
invariant-loop-place l = l.out ≡ fading_costs l.blanks l.word l.place
