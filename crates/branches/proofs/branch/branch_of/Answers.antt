-- What `chase::nearest` finds with the faded costs.
use mathlib.Core.Path.{◌≡◌, ap, ◌∙◌}
use mathlib.Core.List.{List}
use Prim.Native.Nat.{ℕ}
use Rattle.answers.specs.declared.Finding.{Finding}
use Rattle.chase.specs.Call.{nearest_of}
use Rattle.agreement.specs.Faded.{faded_costs}
use Rattle.agreement.specs.Both.{undoubted}
use Rattle.branches.specs.Beside.{branch_in, branch_of}
use Rattle.branches.proofs.branch.branch_of.Goals as goal

branch-found : (rate : ℕ) (word blanks : List ℕ) {costs : List ℕ} {f : Finding} → f ≡ nearest_of rate costs undoubted 0 → costs ≡ faded_costs blanks word
    → branch_in f ≡ branch_of rate word blanks
unfolding branch_of
branch-found rate word blanks e h = ap branch_in (e ∙ ap (λ costs. nearest_of rate costs undoubted 0) h)

pub returns : goal.returns
returns c = c.branch_in.ensures ∙ branch-found _ _ _ c.nearest.ensures c.faded_costs-costs.ensures
