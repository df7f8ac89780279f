-- By the answer found.
use mathlib.Core.Path.{◌≡◌, sym, ap}
use Rattle.answer.specs.declared.Answer.{Answer}
use Rattle.answers.specs.declared.Finding.{Finding}
use Rattle.branches.specs.Beside.{branch_in, branch_by}
use Rattle.branches.proofs.branch.branch_in.Goals as goal

branch-by : (f : Finding) {a : Answer} → f.answer ≡ a → branch_by a f.codeword ≡ branch_in f
unfolding branch_in
branch-by f e = ap (λ a. branch_by a f.codeword) (sym e)

pub returns-in-NoneNear : goal.returns-in-NoneNear
unfolding branch_by
returns-in-NoneNear c = branch-by _ c.in-NoneNear.is

pub returns-in-Near : goal.returns-in-Near
unfolding branch_by
returns-in-Near c = branch-by _ c.in-Near.is
