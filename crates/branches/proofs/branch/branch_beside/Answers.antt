-- By whether the engine's checks passed.
use mathlib.Core.Path.{sym, ap, ◌∙◌}
use Rattle.std.specs.Prelude.{Some}
use Rattle.branches.specs.Beside.{beside_of}
use Rattle.branches.proofs.branch.branch_beside.Goals as goal

pub returns-then-not-passed : goal.returns-then-not-passed
unfolding beside_of
returns-then-not-passed c = rw (sym c.passed.ensures ∙ c.if-not-passed.true)

pub returns : goal.returns
unfolding beside_of
returns c = rw (sym c.passed.ensures ∙ c.if-not-passed.false) (ap Some c.branch_of.ensures)
