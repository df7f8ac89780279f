-- The two cases of the answer.
use mathlib.Core.Path.{◌∙◌}
use Rattle.family.specs.Member.{m16}
use Rattle.search.specs.Known.{total_for, total-by}
use Rattle.known.proofs.known_total.Goals as goal

pub returns-in-NoneNear : goal.returns-in-NoneNear
unfolding total_for
returns-in-NoneNear c = c.total.ensures ∙ total-by m16 _ _ c.in-NoneNear.is

pub returns-in-Near : goal.returns-in-Near
unfolding total_for
returns-in-Near c = total-by m16 _ _ c.in-Near.is
