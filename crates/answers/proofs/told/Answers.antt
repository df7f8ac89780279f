-- The two cases.
use mathlib.Core.Path.{ap, ◌∙◌}
use Rattle.search.specs.Answered.{told_for, told-by}
use Rattle.answers.specs.Result.{finding_of}
use Rattle.answers.proofs.told.Goals as goal

pub returns-in-NoneNear : goal.returns-in-NoneNear
unfolding told_for
returns-in-NoneNear c = c.none_near.ensures ∙ ap finding_of (told-by _ _ _ c.in-NoneNear.is)

pub returns-in-Near : goal.returns-in-Near
unfolding told_for
returns-in-Near c = ap finding_of (told-by _ _ _ c.in-Near.is)
