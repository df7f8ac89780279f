-- `padded` meets its contract: a list copied over zeros is the list padded.
use mathlib.Core.Path.{◌∙◌}
use Rattle.lists.specs.Padded.{padded-over}
use Rattle.lists.proofs.padded.Goals as goal

pub returns : goal.returns
returns g c = c.copy.ensures ∙ padded-over _ _
