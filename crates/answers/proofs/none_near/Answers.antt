-- The arrays are zeros.
use mathlib.Core.Path.{refl}
use Rattle.search.specs.Result.{nothing_found}
use Rattle.answers.proofs.none_near.Goals as goal

pub returns : goal.returns
unfolding nothing_found
returns c = refl
