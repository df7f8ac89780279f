-- What is known, with another answer and no test words.
use mathlib.Core.Path.{refl}
use Rattle.search.specs.Answered.{counted, answering, missed_of}
use Rattle.answers.proofs.missed.Goals as goal

pub returns : goal.returns
unfolding missed_of counted answering
returns c = refl
