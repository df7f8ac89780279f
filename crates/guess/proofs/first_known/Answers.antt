-- Whatever is shown is a codeword, and so is the zero word.
use mathlib.Core.Path.{ap}
use Rattle.answers.specs.Result.{fields_of}
use Rattle.search.specs.Guessed.{known-nothing}
use Rattle.guess.proofs.first_known.Goals as goal

pub returns-then-told-ne0-2 : goal.returns-then-told-ne0-2
returns-then-told-ne0-2 c = known-nothing c.args.rate.ranged.most (ap fields_of c.none_near.ensures)

pub returns-then-all_of-ne0 : goal.returns-then-all_of-ne0
returns-then-all_of-ne0 c = known-nothing c.args.rate.ranged.most (ap fields_of c.none_near-then-all_of-ne0.ensures)
