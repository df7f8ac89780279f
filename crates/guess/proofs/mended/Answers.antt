-- Whatever the mended word shows is a codeword, and so is the zero word.
use mathlib.Core.Path.{ap}
use Rattle.answers.specs.Result.{fields_of}
use Rattle.search.specs.Guessed.{known-nothing}
use Rattle.guess.proofs.mended.Goals as goal

pub returns-in_default : goal.returns-in_default
returns-in_default c = known-nothing c.args.rate.ranged.most (ap fields_of c.none_near.ensures)
