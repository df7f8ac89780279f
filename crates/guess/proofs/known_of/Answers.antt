-- A codeword that is shown is sound beside 'none near'.
use Rattle.search.specs.Guessed.{known-shown}
use Rattle.guess.proofs.known_of.Goals as goal

pub returns : goal.returns
returns c = known-shown c.shown.ensures
