-- `galois::reduced` computes its definition.
use mathlib.Core.Path.{refl}
use Rattle.galois.specs.Carryless.{reduced}
use Rattle.galois.proofs.reduced.Goals as goal

pub returns : goal.returns
unfolding reduced
returns c = refl
