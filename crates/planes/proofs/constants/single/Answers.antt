-- One bit of the symbol in each plane, moved up to the place.
use Rattle.planes.proofs.Moving.{single-carries}
use Rattle.planes.proofs.constants.single.Goals as goal

pub returns : goal.returns
returns c = single-carries _ _
