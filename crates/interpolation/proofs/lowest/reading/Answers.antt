-- A basis through the settled places, and from it the reading.
use Rattle.interpolation.proofs.lowest.reading.Goals as goal

pub returns : goal.returns
returns c = c.interpolant.ensures.reading _ c.settle-rows.ensures
