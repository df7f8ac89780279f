-- `nearest` meets its contract: by the summary of its columns.
use Rattle.chase.proofs.nearest.Goals as goal

pub nearest_by-requires : goal.nearest_by-requires
nearest_by-requires c = c.summary_of.ensures

pub returns : goal.returns
returns c = c.nearest_by.ensures
