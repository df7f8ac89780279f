-- `doubt::doubtful_below` meets its contract: by the summary of its columns.
use Rattle.doubt.proofs.doubtful_below.Goals as goal

pub returns : goal.returns
returns c = c.doubtful_below_by.ensures _ c.summary_of.ensures
