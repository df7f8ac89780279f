-- `doubt::doubtful` meets its contract: by the summary of its columns.
use Rattle.doubt.proofs.doubtful.Goals as goal

pub returns : goal.returns
returns c = c.doubtful_by.ensures _ c.summary_of.ensures
