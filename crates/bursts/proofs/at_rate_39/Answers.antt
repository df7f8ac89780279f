-- The sentence holds of whatever goes through at rate 39.
use Rattle.bursts.proofs.Relied.{relied}
use Rattle.bursts.proofs.at_rate_39.Goals as goal

pub returns : goal.returns
returns c = relied _ _ _ _ c.through_burst.ensures
