-- The burst is copied over the part that is lent for it.
use native.Mathlib.Omega.{arith}
use Rattle.bursts.proofs.Struck.{strike-done}
use Rattle.bursts.proofs.strike.Goals as goal

pub returns : goal.returns
returns c = strike-done _ _ _ (omega arith) c.copy.ensures
