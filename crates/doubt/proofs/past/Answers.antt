-- `doubt::past` meets its contract: one equation for each return.
use mathlib.Core.Path.{sym}
use native.Mathlib.Omega.{arith}
use Rattle.doubt.specs.Keys.{far}
use Rattle.weighing.specs.Bound.{past-key, past-far}
use Rattle.doubt.proofs.past.Goals as goal

pub returns-then-key-ge-FAR : goal.returns-then-key-ge-FAR
returns-then-key-ge-FAR c = sym (past-far far c.args.key (omega arith))

pub returns : goal.returns
returns c = sym (past-key far c.args.key (omega arith))
