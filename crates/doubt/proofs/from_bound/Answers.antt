-- `doubt::from_bound` meets its contract: one equation for each return.
use mathlib.Core.Path.{sym}
use native.Mathlib.Omega.{arith}
use Rattle.doubt.specs.Keys.{far}
use Rattle.weighing.specs.Bound.{from-below, from-above}
use Rattle.doubt.proofs.from_bound.Goals as goal

pub returns-then-key-bound : goal.returns-then-key-bound
returns-then-key-bound c = sym (from-below far c.args.bound c.args.key (omega arith))

pub returns : goal.returns
returns c = sym (from-above far c.args.bound c.args.key (omega arith))
