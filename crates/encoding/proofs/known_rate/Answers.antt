-- `known_rate` meets its contract, by its two tests.
use native.Mathlib.Omega.{arith}
use borrow.Author.Tests.{lt-leb, le-leb}
use Rattle.code.specs.Encoding.{least_rate, known_rate}
use Rattle.encoding.proofs.known_rate.Goals as goal

pub returns-then-rate-lt-LEAST_RATE : goal.returns-then-rate-lt-LEAST_RATE
unfolding known_rate
returns-then-rate-lt-LEAST_RATE c = rw (lt-leb least_rate c.args.rate (omega arith))

pub returns : goal.returns
unfolding known_rate
returns c = rw (le-leb least_rate c.args.rate (omega arith))
