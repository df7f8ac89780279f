-- T is at most 28.
use native.Mathlib.Omega.{arith}
use Rattle.candidate.specs.Ranged.{reach-small}
use Rattle.numbers.proofs.sums.whole_reach.Goals as goal

pub returns : goal.returns
returns c = (c.reach.ensures, omega (arith, c.reach.ensures, reach-small c.args.rate.k 0))
