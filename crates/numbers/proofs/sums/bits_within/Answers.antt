-- The two cases of T, none and some.
use mathlib.Core.Path.{sym, subst}
use native.Mathlib.Omega.{arith}
use Rattle.numbers.specs.Most.{Most, BurstWithin, burst-none, burst-most}
use Rattle.numbers.proofs.sums.bits_within.Goals as goal

pub returns-then-symbols-eq0 : goal.returns-then-symbols-eq0
returns-then-symbols-eq0 c = subst (λ T. Most (BurstWithin T) 0) (sym c.if-symbols-eq0.true) burst-none

pub returns : goal.returns
returns c = burst-most _ (omega (arith, c.if-symbols-eq0.false))
