-- The class chosen so far is chosen among the classes passed.
use mathlib.Core.Path.{◌≡◌}
use native.Mathlib.Omega.{arith}
use borrow.Author.Rules.{rules}
use Rattle.stepping.specs.Choosing.{chosen-start, better-chosen}
use Rattle.basis.proofs.step.choice.Goals as goal

pub loop-r-init : goal.loop-r-init
loop-r-init c = (search rules, chosen-start _ _ _, search rules)

pub loop-r-preserved : goal.loop-r-preserved
loop-r-preserved c =
    let best = c.better-best.ensures in
    (search rules, rw best.0 (better-chosen _ _ _ _ _ (search rules) c.loop-r.invariant.1), best.1)

pub returns : goal.returns
returns c =
    let e : c.loop-r.r ≡ 8 = omega arith in
    (rw e at c.loop-r.invariant.1, c.loop-r.invariant.2)
