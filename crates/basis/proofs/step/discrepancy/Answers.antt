-- A spent class is zero, any other the symbol at the place.
use borrow.Author.Tests.{lt-ltb, le-ltb}
use Rattle.stepping.specs.Step.{discrepancy_of}
use Rattle.basis.proofs.step.discrepancy.Goals as goal

pub returns-then-limit-lead : goal.returns-then-limit-lead
unfolding discrepancy_of
returns-then-limit-lead c = simp (lt-ltb _ _ c.if-limit-lead.true)

pub returns : goal.returns
unfolding discrepancy_of
returns c =
    let w = c.whole.ensures in
    simp (le-ltb _ _ c.if-limit-lead.false, c.at.ensures, w)
