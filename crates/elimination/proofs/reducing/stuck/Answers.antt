-- A place that does not count, or whose row is not zero there, stops no row; another stops a row that has a value there.
use borrow.Author.Tests.{not-true, not-false, eqb-true, eqb-false}
use Rattle.elimination.proofs.Clearing.{value-zero, value-nonzero, blank-passed, pivot-passed, free-stuck}
use Rattle.elimination.proofs.reducing.stuck.Goals as goal

pub returns-then-flag-ne1 : goal.returns-then-flag-ne1
returns-then-flag-ne1 c = blank-passed _ _ _ _ c.if-flag-ne1.true

pub returns-then-at-ne0 : goal.returns-then-at-ne0
returns-then-at-ne0 c = pivot-passed _ _ _ _ (value-nonzero _ _ c.requires c.whole.ensures c.at.ensures c.if-at-ne0.true)

pub returns : goal.returns
returns c = free-stuck _ _ _ _ _ c.if-flag-ne1.false (value-zero _ _ c.requires c.whole.ensures c.at.ensures c.if-at-ne0.false) (λ e. value-nonzero _ _ c.requires c.whole-2.ensures c.at-2.ensures (eqb-false _ _ (not-true _ e))) (λ e. value-zero _ _ c.requires c.whole-2.ensures c.at-2.ensures (eqb-true _ _ (not-false _ e)))
