-- No discrepancy is no multiple; otherwise it is the product of the discrepancy and the pivot's inverse.
use Rattle.basis.proofs.Rowwise.{added-zero, added-product}
use Rattle.basis.proofs.step.next_row.Goals as goal

pub returns-then-d-eq0 : goal.returns-then-d-eq0
returns-then-d-eq0 c = added-zero _ _ c.if-d-eq0.true

pub returns : goal.returns
returns c = added-product _ _ c.product.ensures c.added.ensures
