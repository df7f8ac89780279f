-- `next_at` meets its contract: an absent order, one beyond the rest, or a quotient.
use borrow.Author.Tests.{lt-ltb, le-ltb}
use Rattle.functions.specs.Dividing.{next_at}
use Rattle.division.proofs.dividing.next_at.Goals as goal

pub returns-then-order : goal.returns-then-order
unfolding next_at
returns-then-order c = simp (lt-ltb _ _ c.if-order.true)

pub returns-then-at-gt63 : goal.returns-then-at-gt63
unfolding next_at
returns-then-at-gt63 c = simp (le-ltb _ _ c.if-order.false, lt-ltb 63 _ c.if-at-gt63.true)

pub returns : goal.returns
unfolding next_at
returns c = simp (le-ltb _ _ c.if-order.false, le-ltb 63 _ c.if-at-gt63.false, c.product.ensures)
