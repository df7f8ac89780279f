-- `order` meets its contract: the table of the first orders is computed, and from symbol 6 on the order is 6 more.
use mathlib.Core.Path.{sym}
use lib.Dec.{lit≤}
use Rattle.lists.specs.Listed.{listed, listed_at}
use Rattle.hermitian.specs.Present.{genus}
use Rattle.hermitian.specs.Orders.{order_of, order_of-large, presents, is_present}
use Rattle.encoding.proofs.order.Goals as goal

pub returns-then-t-ge6 : goal.returns-then-t-ge6
unfolding genus
returns-then-t-ge6 c = sym (order_of-large 4 (lit≤ tt) _ c.if-t-ge6.true)

pub returns : goal.returns
unfolding listed order_of presents is_present genus
returns c = listed_at 6 _ (order_of 4) 0 c.if-t-ge6.false
