-- `session::deliver` meets its contract: each return is a case of delivery, and the tests on the way say which.
use borrow.Author.Rules.{rules}
use mathlib.Core.Path.{◌≡◌}
use native.Mathlib.Omega.{arith}
use lib.ListN.{length}
use Rattle.session.specs.View.{with_place}
use Rattle.session.specs.Calls.{declined_with}
use Rattle.session.specs.Laws.{with_column, delivery-above, delivery-taken, delivery-accepted}
use Rattle.session.proofs.deliver.Goals as goal

pub returns-then-place-ge-PLACES : goal.returns-then-place-ge-PLACES
unfolding declined_with
returns-then-place-ge-PLACES c = delivery-above _ _ _ c.if-place-ge-PLACES.true

pub returns-then-session-place : goal.returns-then-session-place
unfolding declined_with
returns-then-session-place c = delivery-taken _ _ _ (omega arith) c.if-session-place.true

pub returns : goal.returns
unfolding with_place with_column
returns c =
    let a = c.args in
    let l : length a.column ≡ 16 = search rules in
    rw c.set_place.ensures (delivery-accepted a.session.now a.place a.column (omega arith) c.if-session-place.false l)
