-- `session::withdraw` meets its contract: each return is a case of a withdrawal, and the tests on the way say which.
use native.Mathlib.Omega.{arith}
use Rattle.session.specs.View.{with_place}
use Rattle.session.specs.Calls.{declined_with}
use Rattle.session.specs.Laws.{without_column, withdrawal-above, withdrawal-free, withdrawal-accepted}
use Rattle.session.proofs.withdraw.Goals as goal

pub returns-then-place-ge-PLACES : goal.returns-then-place-ge-PLACES
unfolding declined_with
returns-then-place-ge-PLACES c = withdrawal-above _ _ c.if-place-ge-PLACES.true

pub returns-then-not-session-place : goal.returns-then-not-session-place
unfolding declined_with
returns-then-not-session-place c = withdrawal-free _ _ (omega arith) c.if-not-session-place.true

pub returns : goal.returns
unfolding with_place without_column
returns c = withdrawal-accepted c.args.session.now c.args.place (omega arith) c.if-not-session-place.false c.set_place.ensures
