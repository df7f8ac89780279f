-- `session::all_taken` meets its contract. The loop's invariant: every place passed is taken.
use native.Mathlib.Omega.{arith}
use Rattle.book64.specs.Modem64.{modem64}
use Rattle.calls.specs.Flags.{taken_start, taken_next, taken-missed, taken-end}
use Rattle.session.proofs.all_taken.Goals as goal

pub loop-place-init : goal.loop-place-init
loop-place-init c = (omega arith, taken_start _)

pub returns-then-not-taken-place : goal.returns-then-not-taken-place
returns-then-not-taken-place c = taken-missed _ modem64 c.loop-place.place (omega arith) (c.if-not-taken-place.true)

pub loop-place-preserved : goal.loop-place-preserved
loop-place-preserved c = (omega arith, taken_next _ _ (c.if-not-taken-place.false) c.loop-place.invariant.1)

pub returns : goal.returns
returns c = taken-end _ modem64 _ (omega arith) c.loop-place.invariant.1
