-- `session::fit_places` meets its contract. The loop's invariant: the list is fit exactly if what is left of it is, from the number after the last place on.
use native.Mathlib.Omega.{arith}
use Rattle.book64.specs.Modem64.{modem64}
use Rattle.calls.specs.Scan.{fits-start, fits_next, fits-above, fits-fallen, fits-end}
use Rattle.session.proofs.fit_places.Goals as goal

pub loop-i-init : goal.loop-i-init
loop-i-init c = (omega arith, fits-start modem64 _)

pub overflow_cast-place : goal.overflow_cast-place
overflow_cast-place c = omega (arith, c.type_inv.list c.loop-i.i)

pub returns-then-place-ge-PLACES : goal.returns-then-place-ge-PLACES
returns-then-place-ge-PLACES c = fits-above modem64 _ _ _ c.loop-i-test.true c.loop-i.invariant.1 c.if-place-ge-PLACES.true

pub returns-then-place-least : goal.returns-then-place-least
returns-then-place-least c =
    fits-fallen modem64 _ _ _ c.loop-i-test.true c.loop-i.invariant.1 c.if-place-least.true

pub loop-i-preserved : goal.loop-i-preserved
loop-i-preserved c = (
  omega arith,
  fits_next modem64 _ _ _ c.loop-i-test.true c.loop-i.invariant.1 c.if-place-ge-PLACES.false
      c.if-place-least.false,
)

pub returns : goal.returns
returns c = fits-end modem64 _ _ _ c.loop-i-test.false c.loop-i.invariant.1
