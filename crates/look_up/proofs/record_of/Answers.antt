-- `look_up::record_of` meets its contract. The loop's invariant: no record passed is that of the place.
use Prim.Native.Nat.{◌*◌}
use native.Mathlib.Omega.{arith}
use Rattle.look_up.proofs.Searching.{search-start, search-here, search-next, search-end}
use Rattle.look_up.proofs.record_of.Goals as goal

pub loop-i-init : goal.loop-i-init
loop-i-init c = (omega arith, search-start _ _)

pub overflow_cast-records : goal.overflow_cast-records
overflow_cast-records c = omega (arith, c.type_inv.records (33 * c.loop-i.i))

pub returns-then-records-i : goal.returns-then-records-i
returns-then-records-i c = search-here _ _ _ c.loop-i-test.true c.if-records-i.true c.loop-i.invariant.1

pub loop-i-preserved : goal.loop-i-preserved
loop-i-preserved c =
    (omega arith, search-next _ _ _ c.loop-i-test.true c.if-records-i.false c.loop-i.invariant.1)

pub returns : goal.returns
returns c =
    let n = search-end _ _ _ c.loop-i-test.false c.loop-i.invariant.0 c.loop-i.invariant.1 in
    omega (arith, n)
