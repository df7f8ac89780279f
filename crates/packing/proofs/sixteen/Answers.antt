-- `sixteen` meets its contract. The loop's invariant: `out` has the bits of the symbols from `i` on, of each plane in its sixteen.
use native.Mathlib.Omega.{arith}
use Rattle.packing.proofs.Packed.{packed_start, packed_half, packed-room, packed-turn, packed-end}
use borrow.Author.Rules.{rules}
use Rattle.packing.proofs.sixteen.Goals as goal

pub loop-i-init : goal.loop-i-init
loop-i-init c = (search rules, search rules, packed_start _ _)

pub overflow_mul-out : goal.overflow_mul-out
overflow_mul-out c = omega (arith, packed_half _ _ _ _ c.loop-i.invariant.2 c.loop-i-test.true c.loop-i.invariant.0)

pub overflow_add-out : goal.overflow_add-out
overflow_add-out c =
    omega (arith, packed-room _ _ _ _ c.loop-i.invariant.2 c.loop-i-test.true c.loop-i.invariant.0 c.bits_apart.ensures)

pub loop-i-preserved : goal.loop-i-preserved
loop-i-preserved c = (
  search rules,
  search rules,
  packed-turn _ _ _ _ c.loop-i.invariant.2 c.loop-i-test.true c.loop-i.invariant.0 c.bits_apart.ensures,
)

pub returns : goal.returns
returns c = packed-end _ _ _ _ c.loop-i-test.false c.loop-i.invariant.2
