-- The part of the numbers that the threshold is in.
use native.Mathlib.Omega.{arith}
use Rattle.weighing.specs.Halving.{part-start, part-turn, part_end}
use Rattle.marks.proofs.threshold.Goals as goal

pub loop-width-init : goal.loop-width-init
loop-width-init c = part-start _ _ _ c.requires

pub overflow_add-start : goal.overflow_add-start
overflow_add-start c = omega (arith, c.loop-width.invariant.within)

pub next_start-start-requires : goal.next_start-start-requires
next_start-start-requires c = omega (arith, c.loop-width.invariant.within)

pub loop-width-smaller : goal.loop-width-smaller
loop-width-smaller c = (part-turn _ _ _ c.loop-width.invariant c.loop-width-test.true (omega arith) c.count_below-below.ensures.0 c.next_start-start.ensures c.next_width-width.ensures).1

pub loop-width-preserved : goal.loop-width-preserved
loop-width-preserved c = (part-turn _ _ _ c.loop-width.invariant c.loop-width-test.true (omega arith) c.count_below-below.ensures.0 c.next_start-start.ensures c.next_width-width.ensures).0

pub returns : goal.returns
returns c = part_end _ _ _ c.loop-width.invariant (omega arith)
