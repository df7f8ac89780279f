-- `sum` adds the entries passed that are below the limit.
use mathlib.Core.Path.{◌≡◌, sym}
use native.Mathlib.Omega.{arith}
use Rattle.lists.specs.Count.{sum_of-nil, sum_of-turn}
use Rattle.soft.specs.Mark.{sum_in}
use Rattle.weighing.specs.Low.{sum_below}
use Rattle.marks.proofs.sum_below.Goals as goal

pub loop-place-init : goal.loop-place-init
loop-place-init c = (omega arith, omega arith, sym (sum_of-nil _))

pub overflow_add-sum : goal.overflow_add-sum
overflow_add-sum c = omega (arith, c.small-sum.ensures.1, c.loop-place.invariant.1)

pub loop-place-preserved : goal.loop-place-preserved
loop-place-preserved c = (omega arith, omega (arith, c.small-sum.ensures.1), sum_of-turn _ _ _ _ c.loop-place.invariant.2 c.small-sum.ensures.0)

pub returns : goal.returns
unfolding sum_below sum_in
returns c =
    let e : c.loop-place.place ≡ 64 = omega arith in
    (rw e at c.loop-place.invariant.2, omega (arith, c.loop-place.invariant.1))
