-- `sum` adds what the places passed cost over their best costs.
use mathlib.Core.Path.{◌≡◌, sym}
use native.Mathlib.Omega.{arith}
use Rattle.lists.specs.Count.{sum_of-nil, sum_of-turn}
use Rattle.soft.specs.Mark.{sum_in}
use Rattle.weighing.specs.Low.{excess_by}
use Rattle.marks.proofs.excess.Goals as goal

pub loop-place-init : goal.loop-place-init
loop-place-init c = (omega arith, omega arith, sym (sum_of-nil _))

pub overflow_add-sum : goal.overflow_add-sum
overflow_add-sum c = omega (arith, c.over-sum.ensures.1, c.loop-place.invariant.1)

pub loop-place-preserved : goal.loop-place-preserved
loop-place-preserved c = (omega arith, omega (arith, c.over-sum.ensures.1), sum_of-turn _ _ _ _ c.loop-place.invariant.2 c.over-sum.ensures.0)

pub returns : goal.returns
unfolding excess_by sum_in
returns c =
    let e : c.loop-place.place ≡ 64 = omega arith in
    rw e at c.loop-place.invariant.2
