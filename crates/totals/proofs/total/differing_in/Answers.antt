-- `totals::total::differing_in` meets its contract. A place adds the product of two bits: 1 exactly if it counts and the words differ there.
use mathlib.Core.Bool.{not}
use mathlib.Core.Path.{◌≡◌, sym, ap, ◌∙◌}
use native.Mathlib.Omega.{arith}
use Rattle.lists.specs.Count.{bit, count-nil, count_turn, from_bit}
use Rattle.soft.specs.Blank.{flag_at}
use Rattle.soft.specs.Total.{differ_at, differing_in}
use Rattle.weighing.specs.Totals.{both_bits, both-le}
use Rattle.totals.proofs.total.differing_in.Goals as goal

pub loop-place-init : goal.loop-place-init
loop-place-init c = (omega arith, omega arith, sym (count-nil _))

pub overflow_mul-n : goal.overflow_mul-n
overflow_mul-n c = omega (arith, both-le (from_bit _ c.from.ensures).1 (from_bit _ c.from-in-loop-place.ensures).1)

pub overflow_add-n : goal.overflow_add-n
overflow_add-n c = omega (arith, both-le (from_bit _ c.from.ensures).1 (from_bit _ c.from-in-loop-place.ensures).1)

pub loop-place-preserved : goal.loop-place-preserved
loop-place-preserved c =
    let a = c.args in
    let place = c.loop-place.place in (
      omega arith,
      omega (arith, both-le (from_bit _ c.from.ensures).1 (from_bit _ c.from-in-loop-place.ensures).1),
      count_turn _ _ _ _ c.loop-place.invariant.2
          (both_bits (flag_at a.counts place) (differ_at a.u.now a.v.now place) (from_bit _ c.from.ensures).0
          ((from_bit _ c.from-in-loop-place.ensures).0 ∙ ap (λ x. bit (not x)) c.agreeing.ensures)),
    )

pub returns : goal.returns
unfolding differing_in
returns c =
    let e : c.loop-place.place ≡ 64 = omega arith in
    rw e at c.loop-place.invariant.2
