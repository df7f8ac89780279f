-- The two parts of the sum, by the threshold found.
use mathlib.Core.Path.{ap₂}
use Prim.Native.Nat.{◌+◌, ◌-◌, ◌*◌}
use native.Mathlib.Omega.{arith}
use Rattle.soft.specs.Column.{places}
use Rattle.weighing.specs.Marking.{product_small}
use Rattle.marks.proofs.low_sum.Goals as goal

pub overflow_sub-rest : goal.overflow_sub-rest
overflow_sub-rest c = omega (arith, c.count_below.ensures.0, c.threshold-limit.ensures.at_most)

pub sum_below-requires : goal.sum_below-requires
sum_below-requires c = omega (arith, c.threshold-limit.ensures.within)

pub overflow_mul-result : goal.overflow_mul-result
overflow_mul-result c = omega (arith, product_small places {r = c.args.few - c.count_below.result} (omega (arith, c.requires.0)) c.threshold-limit.ensures.within)

pub overflow_add-result : goal.overflow_add-result
overflow_add-result c = omega (arith, c.sum_below.ensures.1, product_small places {r = c.args.few - c.count_below.result} (omega (arith, c.requires.0)) c.threshold-limit.ensures.within)

pub returns : goal.returns
returns c =
    let t = c.threshold-limit.result in
    record {
      t = t;
      splits = c.threshold-limit.ensures;
      is = ap₂ (λ s n. s + (c.args.few - n) * t) c.sum_below.ensures.0 c.count_below.ensures.0;
    }
