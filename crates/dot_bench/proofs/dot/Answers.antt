-- `dot_bench::dot` meets its contract: at each turn the sum is that of the entries passed.
use mathlib.Core.Path.{refl}
use Rattle.dot_bench.specs.Dot.{dot, dot-next}
use Rattle.dot_bench.proofs.dot.Goals as goal

pub loop-i-init : goal.loop-i-init
unfolding dot
loop-i-init g c = refl

pub loop-i-preserved : goal.loop-i-preserved
loop-i-preserved g c =
    dot-next _ _ _ c.loop-i.invariant (c.requires.multiplies _ _ _ c.product-sum.ensures)
