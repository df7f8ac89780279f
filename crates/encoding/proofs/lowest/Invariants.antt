use Prim.Native.Nat.{◌-◌, ◌≤◌}
use lib.ListN.{replicate}
use Rattle.lists.specs.Filled.{Filled}
use Rattle.code.specs.Evaluation.{coefficient_of}
use Rattle.encoding.proofs.lowest.Given as goal

abbrev pub invariant-loop-order : goal.invariant-loop-order
invariant-loop-order l = (l.order ≤ 12) × Filled (replicate 64 0) (coefficient_of l.message) l.order l.out

abbrev pub decreases-loop-order : goal.decreases-loop-order
decreases-loop-order l = 12 - l.order
