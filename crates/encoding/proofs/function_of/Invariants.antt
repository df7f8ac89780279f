use mathlib.Core.Path.{◌≡◌}
use Prim.Native.Nat.{◌+◌, ◌-◌, ◌≤◌, min}
use lib.ListN.{length, replicate}
use Rattle.lists.specs.Filled.{Filled}
use Rattle.code.specs.Evaluation.{coefficient_of}
use Rattle.encoding.proofs.function_of.Given as goal

abbrev pub invariant-loop-order : goal.invariant-loop-order
invariant-loop-order l =
    (12 ≤ l.order) × (l.order ≤ 64) × (l.end ≡ min (length l.message + 6) 64) × Filled (replicate 64 0) (coefficient_of l.message) l.order l.out

abbrev pub decreases-loop-order : goal.decreases-loop-order
decreases-loop-order l = l.end - l.order
