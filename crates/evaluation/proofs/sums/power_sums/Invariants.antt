use mathlib.Core.Path.{◌≡◌}
use Prim.Native.Nat.{◌-◌, ◌/◌, ◌%◌, ◌≤◌}
use Rattle.evaluation.proofs.Turns.{PowersTo}
use Rattle.evaluation.proofs.sums.power_sums.Given as goal

abbrev pub invariant-loop-order : goal.invariant-loop-order
invariant-loop-order l = (l.order ≤ 64) × (l.order % 4 ≡ 0) × PowersTo l.function (l.order / 4) l.out

abbrev pub decreases-loop-order : goal.decreases-loop-order
decreases-loop-order l = 64 - l.order
