use mathlib.Core.Path.{◌≡◌}
use mathlib.Core.List.{◌++◌}
use Prim.Native.Nat.{◌≤◌, ◌-◌, ◌%◌}
use lib.ListN.{length, drop, replicate}
use Rattle.lists.specs.Listed.{listed}
use Rattle.basis.specs.Step.{discrepancy_at}
use Rattle.basis.proofs.step.discrepancies.Given as goal

abbrev pub invariant-loop-r : goal.invariant-loop-r
invariant-loop-r l = (l.r ≤ 8) × (length l.rows ≡ 8) × (l.out ≡ listed l.r (discrepancy_at l.limit l.leads l.rows (l.place % 64)) ++ drop l.r (replicate 8 0))

abbrev pub decreases-loop-r : goal.decreases-loop-r
decreases-loop-r l = 8 - l.r
