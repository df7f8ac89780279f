use mathlib.Core.Path.{◌≡◌}
use mathlib.Core.List.{◌++◌}
use Prim.Native.Nat.{◌*◌, ◌≤◌}
use lib.ListN.{length, take, drop}
use Rattle.soft.specs.CostBytes.{cost_bytes}
use Rattle.writing.proofs.write_costs.Given as goal

abbrev pub invariant-loop-j : goal.invariant-loop-j
invariant-loop-j l =
    (l.j ≤ 16) × (length l.out ≡ length l.initial.out) × (l.out ≡ cost_bytes (take l.j l.column) ++ drop (2 * l.j) l.initial.out)
