use mathlib.Core.Path.{◌≡◌}
use Prim.Native.Nat.{ℕ, ◌≤◌, ◌-◌}
use Rattle.lists.specs.Passed.{Passed}
use Rattle.soft.specs.Column.{cost_at}
use Rattle.columns.proofs.costs.part_column.Given as goal

abbrev pub invariant-loop-s : goal.invariant-loop-s
invariant-loop-s l = (l.s ≤ l.s-end) × Passed 0 (λ (t c : ℕ). c ≡ cost_at 16 l.costs l.place t) 0 l.s l.initial.out l.out

abbrev pub decreases-loop-s : goal.decreases-loop-s
decreases-loop-s l = l.s-end - l.s
