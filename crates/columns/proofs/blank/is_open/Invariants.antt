use mathlib.Core.Path.{◌≡◌}
use Prim.Native.Nat.{ℕ, ◌≤◌, ◌<◌, ◌-◌}
use Rattle.soft.specs.Column.{cost_at}
use Rattle.columns.proofs.blank.is_open.Given as goal

abbrev pub invariant-loop-s : goal.invariant-loop-s
invariant-loop-s l = (l.s ≤ 16) × ((t : ℕ) → t < l.s → cost_at 16 l.costs l.place t ≡ l.first)

abbrev pub decreases-loop-s : goal.decreases-loop-s
decreases-loop-s l = 16 - l.s
