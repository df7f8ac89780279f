use mathlib.Core.Path.{◌≡◌}
use Prim.Native.Nat.{ℕ, ◌≤◌, ◌<◌, ◌-◌}
use Rattle.lists.specs.Least.{least_of, next_of}
use Rattle.soft.specs.Column.{number_of}
use Rattle.columns.specs.Two.{above}
use Rattle.columns.proofs.column.two_least.Given as goal

abbrev pub invariant-loop-symbol : goal.invariant-loop-symbol
invariant-loop-symbol l =
    (l.symbol ≤ 16) × (l.least ≡ least_of above l.symbol (number_of 16 l.column)) × (l.next ≡ next_of above l.symbol (number_of 16 l.column))
    × ((s : ℕ) → s < l.symbol → number_of 16 l.column s < above)

abbrev pub decreases-loop-symbol : goal.decreases-loop-symbol
decreases-loop-symbol l = 16 - l.symbol
