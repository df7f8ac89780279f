use mathlib.Core.Path.{◌≡◌}
use Prim.Native.Nat.{◌≤◌, ◌-◌}
use Rattle.lists.specs.Count.{count}
use Rattle.soft.specs.Column.{column_of}
use Rattle.soft.specs.Total.{pinned_at}
use Rattle.totals.proofs.total.pinned.Given as goal

abbrev pub invariant-loop-place : goal.invariant-loop-place
invariant-loop-place l = (l.place ≤ 64) × (l.n ≤ l.place) × (l.n ≡ count l.place (pinned_at (column_of 16 l.costs) l.word))

abbrev pub decreases-loop-place : goal.decreases-loop-place
decreases-loop-place l = 64 - l.place
