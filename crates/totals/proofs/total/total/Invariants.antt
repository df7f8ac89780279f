use mathlib.Core.Path.{◌≡◌}
use Prim.Native.Nat.{◌≤◌, ◌-◌, ◌*◌}
use Rattle.lists.specs.Count.{sum_of}
use Rattle.soft.specs.Column.{column_of}
use Rattle.soft.specs.Total.{cost_in}
use Rattle.totals.proofs.total.total.Given as goal

abbrev pub invariant-loop-place : goal.invariant-loop-place
invariant-loop-place l =
    (l.place ≤ 64) × (l.sum ≤ 65535 * l.place) × (l.sum ≡ sum_of l.place (cost_in (column_of 16 l.costs) l.word))

abbrev pub decreases-loop-place : goal.decreases-loop-place
decreases-loop-place l = 64 - l.place
