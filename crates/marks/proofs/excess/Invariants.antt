use mathlib.Core.Bool.{cond}
use mathlib.Core.Path.{◌≡◌}
use Prim.Native.Nat.{◌≤◌, ◌-◌, ◌*◌}
use lib.ListN.{get_or}
use Rattle.lists.specs.Count.{sum_of}
use Rattle.soft.specs.Column.{column_of}
use Rattle.soft.specs.Blank.{flag_at}
use Rattle.soft.specs.Total.{cost_in}
use Rattle.marks.proofs.excess.Given as goal

abbrev pub invariant-loop-place : goal.invariant-loop-place
invariant-loop-place l =
    (l.place ≤ 64) × (l.sum ≤ 65535 * l.place) × (l.sum ≡ sum_of l.place (λ p. cond (flag_at l.flags p) (cost_in (column_of 16 l.costs) l.word p - get_or l.least p 0) 0))

abbrev pub decreases-loop-place : goal.decreases-loop-place
decreases-loop-place l = 64 - l.place
