use mathlib.Core.Bool.{◌&&◌}
use mathlib.Core.Path.{◌≡◌}
use Prim.Native.Nat.{◌≤◌, ◌-◌}
use Rattle.lists.specs.Count.{count}
use Rattle.soft.specs.Blank.{flag_at}
use Rattle.soft.specs.Total.{differ_at}
use Rattle.totals.proofs.total.differing_in.Given as goal

abbrev pub invariant-loop-place : goal.invariant-loop-place
invariant-loop-place l = (l.place ≤ 64) × (l.n ≤ l.place) × (l.n ≡ count l.place (λ p. flag_at l.counts p && differ_at l.u l.v p))

abbrev pub decreases-loop-place : goal.decreases-loop-place
decreases-loop-place l = 64 - l.place
