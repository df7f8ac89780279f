use mathlib.Core.Bool.{not}
use mathlib.Core.Path.{◌≡◌}
use Prim.Native.Nat.{◌≤◌, ◌-◌}
use Rattle.lists.specs.Count.{count}
use Rattle.soft.specs.Blank.{flag_at}
use Rattle.columns.proofs.blank.blanks.Given as goal

abbrev pub invariant-loop-place : goal.invariant-loop-place
invariant-loop-place l = (l.place ≤ 64) × (l.n ≤ l.place) × (l.n ≡ count l.place (λ p. not (flag_at l.flags p)))

abbrev pub decreases-loop-place : goal.decreases-loop-place
decreases-loop-place l = 64 - l.place
