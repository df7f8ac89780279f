use mathlib.Core.Path.{◌≡◌}
use mathlib.Core.List.{List}
use Prim.Native.Nat.{ℕ, ◌≤◌, ◌-◌}
use lib.ListN.{length}
use Rattle.values.specs.Settled.{settled}
use Rattle.interpolation.specs.Extending.{Stored}
use Rattle.interpolation.proofs.settle.settle.Given as goal

abbrev pub invariant-loop-place : goal.invariant-loop-place
invariant-loop-place l =
    (l.place ≤ 64) × (length l.leads ≡ 8) × (length l.rows ≡ 8)
    × ((word : List ℕ) → Stored l.m word l.limit (settled word l.flags 0) l.initial.rows l.initial.leads → Stored l.m word l.limit (settled word l.flags l.place) l.rows l.leads)

abbrev pub decreases-loop-place : goal.decreases-loop-place
decreases-loop-place l = 64 - l.place
