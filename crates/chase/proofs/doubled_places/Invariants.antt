use mathlib.Core.Path.{◌≡◌}
use Prim.Native.Nat.{◌≤◌}
use lib.ListN.{length, take}
use Rattle.lists.specs.Padded.{padded}
use Rattle.soft.specs.Doubt.{most_doubt}
use Rattle.soft.specs.Blank.{flag_at, unblanked}
use Rattle.chase.proofs.doubled_places.Given as goal

abbrev pub invariant-loop-place : goal.invariant-loop-place
invariant-loop-place l =
    (l.count ≤ l.place-index) × (l.count ≡ length (unblanked (flag_at l.counts) (take l.place-index l.fn.doubtful)))
    × (l.places ≡ padded most_doubt (unblanked (flag_at l.counts) (take l.place-index l.fn.doubtful)))
