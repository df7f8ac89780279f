use mathlib.Core.Path.{◌≡◌}
use lib.ListN.{length, take}
use Rattle.soft.specs.Blank.{flag_at}
use Rattle.near.specs.Here.{Places}
use Rattle.chase.specs.Places.{Flagged}
use Rattle.chase.proofs.settled_places.Given as goal

abbrev pub invariant-loop-place : goal.invariant-loop-place
invariant-loop-place l = (length l.out ≡ 64) × (Places l.fn.doubled → Flagged (flag_at l.initial.out) (take l.place-index l.fn.doubled) l.out)
