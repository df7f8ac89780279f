use mathlib.Core.Bool.{true}
use mathlib.Core.Path.{◌≡◌}
use lib.ListN.{length, take}
use Rattle.soft.specs.Total.{everywhere}
use Rattle.chase.specs.Places.{are_places, Flagged}
use Rattle.chase.proofs.are_places.Given as goal

abbrev pub invariant-loop-p : goal.invariant-loop-p
invariant-loop-p l =
    (length l.unnamed ≡ 64) × Flagged everywhere (take l.p-index l.fn.doubtful) l.unnamed × (are_places (take l.p-index l.fn.doubtful) ≡ true)
