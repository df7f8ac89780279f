-- The doubtful places as they are given, and the flags of the others, in document 01's modem.
--
--   are_places ps             the test of a list's places, and
--   Flagged counts ps flags  the flags of the settled places of those that count, as the family has them
use Rattle.std.specs.Prelude.{Bool, List, ℕ}
use Rattle.soft.specs.Column.{places}
use Rattle.near.specs.Flags as Family

abbrev pub are_places : List ℕ → Bool
are_places ps = Family.are_places places ps

abbrev pub Flagged : (ℕ → Bool) → List ℕ → List ℕ → Type 0
Flagged counts ps flags = Family.Flagged places counts ps flags
