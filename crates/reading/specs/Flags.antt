-- Which places a reading interpolates.
--
--   flag_of there doubtful p counts   1 where p is there, not among the doubtful places, and its flag among those that are not blank, counts, is 1; else 0
--   read_flag taken doubtful counts p   the same of place p, there if its flag among those taken is set
use Rattle.std.specs.Prelude.{Bool, false, not, ◌&&◌, List, ℕ, eqb, get_or}
use Rattle.lists.specs.Count.{bit}
use Rattle.lists.specs.Distinct.{among}

unfoldable pub flag_of : Bool → List ℕ → ℕ → ℕ → ℕ
flag_of there doubtful p counts = bit (there && (not (among p doubtful) && eqb counts 1))

unfoldable pub read_flag : List Bool → List ℕ → List ℕ → ℕ → ℕ
read_flag taken doubtful counts p = flag_of (get_or taken p false) doubtful p (get_or counts p 0)
