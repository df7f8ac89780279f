-- What stands beside an answer in document 01's modem.
--
--   missed_of known, told_of f   as the family has them, of the struct
--   Sound k columns f      beside the answer of f, near or not, stand a message of k symbols and its codeword, as the family has it
--   sound-missed           so where none is near
--   found-sound            all that a search returns is sound
use Rattle.std.specs.Prelude.{List, ℕ, ◌≤◌}
use Rattle.code.specs.Encoding.{most_rate}
use Rattle.family.specs.Member.{m16}
use Rattle.search.specs.Answered as Family
use Rattle.answers.specs.declared.Finding.{Finding}
use Rattle.answers.specs.Result.{fields_of, finding_of, found_of}
pub use Rattle.search.specs.Answered.{sound-missed}

abbrev pub missed_of : Finding → Finding
missed_of known = finding_of (Family.missed_of (fields_of known))

abbrev pub told_of : Finding → Finding
told_of f = finding_of (Family.told_of m16 most_rate (fields_of f))

abbrev pub Sound : ℕ → (ℕ → List ℕ) → Finding → Type 0
Sound k columns f = Family.Sound m16 most_rate k columns (fields_of f)

pub found-sound : (k : ℕ) (columns : ℕ → List ℕ) (ts : List (List ℕ)) → k ≤ most_rate → Sound k columns (found_of k columns ts)
found-sound k columns ts small = Family.found-sound m16 most_rate k columns ts small
