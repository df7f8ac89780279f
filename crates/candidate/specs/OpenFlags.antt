-- The blank places as they are handed down to functions, in document 01's modem.
--
--   OpenFlags k columns counts b   as the family has it: the flags are 1 at the places that are not blank, b are blank, and no more than the rate allows
--   limit-flagged               the limit of keys by b is that of the columns
use Rattle.std.specs.Prelude.{List, ℕ}
use Rattle.family.specs.Member.{m16}
use Rattle.search.specs.OpenFlags as Family
pub use Rattle.search.specs.OpenFlags.{limit-flagged}

abbrev pub OpenFlags : ℕ → (ℕ → List ℕ) → List ℕ → ℕ → Type 0
OpenFlags k columns counts b = Family.OpenFlags m16 k columns counts b
