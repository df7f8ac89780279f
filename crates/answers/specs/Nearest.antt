-- What is found among test words in document 01's modem.
--
--   Nearest k columns tests f   as the family has it, of the struct
--   nearest-nobody, nearest-somebody, nearest-margin   as the family has them
use Rattle.std.specs.Prelude.{List, ℕ}
use Rattle.family.specs.Member.{m16}
use Rattle.search.specs.Nearest as Family
use Rattle.answers.specs.declared.Finding.{Finding}
use Rattle.answers.specs.Result.{fields_of}
pub use Rattle.search.specs.Nearest.{nearest-nobody, nearest-somebody, nearest-margin}

abbrev pub Nearest : ℕ → (ℕ → List ℕ) → List (List ℕ) → Finding → Type 0
Nearest k columns tests f = Family.Nearest m16 k columns tests (fields_of f)
