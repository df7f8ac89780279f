-- The better of two answers in document 01's modem.
--
--   better_of k a b         two branches together, as the family has it, of the struct
--   sound-better           it is sound, as the family has it
use Rattle.std.specs.Prelude.{ℕ}
use Rattle.search.specs.Better as Family
use Rattle.answers.specs.declared.Finding.{Finding}
use Rattle.answers.specs.Result.{fields_of, finding_of}
pub use Rattle.search.specs.Better.{sound-better}

abbrev pub better_of : ℕ → Finding → Finding → Finding
better_of k a b = finding_of (Family.better_of k (fields_of a) (fields_of b))
