-- Reading a message off a codeword at GF(16) with w = 4: each symbol is a sum of the word's values times a dual of its monomial.
--
--   message_at v t      message symbol t so read, and extract_of k v the first k of them
use Rattle.std.specs.Prelude.{List, ℕ}
use Rattle.family.specs.Member.{m16}
use Rattle.family.specs.Extraction as Family

abbrev pub extracted_at : List ℕ → ℕ → ℕ
extracted_at v o = Family.extracted_at m16 v o

abbrev pub message_at : List ℕ → ℕ → ℕ
message_at v t = Family.message_at m16 v t

abbrev pub extract_of : ℕ → List ℕ → List ℕ
extract_of k v = Family.extract_of m16 k v
