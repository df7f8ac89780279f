-- What sums over all places tell of a word in document 01's modem: a codeword's are zero, and one wrong symbol alone is told by five of them.
--
--   overall v            the sum of the values at all places, as the family has it
--   folded_of a           a plane whose first bit is the sum of all bits of a
--   symbol_in word p, with_bit word b p   the symbol at a place, and the same only where bit b of the place's number is 1
--   SumsOf word s        the first three of those sums, as numbers
--   At P r               the number r has P, and is that of a place; where there is none, the number of places has it
--   PlaceAt x y r        r is the place of the point (x, y), as the family has it
--   WrongPlace word e r  r is a place where e alone has the sums of the word, as the family has it
--   KnownFirst k f       whatever the columns, a message of the rate and its codeword stand in f
use Rattle.std.specs.Prelude.{List, Option, Some, None, ℕ, ◌*◌, ◌/◌, ◌%◌, ◌^◌, ◌<◌, get_or}
use Rattle.std.specs.Int.Bits.{bit_xor}
use Rattle.family.specs.Member.{m16, places, symbols}
use Rattle.planes.specs.Arrays.{symbols_of}
use Rattle.code.specs.Encoding.{most_rate}
use Rattle.search.specs.Alone as Alone
use Rattle.search.specs.Guessed as Guessed
use Rattle.answers.specs.declared.Finding.{Finding}
use Rattle.answers.specs.Result.{fields_of}
use Rattle.guess.specs.declared.Sums.{Sums}
unfoldable pub use Rattle.search.specs.Alone.{overall}

abbrev twice : ℕ → ℕ → ℕ
twice a n = bit_xor a (a / n)

abbrev pub folded_of : ℕ → ℕ
folded_of a = twice (twice (twice (twice (twice (twice a 2) 4) 16) 256) 65536) 4294967296

unfoldable pub symbol_in : List ℕ → ℕ → ℕ
symbol_in word p = get_or word p 0

unfoldable pub with_bit : List ℕ → ℕ → ℕ → ℕ
with_bit word b p = get_or word p 0 % symbols m16 * (p / 2 ^ b % 2)

abbrev pub SumsOf : List ℕ → Sums → Type 0
SumsOf word s = Alone.SumsOf m16 (symbols_of word) s.all s.across s.squares

abbrev pub At : (ℕ → Type 0) → Option ℕ → Type 0
At P (Some r) = (r < places m16) × P r
At P None = P (places m16)

abbrev pub PlaceAt : ℕ → ℕ → Option ℕ → Type 0
PlaceAt x y r = At (Alone.PlaceAt m16 x y) r

abbrev pub WrongPlace : List ℕ → ℕ → Option ℕ → Type 0
WrongPlace word change r = At (Alone.WrongPlace m16 (symbols_of word) change) r

abbrev pub KnownFirst : ℕ → Finding → Type 0
KnownFirst k f = Guessed.KnownFirst m16 most_rate k (fields_of f)
