-- What decoding is given, and what it says where there is no answer, at the modem of 64 places.
--
--   Decodable, unanswered_of   mean what they mean in `answering` Decoding
use Rattle.std.specs.Prelude.{List, ℕ}
use Rattle.book64.specs.Modem64.{modem64}
use Rattle.answering.specs.Decoding as Answering

abbrev pub Decodable : ℕ → List ℕ → List ℕ → ℕ → List ℕ → List ℕ → Type 0
Decodable rate costs doubtful doubt message report = Answering.Decodable modem64 rate costs doubtful doubt message report

abbrev pub unanswered_of : ℕ → (ℕ → List ℕ) → ℕ
unanswered_of k columns = Answering.unanswered_of modem64 k columns
