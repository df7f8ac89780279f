-- What writing a capture answers, and the parts of its bytes.
--
--   head_length d             5 + d: the bytes before the records, where d places are doubtful
--   head_bytes rate list      version, length, rate, d and the d doubtful places
--   record_bytes p column     a place and its 32 cost bytes
--   row_of costs n            the places below n, rising, with their columns in the table
--   Writing s before r after   writing the session s into a buffer: of a good session the number and the buffer afterwards are the book's; whatever
--                            the session, a refused call leaves the buffer as it was, and the buffer keeps its length
use Rattle.std.specs.Prelude.{List, ◌∷◌, ℕ, ◌+◌, ◌/◌, ◌%◌, length}
use Rattle.lists.specs.Listed.{listed}
use Rattle.soft.specs.CostBytes.{cost_bytes}
use Rattle.book.specs.Book.{Entry}
use Rattle.book64.specs.captures.Capture.{body_length, version_of}
use Rattle.book64.specs.Modem64.{modem64}
use Rattle.book64.specs.calls.Calls.{write}
use Rattle.book64.proofs.calls.Calls.{others64}
use Rattle.calls.specs.Promises.{Asking}
use Rattle.session.specs.declared.Session.{Session}
use Rattle.session.specs.View.{keeping, entry_at}

abbrev pub head_length : ℕ → ℕ
head_length d = 5 + d

unfoldable pub head_bytes : ℕ → List ℕ → List ℕ
head_bytes rate list = version_of (length list) ∷ body_length (length list) / 256 ∷ body_length (length list) % 256 ∷ rate ∷ length list ∷ list

unfoldable pub record_bytes : ℕ → List ℕ → List ℕ
record_bytes p column = p ∷ cost_bytes column

unfoldable pub row_of : List ℕ → ℕ → List Entry
row_of costs n = listed n (entry_at costs)

abbrev pub Writing : Session → List ℕ → ℕ → List ℕ → Type 0
Writing s before r after = Asking modem64 keeping others64 s (write before) r after
