-- What the calls on whole captures answer. Each is made of calls on a session, one after the other, up to the first that is refused.
--
--   filled n bytes           a number returned and the lent buffer afterwards
--   close_opened o message report   of an accepted opening what closing its book answers; of a refused one its number, the buffers as they were
--   write_opened o out        the same of writing
--   decode_capture_of bytes message report   opening a capture, and closing
--   sort_capture_of bytes out  opening a capture, and writing
--   up_from p n               p, p + 1, …, n numbers
--   table_entries columns     the columns of all places, place 0 first
--   deliver_table book table  2 if the table is not of 2,048 bytes; else its columns delivered, place 0 first
--   open_table rate list table   opening with a rate and a doubtful list, and delivering a table
--   make_capture_of rate list table out   the same, and writing
--   WritesOpened opened before r after   writing what an opening handed back: whatever outcome it stands for, the number and the buffer afterwards are
--                            those of writing that outcome
use Rattle.std.specs.Prelude.{cond, ◌≡◌, List, [], ◌∷◌, ℕ, zero, suc, eqb, length}
use Rattle.refusals.specs.Refusal.{accepted, wrong_size}
use Rattle.book.specs.Book.{Entry, Book, Outcome, Filled}
use Rattle.book.specs.closing.Closing.{Closed, refused_closing}
use Rattle.book.specs.tables.Table.{entries_of}
use Rattle.book64.specs.captures.Writing.{write_of}
use Rattle.book64.specs.captures.CaptureOpening.{open_capture_of}
use Rattle.book64.specs.Here.{places, table_length, table_columns, refused_opening, open_of, on_accepted, deliver_row, close_of}
use Rattle.session.specs.Calls.{Ending, Opening}

-- what a call answered, put together
abbrev pub filled : ℕ → List ℕ → Filled
filled number bytes = record { number = number; bytes = bytes }

unfoldable pub close_opened : Outcome → List ℕ → List ℕ → Closed
close_opened o message report =
    cond (eqb o.number accepted) (close_of o.book message report) (refused_closing o.number message report)

unfoldable pub write_opened : Outcome → List ℕ → Filled
write_opened o out = cond (eqb o.number accepted) (write_of o.book out) (filled o.number out)

unfoldable pub decode_capture_of : List ℕ → List ℕ → List ℕ → Closed
decode_capture_of bytes message report = close_opened (open_capture_of bytes) message report

unfoldable pub sort_capture_of : List ℕ → List ℕ → Filled
sort_capture_of bytes out = write_opened (open_capture_of bytes) out

-- ---- from a table

unfoldable pub up_from : ℕ → ℕ → List ℕ
up_from p zero = []
up_from p (suc n) = p ∷ up_from (suc p) n

abbrev pub table_entries : (ℕ → List ℕ) → List Entry
table_entries columns = entries_of columns (up_from 0 places)

unfoldable pub deliver_table : Book → List ℕ → Outcome
deliver_table book table =
    cond (eqb (length table) table_length) (deliver_row book (table_entries (table_columns table))) (refused_opening wrong_size)

unfoldable pub open_table : ℕ → List ℕ → List ℕ → Outcome
open_table rate list table = on_accepted (open_of rate list) (λ book. deliver_table book table)

unfoldable pub make_capture_of : ℕ → List ℕ → List ℕ → List ℕ → Filled
make_capture_of rate list table out = write_opened (open_table rate list table) out

-- ---- by the session that an opening handed back

pub record WritesOpened (opened : Ending) (before : List ℕ) (r : ℕ) (after : List ℕ) : Type 0 where
  pub answers : (o : Outcome) → Opening o opened → filled r after ≡ write_opened o before
