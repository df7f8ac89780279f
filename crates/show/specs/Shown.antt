-- What the program prints for the bytes that it reads (document 01, 'The capture'), by the book.
--
--   answer_lines book c   `rate d total tests pinned changed margin`, then the message; `refused N` if closing was refused
--   closed_of book        what closing answers into buffers of zeros
--   shown_of bytes        of the capture's book, closed; `refused N` if opening was refused
--   numbers_lines book c  a first line with the rate, d, and the total of the codeword of c's message, the test words with a codeword within T, the
--                        codeword's pinned and changed places and its margin, or a dash where there is none; a second line with the message
--   Shown bytes lines    where opening and closing are accepted: the report shows the numbers of the answer, and the lines are these
--   shown-numbers        so are those that the program prints
use Rattle.std.specs.Prelude.{true, cond, ◌≡◌, List, ◌++◌, ℕ, eqb, length, replicate}
use Rattle.std.proofs.Common.{ap, ◌∙◌, eq-eqb}
use Rattle.lists.specs.Distinct.{below}
use Rattle.refusals.specs.Refusal.{accepted}
use Rattle.soft.specs.Total.{total_of, pinned_of, changed_of}
use Rattle.code.specs.Encoding.{encode_of}
use Rattle.book.specs.Book.{Book, Outcome}
use Rattle.book64.specs.captures.CaptureOpening.{open_capture_of}
use Rattle.book.specs.closing.Closing.{Closed}
use Rattle.book64.specs.Here.{report_length, columns_of, tests_for, margin_for, close_of, ReportedIn}
use Rattle.book64.proofs.captures.Captured.{capture-shows}
use Rattle.text.specs.Text.{space, number_line, margin_text, heading_of, heading-shows, message_line, refused_line}

unfoldable pub answer_lines : Book → Closed → List ℕ
answer_lines book c =
    cond (eqb c.number accepted) (heading_of book.rate (length book.doubtful) c.report ++ message_line c.message)
    (refused_line c.number)

-- the buffers of a closing have a byte for each symbol and those of the report; what they hold before it is left by none that is accepted
abbrev pub closed_of : Book → Closed
closed_of book = close_of book (replicate book.rate 0) (replicate report_length 0)

unfoldable pub closed_lines : Book → List ℕ
closed_lines book = answer_lines book (closed_of book)

unfoldable pub opened_lines : Outcome → List ℕ
opened_lines o = cond (eqb o.number accepted) (closed_lines o.book) (refused_line o.number)

unfoldable pub shown_of : List ℕ → List ℕ
shown_of bytes = opened_lines (open_capture_of bytes)

unfoldable pub numbers_lines : Book → Closed → List ℕ
numbers_lines book c =
    (number_line book.rate space ++ number_line (length book.doubtful) space
    ++ number_line (total_of 64 (columns_of book.row) (encode_of book.rate c.message)) space
    ++ number_line (tests_for book.rate (columns_of book.row) book.doubtful) space
    ++ number_line (pinned_of 64 (columns_of book.row) (encode_of book.rate c.message)) space
    ++ number_line (changed_of 64 (columns_of book.row) (encode_of book.rate c.message)) space
    ++ margin_text (margin_for book.rate (columns_of book.row) book.doubtful c.message))
    ++ message_line c.message

pub record ShownFor (lines : List ℕ) (book : Book) : Type 0 where
  pub shows : ReportedIn book (closed_of book)
  pub lines_are : lines ≡ numbers_lines book (closed_of book)

abbrev pub Shown : List ℕ → List ℕ → Type 0
Shown bytes lines =
    (open_capture_of bytes).number ≡ accepted → (closed_of (open_capture_of bytes).book).number ≡ accepted
    → ShownFor lines (open_capture_of bytes).book

pub shown-numbers : (bytes : List ℕ) → below 256 bytes ≡ true → Shown bytes (shown_of bytes)
unfolding shown_of opened_lines closed_lines answer_lines numbers_lines
shown-numbers bytes small opened n = record { shows = reported; lines_are = two ∙ ap (λ l. l ++ message_line (closed_of book).message) (heading-shows book.rate (length book.doubtful) reported) }
  where
    book : Book
    book = (open_capture_of bytes).book

    reported : ReportedIn book (closed_of book)
    reported = capture-shows bytes small opened _ _ n

    two : shown_of bytes ≡ heading_of book.rate (length book.doubtful) (closed_of book).report ++ message_line (closed_of book).message
    two = rw (eq-eqb (open_capture_of bytes).number accepted opened, eq-eqb (closed_of (open_capture_of bytes).book).number accepted n)
