-- Sessions that follow a book, and the sessions that an accepted opening returns. Of every modem.
--
--   closed_by a           an answer to closing: its number, and the message and the report afterwards
--   Follows s book       in every run from the session s each answer and each lent buffer afterwards are those of the book; the session left is good
--                        and its book agrees with the book after the calls, and the calls determine it; closing after the calls, into buffers of the right
--                        sizes, is early, 'too many blank', 'none near' or the answer as documents 01 and 02 say; and every list of calls has a run
--   blanks_after book calls   b, how many places are blank by the columns held after the calls
--   ReachAfter book calls T  T is document 02's with so many blank places: the largest number with 2T + b < n − M − g (`near` Reach)
--   Stands book s        the session s stands for the book: it is good, its book agrees with that one, whose rate is known and whose columns are columns of
--                        costs
--   Start book s         an accepted opening, by a known rate and a doubtful list, returned the session s, with a new book
use Rattle.std.specs.Prelude.{◌≡◌, List, ℕ, length}
use Rattle.near.specs.Reach.{Reach}
use Rattle.book.specs.Model.{Model}
use Rattle.book.specs.Book.{Book, new_book}
use Rattle.book.specs.Columns.{Agree}
use Rattle.book.specs.closing.Closing.{Closed, report_length}
use Rattle.book.specs.opening.Opening.{open_of}
use Rattle.book.specs.opening.OpeningLaws.{Known, DoubtfulList}
use Rattle.book.specs.sentences.Sentences.{blanks_in, Closes}
use Rattle.book.specs.rows.Costs.{RowColumns}
use Rattle.book.specs.calls.Calls.{Answer, Call, closing, Others, answers, after_all}
use Rattle.book.specs.calls.CallLaws.{AllFit}
use Rattle.calls.specs.Keeping.{Keeping, book_of, Good}
use Rattle.calls.specs.Promises.{Opening}
use Rattle.calls.specs.Step.{Step}
use Rattle.calls.specs.Runs.{Run}

abbrev pub closed_by : Answer → Closed
closed_by a = record { number = a.number; message = a.first; report = a.second }

module _ {𝓓 : Model} {X S : Type 0} (others : Others 𝓓 X) (K : Keeping S) where
  pub record Follows (s : S) (book : Book) : Type 0 where
    pub answered : {calls : List (Call X)} {given : List Answer} {t : S} → Run others K s calls given t → given ≡ answers others book calls
    pub left : {calls : List (Call X)} {given : List Answer} {t : S} → Run others K s calls given t
        → Good 𝓓 K t × Agree (book_of 𝓓 K t) (after_all others book calls)
    pub one_left : {calls : List (Call X)} {given other : List Answer} {t u : S} → Run others K s calls given t → Run others K s calls other u → t ≡ u
    pub closed : {calls : List (Call X)} {given : List Answer} {t : S} → Run others K s calls given t
        → {message report : List ℕ} {a : Answer} {u : S} → Step others K t (closing message report) a u
        → length message ≡ book.rate → length report ≡ report_length 𝓓 → Closes 𝓓 (after_all others book calls) (closed_by a)
    pub not_empty : {calls : List (Call X)} → AllFit 𝓓 calls → (given : List Answer) × (t : S) × Run others K s calls given t

-- ---- blank places after the calls

module _ {𝓓 : Model} {X : Type 0} (others : Others 𝓓 X) where
  open 𝓓 use {member}

  abbrev pub blanks_after : Book → List (Call X) → ℕ
  blanks_after book calls = blanks_in 𝓓 (after_all others book calls)

  abbrev pub ReachAfter : Book → List (Call X) → ℕ → Type 0
  ReachAfter book calls T = Reach member book.rate (blanks_after book calls) T

-- ---- accepted openings

module _ (𝓓 : Model) {S : Type 0} (K : Keeping S) where
  pub record Stands (book : Book) (s : S) : Type 0 where
    pub good : Good 𝓓 K s
    pub agrees : Agree (book_of 𝓓 K s) book
    pub rate : Known 𝓓 book.rate
    pub columns : RowColumns 𝓓 book.row

  pub data Start : Book → S → Type 0 where
    by_opening : {rate : ℕ} {list : List ℕ} {n : ℕ} {t : S} → Known 𝓓 rate → DoubtfulList 𝓓 list → Opening 𝓓 K (open_of 𝓓 rate list) n t
        → Start (new_book rate list) t
