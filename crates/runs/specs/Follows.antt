-- Sessions that follow a book, and the sessions that an accepted opening returns: of the modem of 64 places (`calls` Follows), which opens captures too.
--
--   closed_by a           an answer to closing: its number, and the message and the report afterwards
--   Follows s book       in every run from the session s each answer and each lent buffer afterwards are those of the book; the session left is good
--                        and its book agrees with the book after the calls, and the calls determine it; closing after the calls, into buffers of the right
--                        sizes, is early, 'too many blank', 'none near' or the answer as documents 01 and 02 say; and every list of calls has a run
--   blanks_after book calls   b, how many places are blank by the columns held after the calls
--   ReachAfter book calls T  T is document 02's with so many blank places: the largest number with 2T + b < 64 − M − 6 (`near` t-is)
--   capture_book bytes    the book that opening with a capture's rate and list and then delivering its records in their order gives
--   ByCapture bytes r    opening a capture, the bytes of which are bytes: what `open_capture` promises
--   Start book s         an accepted opening returned the session s: by a rate and a doubtful list, with a new book, or by a capture, with its book
--   Stands book s, start-stands   such a session stands for that book: it is good, its book agrees with that one, whose rate is known and whose columns are
--                        columns of costs
--   start-follows        so it follows that book; start-rate: its rate is one from 6 to 52
--   one_start            and the book determines it: opened twice alike, sessions are equal
--   CaptureStarts bytes r, capture-starts   every accepted capture is such an opening: its rate and list are ones that opening accepts, and each of its
--                        records is accepted
use Rattle.std.specs.Prelude.{true, ◌≡◌, ℕ}
use Rattle.std.proofs.Common.{sym, ap, ◌∙◌, subst}
use mathlib.Core.List.{List, Memᴰ}
use Rattle.refusals.specs.Refusal.{accepted}
use Rattle.lists.specs.Distinct.{below}
use Rattle.near.specs.Here.{IsReach}
use Rattle.book64.specs.Modem64.{modem64}
use Rattle.book.specs.Book.{Book, new_book}
use Rattle.book.specs.Columns.{agree-path, agree_trans}
use Rattle.book64.specs.captures.CaptureOpening.{rate_in, list_in, records_in, open_capture_of}
use Rattle.code.specs.Encoding.{known_rate}
use Rattle.book64.specs.Rates.{Rate, rate_known, known-rate}
use Rattle.book.specs.calls.Calls.{Answer}
use Rattle.book64.specs.calls.Calls.{Call}
use Rattle.book64.proofs.calls.Calls.{others64, answers, after_all}
use Rattle.book.proofs.sentences.Sentences.{opening-only}
use Rattle.book64.specs.Here.{open_of, DoubtfulList, RowColumns}
use Rattle.book64.proofs.calls.CallLaws.{rate-held}
use Rattle.book64.specs.captures.Captured.{deliveries}
use Rattle.book64.proofs.captures.Captured.{capture-opens, capture-costs}
use Rattle.session.specs.declared.Session.{Session}
use Rattle.session.specs.View.{keeping}
use Rattle.session.specs.Calls.{Ending, Opening}
use Rattle.calls.specs.Follows as any
use Rattle.calls.proofs.Follows as any-laws
use Rattle.calls.proofs.Follows.{new-rate}
pub use Rattle.calls.specs.Follows.{closed_by}

abbrev pub Follows : Session → Book → Type 0
Follows s book = any.Follows others64 keeping s book

-- ---- blank places after the calls

abbrev pub blanks_after : Book → List Call → ℕ
blanks_after book calls = any.blanks_after others64 book calls

abbrev pub ReachAfter : Book → List Call → ℕ → Type 0
ReachAfter book calls T = IsReach book.rate (blanks_after book calls) T

-- ---- accepted openings

abbrev pub capture_book : List ℕ → Book
capture_book bytes = after_all (new_book (rate_in bytes) (list_in bytes)) (deliveries (records_in bytes))

pub record ByCapture (bytes : List ℕ) (r : Ending) : Type 0 where
  pub opening : Opening (open_capture_of bytes) r
  pub small : below 256 bytes ≡ true

pub data Start : Book → Session → Type 0 where
  by_opening : {rate : ℕ} {list : List ℕ} {r : Ending} → Rate rate → DoubtfulList list → Opening (open_of rate list) r
      → Start (new_book rate list) r.session
  by_capture : {r : Ending} (bytes : List ℕ) → Rate (rate_in bytes) → ByCapture bytes r → r.refusal ≡ accepted
      → Start (capture_book bytes) r.session

abbrev pub Stands : Book → Session → Type 0
Stands book s = any.Stands modem64 keeping book s

capture-stands : {r : Ending} (bytes : List ℕ) → Rate (rate_in bytes) → ByCapture bytes r → r.refusal ≡ accepted
    → Stands (capture_book bytes) r.session
capture-stands bytes known opened n =
    let o : (open_capture_of bytes).number ≡ accepted = sym opened.opening.number ∙ n in
    let book = (capture-opens bytes o).delivered in
    record {
      good = opened.opening.good;
      agrees = agree_trans opened.opening.book (agree-path book);
      rate =
          ap known_rate
          (rate-held (new_book (rate_in bytes) (list_in bytes)) (deliveries (records_in bytes)) ∙ new-rate (rate_in bytes) (list_in bytes))
          ∙ rate_known known;
      columns = subst (λ (b : Book). RowColumns b.row) book (capture-costs bytes opened.small o);
    }

pub start-stands : {book : Book} {s : Session} → Start book s → Stands book s
start-stands (by_opening known fit opened) = any-laws.opening-stands modem64 keeping (rate_known known) fit opened
start-stands (by_capture bytes known opened n) = capture-stands bytes known opened n

pub start-rate : {book : Book} {s : Session} → Start book s → Rate book.rate
start-rate {book = book} start = known-rate book.rate (start-stands start).rate

pub start-follows : {book : Book} {s : Session} → Start book s → Follows s book
start-follows start = any-laws.stands-follows modem64 keeping others64 (start-stands start)

-- two openings by one book give one session
pub one_start : {book : Book} {s t : Session} → Start book s → Start book t → s ≡ t
one_start a b = any-laws.one-stands modem64 keeping (start-stands a) (start-stands b)

pub record CaptureStarts (bytes : List ℕ) (r : Ending) : Type 0 where
  pub rate : Rate (rate_in bytes)
  pub list : DoubtfulList (list_in bytes)
  pub records : (a : Answer) → Memᴰ a (answers (new_book (rate_in bytes) (list_in bytes)) (deliveries (records_in bytes))) → a.number ≡ accepted
  pub start : Start (capture_book bytes) r.session

pub capture-starts : {bytes : List ℕ} {r : Ending} → ByCapture bytes r → r.refusal ≡ accepted → CaptureStarts bytes r
capture-starts {bytes} opened n =
    let c = capture-opens bytes (sym opened.opening.number ∙ n) in
    let k = opening-only modem64 (rate_in bytes) (list_in bytes) c.opened in
    let r = known-rate (rate_in bytes) k.0 in
    record { rate = r; list = k.1; records = c.all_accepted; start = by_capture bytes r opened n }
