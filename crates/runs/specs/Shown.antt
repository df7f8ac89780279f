-- What the bytes of a reading, of a report and of a capture hold, after every list of calls. Of reports it is every modem's (`calls` Shown).
--
--   step-reads, step-shows   of a good session: an accepted reading shows the least Q (Reads), and an accepted closing the numbers of its answer
--                        (ReportedIn), both of every book that agrees with the session's
--   run-reads            after every run from an opened session, reading into 98 bytes shows the least Q of the book that the calls leave
--   run-shows            after every run an accepted closing shows its numbers
--   opened-shows, capture-shows   so of one opened with a rate and a list, and of one opened by an accepted capture
--   step-writes, run-writes   an accepted writing gives a capture whose records are in place order: of a good session, and after every run
--   capture-written      writing a session that an accepted capture opened, into a buffer of the capture's size, is accepted, and gives that capture
--                        exactly if its records are in place order
--   capture-back         in whatever order they were, each place is written back with its column
use Rattle.std.specs.Prelude.{◌≡◌, List, ◌↔◌, ℕ, length}
use Rattle.std.proofs.Common.{sym, ap, ◌∙◌}
use Rattle.std.proofs.Math.Path.{subst}
use Rattle.refusals.specs.Refusal.{accepted}
use Rattle.interpolant.specs.LeastQ.{reading_length}
use Rattle.book.specs.Book.{Book, new_book, column_in, Filled}
use Rattle.book.specs.Columns.{Agree}
use Rattle.book.specs.rows.PlaceOrder.{InPlaceOrder}
use Rattle.book64.specs.captures.CaptureOpening.{records_in, open_capture_of}
use Rattle.book64.specs.Rates.{Rate, known-rate}
use Rattle.book.specs.calls.Calls.{Answer}
use Rattle.book64.specs.calls.Calls.{Call, reading, writing, closing}
use Rattle.book64.proofs.calls.Calls.{others64, after_all}
use Rattle.book.specs.calls.Calls as any
use Rattle.calls.proofs.Shown as shown
use Rattle.book64.proofs.calls.CallLaws.{answer-alike}
use Rattle.book64.proofs.captures.RoundTrip.{write-whole, write-accepted, written-order, written-columns, written-opened, open-then-write}
use Rattle.book64.specs.Here.{open_of, DoubtfulList, RowColumns, ReportedIn}
use Rattle.book64.specs.readings.ReadingSentences.{Reads}
use Rattle.book64.proofs.readings.ReadingSentences.{reading-least}
use Rattle.session.specs.declared.Session.{Session}
use Rattle.session.specs.View.{keeping, book_of, Good}
use Rattle.session.specs.Calls.{Ending, Opening}
use Rattle.session.specs.Laws.{good-proper}
use Rattle.runs.specs.Step.{Step}
use Rattle.runs.specs.Runs.{Run}
use Rattle.runs.specs.Follows.{closed_by, capture_book, ByCapture, Start, by_opening, start-stands, start-follows, capture-starts}

module _ {t : Session} {book : Book} (good : Good t) (same : Agree (book_of t) book) where
  pub step-reads : {out : List ℕ} {a : Answer} {u : Session} → Step t (reading out) a u → length out ≡ reading_length
      → (a.number ≡ accepted) × Reads book a.first
  unfolding any.answer
  step-reads {out} step long =
      let rate = known-rate (book_of t).rate (good-proper t good).rate_known in
      subst (λ (x : Answer). (x.number ≡ accepted) × Reads book x.first) (sym (step.answered good ∙ answer-alike same (reading out)))
      (reading-least book (subst Rate same.same_rate rate) out long)

  pub step-shows : {message report : List ℕ} {a : Answer} {u : Session} → RowColumns book.row → Step t (closing message report) a u
      → a.number ≡ accepted → ReportedIn book (closed_by a)
  step-shows all step n = shown.step-shows others64 keeping good same all step n

pub step-writes : {t : Session} → Good t → {out : List ℕ} {a : Answer} {u : Session} → Step t (writing out) a u → a.number ≡ accepted
    → InPlaceOrder (records_in a.first)
unfolding any.answer
step-writes {t} good {out} {a} step n =
    let e = step.answered good in
    let w = write-whole (book_of t) out (sym (ap (λ (x : Answer). x.number) e) ∙ n) in
    subst (λ l. InPlaceOrder (records_in l))
    (sym (ap (λ (x : Answer). x.first) e ∙ ap (λ (f : Filled). f.bytes) (write-accepted (book_of t) out w.0 w.1)))
    (written-order (book_of t) (good-proper t good))

module _ {book : Book} {s : Session} (start : Start book s) {calls : List Call} {given : List Answer} {t : Session}
    (run : Run s calls given t) where
  good : Good t
  good = ((start-follows start).left run).0

  left : Agree (book_of t) (after_all book calls)
  left = ((start-follows start).left run).1

  pub run-reads : {out : List ℕ} {a : Answer} {u : Session} → Step t (reading out) a u → length out ≡ reading_length
      → (a.number ≡ accepted) × Reads (after_all book calls) a.first
  run-reads step long = step-reads good left step long

  pub run-shows : {message report : List ℕ} {a : Answer} {u : Session} → Step t (closing message report) a u → a.number ≡ accepted
      → ReportedIn (after_all book calls) (closed_by a)
  run-shows step n = shown.run-shows others64 keeping (start-stands start) run step n

  pub run-writes : {out : List ℕ} {a : Answer} {u : Session} → Step t (writing out) a u → a.number ≡ accepted → InPlaceOrder (records_in a.first)
  run-writes step n = step-writes good step n

pub opened-shows : {rate : ℕ} {list : List ℕ} {r : Ending} → Rate rate → DoubtfulList list → Opening (open_of rate list) r
    → {calls : List Call} {given : List Answer} {t : Session} → Run r.session calls given t
    → {message report : List ℕ} {a : Answer} {u : Session} → Step t (closing message report) a u → a.number ≡ accepted
    → ReportedIn (after_all (new_book rate list) calls) (closed_by a)
opened-shows known doubtful opened run step n = run-shows (by_opening known doubtful opened) run step n

pub capture-shows : {r : Ending} (bytes : List ℕ) → ByCapture bytes r → r.refusal ≡ accepted
    → {calls : List Call} {given : List Answer} {t : Session} → Run r.session calls given t
    → {message report : List ℕ} {a : Answer} {u : Session} → Step t (closing message report) a u → a.number ≡ accepted
    → ReportedIn (after_all (capture_book bytes) calls) (closed_by a)
capture-shows bytes opened n run step m = run-shows (capture-starts {bytes = bytes} opened n).start run step m

-- writing what an accepted capture opened as
pub capture-written : {bytes out : List ℕ} {r : Ending} {a : Answer} {u : Session} → ByCapture bytes r
    → r.refusal ≡ accepted → Step r.session (writing out) a u → length out ≡ length bytes
    → (a.number ≡ accepted) × ((a.first ≡ bytes) ↔ InPlaceOrder (records_in bytes))
unfolding any.answer
capture-written {bytes} {out} opened n step long =
    let o : (open_capture_of bytes).number ≡ accepted = sym opened.opening.number ∙ n in
    let given = step.answered opened.opening.good ∙ answer-alike opened.opening.book (writing out) in
    let written = open-then-write bytes out opened.small o long in
    let unchanged = written-opened bytes opened.small o in
    let first = ap (λ (x : Answer). x.first) given ∙ ap (λ (f : Filled). f.bytes) written in (
      ap (λ (x : Answer). x.number) given ∙ ap (λ (f : Filled). f.number) written,
      (λ e. unchanged.0 (sym first ∙ e), λ order. first ∙ unchanged.1 order),
    )

-- and each place is written back with its column
pub capture-back : (bytes : List ℕ) {out : List ℕ} {r : Ending} {a : Answer} {u : Session} → ByCapture bytes r
    → r.refusal ≡ accepted → Step r.session (writing out) a u → length out ≡ length bytes
    → (p : ℕ) → column_in (records_in a.first) p ≡ column_in (records_in bytes) p
unfolding any.answer
capture-back bytes {out} opened n step long p =
    let o : (open_capture_of bytes).number ≡ accepted = sym opened.opening.number ∙ n in
    let given = step.answered opened.opening.good ∙ answer-alike opened.opening.book (writing out) in
    ap (λ (x : Answer). column_in (records_in x.first) p) given
    ∙ ap (λ (f : Filled). column_in (records_in f.bytes) p) (open-then-write bytes out opened.small o long) ∙ written-columns bytes o p
