-- A marked answer after every list of calls: none of all codewords of the rate costs less, near or not. (`calls` Marked, of the modem of 64 places.)
--
--   step-marked          of a good session, and of every book that agrees with the session's
--   run-marked           after every run of fitting calls, from a session whose row has columns of costs of 0 to 65535
--   opened-marked, capture-marked   so of one opened with a rate and a list, and of one opened by an accepted capture
use Rattle.std.specs.Prelude.{◌≡◌, List, ℕ}
use Rattle.std.proofs.Common.{◌∙◌}
use Rattle.refusals.specs.Refusal.{accepted}
use Rattle.book.specs.Book.{Book, new_book}
use Rattle.book.specs.Columns.{Agree}
use Rattle.book64.specs.Rates.{Rate}
use Rattle.book.specs.calls.Calls.{Answer}
use Rattle.book64.specs.calls.Calls.{Call, closing}
use Rattle.book64.proofs.calls.Calls.{others64, after_all}
use Rattle.calls.proofs.Marked as any
use Rattle.book64.specs.Here.{open_of, DoubtfulList, RowColumns, mark_in, mark-byte, CheapestIn}
use Rattle.session.specs.declared.Session.{Session}
use Rattle.session.specs.View.{keeping, book_of, Good}
use Rattle.session.specs.Calls.{Ending, Opening}
use Rattle.runs.specs.Step.{Step}
use Rattle.runs.specs.Runs.{Run}
use Rattle.runs.specs.Follows.{closed_by, capture_book, ByCapture, Start, by_opening, start-stands, capture-starts}

pub step-marked : {t : Session} {book : Book} → Good t → Agree (book_of t) book → {message report : List ℕ} {a : Answer} {u : Session}
    → RowColumns book.row → Step t (closing message report) a u → a.number ≡ accepted → mark_in a.second ≡ 1 → CheapestIn book (closed_by a)
step-marked good same {a = a} all step n mark = any.step-marked others64 keeping good same all step n (mark-byte a.second ∙ mark)

pub run-marked : {book : Book} {s : Session} → Start book s → {calls : List Call} {given : List Answer} {t : Session} → Run s calls given t
    → {message report : List ℕ} {a : Answer} {u : Session} → Step t (closing message report) a u
    → a.number ≡ accepted → mark_in a.second ≡ 1 → CheapestIn (after_all book calls) (closed_by a)
run-marked start run {a = a} step n mark = any.run-marked others64 keeping (start-stands start) run step n (mark-byte a.second ∙ mark)

pub opened-marked : {rate : ℕ} {list : List ℕ} {r : Ending} → Rate rate → DoubtfulList list → Opening (open_of rate list) r
    → {calls : List Call} {given : List Answer} {t : Session} → Run r.session calls given t
    → {message report : List ℕ} {a : Answer} {u : Session} → Step t (closing message report) a u → a.number ≡ accepted
    → mark_in a.second ≡ 1 → CheapestIn (after_all (new_book rate list) calls) (closed_by a)
opened-marked known doubtful opened run step n mark = run-marked (by_opening known doubtful opened) run step n mark

pub capture-marked : {r : Ending} (bytes : List ℕ) → ByCapture bytes r → r.refusal ≡ accepted
    → {calls : List Call} {given : List Answer} {t : Session} → Run r.session calls given t
    → {message report : List ℕ} {a : Answer} {u : Session} → Step t (closing message report) a u → a.number ≡ accepted
    → mark_in a.second ≡ 1 → CheapestIn (after_all (capture_book bytes) calls) (closed_by a)
capture-marked bytes opened n run step m mark = run-marked (capture-starts {bytes = bytes} opened n).start run step m mark
