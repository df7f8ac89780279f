-- Document 01's sentences about opening captures, each a theorem of the book of the modem of 64 places.
--
--   row-calls            delivering a row that is accepted is a list of accepted deliveries
--   CaptureOpens bytes, capture-opens   opening an accepted capture counts as opening with its rate and list and then delivering its records in their
--                        order
--   capture-costs        the columns of an accepted capture's row are columns
--   capture-shows        so an accepted closing of the book that it opens as shows the numbers of the message that it gives
use Rattle.std.specs.Prelude.{true, ◌≡◌, ℕ, zero, suc, ◌+◌, take, drop}
use Rattle.std.proofs.Common.{sym, ap, ◌∙◌, subst, ⊎_elim}
use mathlib.Core.List.Memᴰ
use mathlib.Core.List.{List, Memᴰ}
use Rattle.refusals.specs.Refusal.{accepted}
use Rattle.code.specs.Encoding.{known_rate}
use Rattle.lists.specs.Distinct.{below, below-take, below-drop}
use Rattle.book64.specs.Modem64.{modem64}
use Rattle.book.specs.Book.{Entry, Book, new_book, Outcome}
use Rattle.book64.specs.captures.Capture.{record_length, records_of}
use Rattle.book64.specs.captures.CaptureOpening.{rate_in, list_in, records_in, open_capture_of, doubt_in}
use Rattle.book64.specs.captures.CaptureCases.{open-checked, book_in, capture-fit, capture-proper}
use Rattle.book.specs.rows.RowLaws.{open-accepted}
use Rattle.book.specs.calls.Calls.{Answer}
use Rattle.book64.proofs.calls.Calls.{others64, answers, after_all}
use Rattle.book.proofs.calls.CallLaws as call-laws
use Rattle.book.specs.rows.Costs.{costs-column}
use Rattle.book.proofs.closing.Report.{closing-shows}
use Rattle.book64.specs.Here.{places, fit_doubt, open_of, close_of, deliver_row, RowColumns, IsColumn, ReportedIn}
use Rattle.book.specs.opening.OpeningLaws.{list-short}
use Rattle.book64.specs.captures.Captured.{deliveries}

-- ---- 'opening an accepted capture counts as opening with its rate and list and then delivering its records in their order'

pub record CaptureOpens (bytes : List ℕ) : Type 0 where
  pub opened : (open_of (rate_in bytes) (list_in bytes)).number ≡ accepted
  pub delivered : (open_capture_of bytes).book ≡ after_all (new_book (rate_in bytes) (list_in bytes)) (deliveries (records_in bytes))
  pub all_accepted : (a : Answer) → Memᴰ a (answers (new_book (rate_in bytes) (list_in bytes)) (deliveries (records_in bytes))) → a.number ≡ accepted

pub row-calls : (book : Book) (entries : List Entry) → (deliver_row book entries).number ≡ accepted
    → ((deliver_row book entries).book ≡ after_all book (deliveries entries))
    × ((a : Answer) → Memᴰ a (answers book (deliveries entries)) → a.number ≡ accepted)
row-calls = call-laws.row-calls others64

pub capture-opens : (bytes : List ℕ) → (open_capture_of bytes).number ≡ accepted → CaptureOpens bytes
unfolding book_in
capture-opens bytes n =
    let fit = capture-fit bytes n in
    let r : known_rate (rate_in bytes) ≡ true = fit.proper.rate_known in
    let f : fit_doubt (list_in bytes) ≡ true = fit.proper.list_fit in
    let o : open_capture_of bytes ≡ deliver_row (new_book (rate_in bytes) (list_in bytes)) (records_in bytes) =
    open-checked bytes fit.size-fits fit.version-fits fit.length-fits r fit.suits f in
    let c =
    row-calls (new_book (rate_in bytes) (list_in bytes)) (records_in bytes) (sym (ap (λ (x : Outcome). x.number) o) ∙ n) in
    record {
      opened = ap (λ (x : Outcome). x.number) (open-accepted modem64 (rate_in bytes) (list_in bytes) r f);
      delivered = ap (λ (x : Outcome). x.book) o ∙ c.0;
      all_accepted = c.1;
    }

-- ---- the columns

records-columns : (n : ℕ) (bytes : List ℕ) → below 256 bytes ≡ true → RowColumns (records_of n bytes)
unfolding records_of
records-columns zero bytes b e m = absurd (Memᴰ.not-nil m)
records-columns (suc n) bytes b e m =
    ⊎_elim
    (λ q.
    subst (λ (x : Entry). IsColumn x.column) (sym q)
    (costs-column modem64 (take 32 (drop 1 bytes)) (below-take 256 32 (drop 1 bytes) (below-drop 256 1 bytes b))))
    (λ l. records-columns n (drop record_length bytes) (below-drop 256 record_length bytes b) e l)
    (Memᴰ.cases_cons m)

pub capture-costs : (bytes : List ℕ) → below 256 bytes ≡ true → (open_capture_of bytes).number ≡ accepted
    → RowColumns (open_capture_of bytes).book.row
unfolding book_in
capture-costs bytes b n =
    subst (λ (o : Outcome). RowColumns o.book.row) (sym (capture-fit bytes n).opens)
    (records-columns places (drop (5 + doubt_in bytes) bytes) (below-drop 256 (5 + doubt_in bytes) bytes b))

-- ---- the report

pub capture-shows : (bytes : List ℕ) → below 256 bytes ≡ true → (open_capture_of bytes).number ≡ accepted → (message report : List ℕ)
    → (close_of (open_capture_of bytes).book message report).number ≡ accepted
    → ReportedIn (open_capture_of bytes).book (close_of (open_capture_of bytes).book message report)
capture-shows bytes b o message report n =
    closing-shows modem64 (open_capture_of bytes).book message report (capture-costs bytes b o)
    (list-short modem64 (open_capture_of bytes).book.doubtful (capture-proper bytes o).list_fit) n
