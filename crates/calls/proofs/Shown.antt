-- What the bytes of a report hold, after every list of calls. Of every modem.
--
--   step-shows           of a good session: an accepted closing shows the numbers of its answer (ReportedIn), of every book that agrees with the session's
--   run-shows            after every run, from a session that stands for a book
--   opened-shows         so of one opened with a rate and a list
use Rattle.std.proofs.Math.Bool.{true}
use Rattle.std.specs.Prelude.{◌≡◌, List, ℕ}
use Rattle.std.proofs.Common.{sym, ap, ◌∙◌}
use Rattle.std.proofs.Math.Path.{subst}
use Rattle.refusals.specs.Refusal.{accepted}
use Rattle.book.specs.Model.{Model}
use Rattle.book.specs.Book.{Book, new_book}
use Rattle.book.specs.Columns.{Agree}
use Rattle.book.specs.opening.Opening.{fit_doubt, open_of}
use Rattle.book.specs.opening.OpeningLaws.{list-short, Known, DoubtfulList}
use Rattle.book.specs.calls.Calls.{Answer, Call, closing, Others, answer, after_all}
use Rattle.book.proofs.calls.CallLaws.{answer-alike, after-costs}
use Rattle.book.specs.rows.Costs.{RowColumns}
use Rattle.book.specs.closing.Report.{ReportedIn}
use Rattle.book.proofs.closing.Report.{closing-shows}
use Rattle.calls.specs.Keeping.{Keeping, book_of, Good, good-proper}
use Rattle.calls.specs.Promises.{Opening}
use Rattle.calls.specs.Step.{Step}
use Rattle.calls.specs.Runs.{Run, run_fits}
use Rattle.calls.specs.Follows.{closed_by, Stands}
use Rattle.calls.proofs.Follows.{opening-stands, stands-follows}

module _ {𝓓 : Model} {X S : Type 0} (others : Others 𝓓 X) (K : Keeping S) where
  module _ {t : S} {book : Book} (good : Good 𝓓 K t) (same : Agree (book_of 𝓓 K t) book) where
    pub step-shows : {message report : List ℕ} {a : Answer} {u : S} → RowColumns 𝓓 book.row → Step others K t (closing message report) a u
        → a.number ≡ accepted → ReportedIn 𝓓 book (closed_by a)
    unfolding answer
    step-shows {message} {report} all step n =
        let e = step.answered good ∙ answer-alike others same (closing message report) in
        let fit : fit_doubt 𝓓 book.doubtful ≡ true = subst (λ l. fit_doubt 𝓓 l ≡ true) same.same_list (good-proper 𝓓 K t good).list_fit in
        subst (λ (x : Answer). ReportedIn 𝓓 book (closed_by x)) (sym e)
        (closing-shows 𝓓 book message report all (list-short 𝓓 book.doubtful fit) (sym (ap (λ (x : Answer). x.number) e) ∙ n))

  module _ {book : Book} {s : S} (stands : Stands 𝓓 K book s) {calls : List (Call X)} {given : List Answer} {t : S}
      (run : Run others K s calls given t) where
    pub run-shows : {message report : List ℕ} {a : Answer} {u : S} → Step others K t (closing message report) a u → a.number ≡ accepted
        → ReportedIn 𝓓 (after_all others book calls) (closed_by a)
    run-shows step n =
        let left = (stands-follows 𝓓 K others stands).left run in
        step-shows left.0 left.1 (after-costs others book (run_fits others K run) stands.columns) step n

  pub opened-shows : {rate : ℕ} {list : List ℕ} {n : ℕ} {s : S} → Known 𝓓 rate → DoubtfulList 𝓓 list → Opening 𝓓 K (open_of 𝓓 rate list) n s
      → {calls : List (Call X)} {given : List Answer} {t : S} → Run others K s calls given t
      → {message report : List ℕ} {a : Answer} {u : S} → Step others K t (closing message report) a u → a.number ≡ accepted
      → ReportedIn 𝓓 (after_all others (new_book rate list) calls) (closed_by a)
  opened-shows known doubtful opened run step n = run-shows (opening-stands 𝓓 K known doubtful opened) run step n
