-- Sessions that follow a book, and the sessions that an accepted opening returns. Of every modem.
--
--   good-follows         a good session follows every book that agrees with its own
--   closes_as            so closing after a run answers what closing the book after the calls answers
--   reach-after, limit-after   the rate of the book is that after the calls
--   opening-accepted     an opening with a known rate and a doubtful list accepts
--   opening-stands, start-stands   such a session stands for that book
--   stands-follows       a session that stands for a book follows it
--   one-stands           and the book determines it: opened twice alike, sessions are equal
--   new-rate, new-list   the rate and the list of a new book
use Rattle.std.specs.Prelude.{◌≡◌, refl, List, ℕ, length}
use Rattle.std.proofs.Common.{sym, ◌∙◌}
use Rattle.std.proofs.Math.Path.{ap, subst}
use Rattle.refusals.specs.Refusal.{accepted}
use Rattle.near.specs.Near.{blank_limit}
use Rattle.near.specs.Reach.{Reach}
use Rattle.book.specs.Model.{Model}
use Rattle.book.specs.Book.{Book, new_book, Outcome}
use Rattle.book.specs.Columns.{Agree, agree-sym, agree-path, agree_trans}
use Rattle.book.specs.closing.Closing.{report_length, close_of}
use Rattle.book.specs.opening.Opening.{open_of}
use Rattle.book.specs.opening.OpeningLaws.{Known, DoubtfulList}
use Rattle.book.specs.sentences.Sentences.{Closes}
use Rattle.book.proofs.sentences.Sentences.{closes, opening_accepts}
use Rattle.book.specs.rows.Costs.{new-costs}
use Rattle.book.specs.calls.Calls.{Answer, Call, closing, Others, answer, after_all}
use Rattle.book.proofs.calls.CallLaws.{answer-alike, answers-alike, after_all-alike, rate-held}
use Rattle.calls.specs.Keeping.{Keeping, book_of, Good, one-session}
use Rattle.calls.specs.Promises.{Opening}
use Rattle.calls.specs.Step.{Step}
use Rattle.calls.specs.Runs.{Run, every-run, run-good, run-book, one_end, some_run}
use Rattle.calls.specs.Follows.{closed_by, Follows, blanks_after, ReachAfter, Stands, Start, by_opening}

pub new-rate : (rate : ℕ) (list : List ℕ) → (new_book rate list).rate ≡ rate
unfolding new_book
new-rate rate list = refl

pub new-list : (rate : ℕ) (list : List ℕ) → (new_book rate list).doubtful ≡ list
unfolding new_book
new-list rate list = refl

module _ {𝓓 : Model} {X S : Type 0} (others : Others 𝓓 X) (K : Keeping S) where
  module _ {s : S} {book : Book} (good : Good 𝓓 K s) (same : Agree (book_of 𝓓 K s) book) where
    left_after : {calls : List (Call X)} {given : List Answer} {t : S} → Run others K s calls given t
        → Agree (book_of 𝓓 K t) (after_all others book calls)
    left_after {calls} run = agree_trans (run-book others K run good) (after_all-alike others same calls)

    closed_after : {calls : List (Call X)} {given : List Answer} {t : S} → Run others K s calls given t
        → {message report : List ℕ} {a : Answer} {u : S} → Step others K t (closing message report) a u
        → length message ≡ (after_all others book calls).rate → length report ≡ report_length 𝓓
        → Closes 𝓓 (after_all others book calls) (closed_by a)
    unfolding answer
    closed_after {calls} run {message} {report} step long whole_report =
        subst (λ (x : Answer). Closes 𝓓 (after_all others book calls) (closed_by x))
        (sym (step.answered (run-good others K run good) ∙ answer-alike others (left_after run) (closing message report)))
        (closes 𝓓 message report long whole_report)

    pub good-follows : Follows others K s book
    good-follows =
        record {
          answered = λ {calls} run. every-run others K run good ∙ answers-alike others same calls;
          left = λ run. (run-good others K run good, left_after run);
          one_left = λ a b. one_end others K good a b;
          closed = λ {calls} run step long whole_report. closed_after run step (long ∙ sym (rate-held others book calls)) whole_report;
          not_empty = λ fit. some_run others K fit s good;
        }

  pub closes_as : {s : S} {book : Book} → Follows others K s book → {calls : List (Call X)} {given : List Answer} {t : S} → Run others K s calls given t
      → {message report : List ℕ} {a : Answer} {u : S} → Step others K t (closing message report) a u
      → close_of 𝓓 (after_all others book calls) message report ≡ closed_by a
  unfolding answer
  closes_as {s} {book} follows {calls} run {message} {report} step =
      let left = follows.left run in
      ap (λ (x : Answer). closed_by x) (sym (step.answered left.0 ∙ answer-alike others left.1 (closing message report)))

-- ---- blank places after the calls

module _ {𝓓 : Model} {X : Type 0} (others : Others 𝓓 X) where
  open 𝓓 use {member}

  pub reach-after : (book : Book) (calls : List (Call X)) {T : ℕ} → ReachAfter others book calls T
      → Reach member (after_all others book calls).rate (blanks_after others book calls) T
  reach-after book calls {T} reach = subst (λ k. Reach member k (blanks_after others book calls) T) (sym (rate-held others book calls)) reach

  pub limit-after : (book : Book) (calls : List (Call X)) → blank_limit member (after_all others book calls).rate ≡ blank_limit member book.rate
  limit-after book calls = ap (λ k. blank_limit member k) (rate-held others book calls)

-- ---- accepted openings

module _ (𝓓 : Model) {S : Type 0} (K : Keeping S) where
  pub opening-accepted : {rate : ℕ} {list : List ℕ} {n : ℕ} {t : S} → Known 𝓓 rate → DoubtfulList 𝓓 list → Opening 𝓓 K (open_of 𝓓 rate list) n t
      → n ≡ accepted
  opening-accepted known fit opened = opened.number ∙ ap (λ (x : Outcome). x.number) (opening_accepts 𝓓 known fit)

  pub opening-stands : {rate : ℕ} {list : List ℕ} {n : ℕ} {t : S} → Known 𝓓 rate → DoubtfulList 𝓓 list → Opening 𝓓 K (open_of 𝓓 rate list) n t
      → Stands 𝓓 K (new_book rate list) t
  opening-stands {rate} {list} known fit opened =
      record {
        good = opened.good;
        agrees = agree_trans opened.book (agree-path (ap (λ (x : Outcome). x.book) (opening_accepts 𝓓 known fit)));
        rate = subst (Known 𝓓) (sym (new-rate rate list)) known;
        columns = new-costs 𝓓 rate list;
      }

  pub start-stands : {book : Book} {s : S} → Start 𝓓 K book s → Stands 𝓓 K book s
  start-stands (by_opening known fit opened) = opening-stands known fit opened

  pub stands-follows : {X : Type 0} (others : Others 𝓓 X) {book : Book} {s : S} → Stands 𝓓 K book s → Follows others K s book
  stands-follows others stands = good-follows others K stands.good stands.agrees

  -- two openings by one book give one session
  pub one-stands : {book : Book} {s t : S} → Stands 𝓓 K book s → Stands 𝓓 K book t → s ≡ t
  one-stands {s = s} {t = t} a b = one-session 𝓓 K s t a.good b.good (agree_trans a.agrees (agree-sym b.agrees))
