-- The message sent, after every list of calls, of every modem: what `book` Repairs says of closing, said of the session that the calls left.
--
--   follows-repaired, follows-refused, follows-found, follows-alone, follows-sure, follows-never   of a session that follows a book (Follows)
--   run-repaired           opened with no doubtful places: if none is missing and at most T places have a best symbol that is not the sent one, closing
--                          accepts and gives the message sent, with its report
--   run-faded              so it does if places are blank, no more than the rate's limit, and at most T of the others are wrong
--   run-refused            opened with no doubtful places: if none is missing and the message sent is too far (`book` Repairs TooFar), closing says 'none near' and
--                          leaves the buffers as they were
--   run-found              opened with any doubtful list: if none is missing and few places are wrong, closing accepts, and what it gives is the message
--                          sent or no dearer
--   run-alone              if moreover the message sent is alone (`book` Repairs Alone), it is the message sent, and there is no margin
--   run-sure               so where so few places are doubtful that no two codewords are near (FewDoubtful)
--   run-never              opened with any doubtful list: if none is missing and the message sent is alone, closing gives it with its report, or says 'none near' and leaves the buffers as they were
--
-- T is the one that the blank places leave (ReachAfter), and they are none of the wrong ones.
use Rattle.std.specs.Prelude.{◌≡◌, ℕ, ◌≤◌, length}
use Rattle.std.proofs.Math.Path.{refl}
use Rattle.std.proofs.Common.{sym, ◌∙◌, subst, subst₂}
use mathlib.Core.List.{List, []}
use Rattle.refusals.specs.Refusal.{none_near}
use Rattle.lists.specs.Words.{Word}
use Rattle.near.specs.Near.{blank_limit, reach_of}
use Rattle.near.specs.Reach.{reach-is}
use Rattle.near.specs.Rivals.{FewDoubtful}
use Rattle.book.specs.Model.{Model, width}
use Rattle.book.specs.Book.{Book, new_book}
use Rattle.book.specs.Columns.{columns_of}
use Rattle.book.specs.Entries.{Missing}
use Rattle.book.specs.opening.Opening.{open_of}
use Rattle.book.specs.opening.OpeningLaws.{Known, DoubtfulList}
use Rattle.book.specs.closing.Closing.{Closed, report_length, close_of}
use Rattle.book.specs.calls.Calls.{Answer, Call, closing, Others, after_all}
use Rattle.book.proofs.calls.CallLaws.{rate-held, list_held}
use Rattle.book.specs.sentences.Repairs.{FewWrong, not_best, Repaired, NoDearer, TooFar, RefusedAs, Alone, Sure, Never}
use Rattle.book.proofs.sentences.Repairs.{always-repaired, always-refused, always-found, few-alone, always-alone, never-another}
use Rattle.calls.specs.Keeping.{Keeping}
use Rattle.calls.specs.Promises.{Opening}
use Rattle.calls.specs.PromiseLaws.{no-places}
use Rattle.calls.specs.Step.{Step}
use Rattle.calls.specs.Runs.{Run}
use Rattle.calls.specs.Follows.{closed_by, Follows, blanks_after, ReachAfter}
use Rattle.calls.proofs.Follows.{closes_as, reach-after, opening-stands, stands-follows}
use Rattle.calls.specs.Repaired.{Full, columns_after}

module _ {𝓓 : Model} {X S : Type 0} (others : Others 𝓓 X) (K : Keeping S) where
  open 𝓓 use {member, workable}

  module _ {s : S} {book : Book} (by : Follows others K s book) {calls : List (Call X)} {given : List Answer} {t : S}
      (run : Run others K s calls given t) {message report : List ℕ} {a : Answer} {u : S} (step : Step others K t (closing message report) a u)
      (long : length message ≡ book.rate) (whole_report : length report ≡ report_length 𝓓) (full : (p : ℕ) → Missing 𝓓 (after_all others book calls).row p → ⊥)
      {T : ℕ} (reach : ReachAfter others book calls T) (m : List ℕ) where
    -- what holds of closing the book after the calls, by its rate and its list, holds of the answer, by those of the book
    by-book : (P : ℕ → List ℕ → Closed → Type 0)
        → P (after_all others book calls).rate (after_all others book calls).doubtful (close_of 𝓓 (after_all others book calls) message report)
        → P book.rate book.doubtful (closed_by a)
    by-book P h =
        subst (P book.rate book.doubtful) (closes_as others K by run step)
        (subst₂ (λ r l. P r l (close_of 𝓓 (after_all others book calls) message report)) (rate-held others book calls) (list_held others book calls) h)

    columns : ℕ → List ℕ
    columns = columns_of 𝓓 (after_all others book calls).row

    -- of closing the book after the calls
    long_after : length message ≡ (after_all others book calls).rate
    long_after = long ∙ sym (rate-held others book calls)

    pub follows-repaired : Known 𝓓 book.rate → book.doubtful ≡ [] → Word (width 𝓓) book.rate m
        → not_best 𝓓 book.rate (columns_of 𝓓 (after_all others book calls).row) m ≤ T
        → Repaired 𝓓 book.rate (columns_of 𝓓 (after_all others book calls).row) book.doubtful m (closed_by a)
    unfolding columns
    follows-repaired =
        by-book (λ r l c. Known 𝓓 r → l ≡ [] → Word (width 𝓓) r m → not_best 𝓓 r columns m ≤ T → Repaired 𝓓 r columns l m c)
        (λ rate. always-repaired 𝓓 (after_all others book calls) full message report long_after whole_report m (reach-after others book calls reach) rate)

    pub follows-refused : Known 𝓓 book.rate → book.doubtful ≡ [] → TooFar 𝓓 book.rate (columns_of 𝓓 (after_all others book calls).row) T m
        → RefusedAs 𝓓 none_near message report (closed_by a)
    unfolding columns
    follows-refused =
        by-book (λ r l c. Known 𝓓 r → l ≡ [] → TooFar 𝓓 r columns T m → RefusedAs 𝓓 none_near message report c)
        (λ rate. always-refused 𝓓 (after_all others book calls) full message report long_after whole_report m (reach-after others book calls reach) rate)

    pub follows-found : FewWrong 𝓓 book.rate (columns_of 𝓓 (after_all others book calls).row) book.doubtful T m
        → NoDearer 𝓓 book.rate (columns_of 𝓓 (after_all others book calls).row) book.doubtful m (closed_by a)
    unfolding columns
    follows-found =
        by-book (λ r l c. FewWrong 𝓓 r columns l T m → NoDearer 𝓓 r columns l m c)
        (always-found 𝓓 (after_all others book calls) full message report long_after whole_report m (reach-after others book calls reach))

    pub follows-alone : Known 𝓓 book.rate → FewWrong 𝓓 book.rate (columns_of 𝓓 (after_all others book calls).row) book.doubtful T m
        → Alone 𝓓 book.rate (columns_of 𝓓 (after_all others book calls).row) book.doubtful T m
        → Sure 𝓓 book.rate (columns_of 𝓓 (after_all others book calls).row) book.doubtful m (closed_by a)
    unfolding columns
    follows-alone =
        by-book (λ r l c. Known 𝓓 r → FewWrong 𝓓 r columns l T m → Alone 𝓓 r columns l T m → Sure 𝓓 r columns l m c)
        (λ rate. always-alone 𝓓 (after_all others book calls) full message report long_after whole_report m (reach-after others book calls reach) rate)

    pub follows-sure : Known 𝓓 book.rate → FewDoubtful member book.rate (columns_of 𝓓 (after_all others book calls).row) book.doubtful T
        → FewWrong 𝓓 book.rate (columns_of 𝓓 (after_all others book calls).row) book.doubtful T m
        → Sure 𝓓 book.rate (columns_of 𝓓 (after_all others book calls).row) book.doubtful m (closed_by a)
    follows-sure rate few-doubtful few = follows-alone rate few (few-alone 𝓓 few-doubtful few)

    pub follows-never : Known 𝓓 book.rate → Alone 𝓓 book.rate (columns_of 𝓓 (after_all others book calls).row) book.doubtful T m
        → Never 𝓓 book.rate (columns_of 𝓓 (after_all others book calls).row) book.doubtful m message report (closed_by a)
    unfolding columns
    follows-never =
        by-book (λ r l c. Known 𝓓 r → Alone 𝓓 r columns l T m → Never 𝓓 r columns l m message report c)
        (λ rate. never-another 𝓓 (after_all others book calls) full message report long_after whole_report m (reach-after others book calls reach) rate)

  -- ---- an opened session

  follows : {rate : ℕ} {list : List ℕ} {n : ℕ} {s : S} → Known 𝓓 rate → DoubtfulList 𝓓 list → Opening 𝓓 K (open_of 𝓓 rate list) n s
      → Follows others K s (new_book rate list)
  follows known d opened = stands-follows 𝓓 K others (opening-stands 𝓓 K known d opened)

  module _ {rate : ℕ} (known : Known 𝓓 rate) {n : ℕ} {s : S} {calls : List (Call X)} {given : List Answer} {t : S} {message report : List ℕ}
      {a : Answer} {u : S} (step : Step others K t (closing message report) a u) (long : length message ≡ rate) (whole_report : length report ≡ report_length 𝓓)
      (m : List ℕ) where
    pub run-repaired : Opening 𝓓 K (open_of 𝓓 rate []) n s → Run others K s calls given t → Full others rate [] calls
        → {T : ℕ} → ReachAfter others (new_book rate []) calls T → Word (width 𝓓) rate m
        → not_best 𝓓 rate (columns_after others rate [] calls) m ≤ T → Repaired 𝓓 rate (columns_after others rate [] calls) [] m (closed_by a)
    unfolding new_book
    run-repaired opened run full reach word few =
        follows-repaired (follows known (no-places 𝓓) opened) run step long whole_report full reach m known refl word few

    pub run-faded : Opening 𝓓 K (open_of 𝓓 rate []) n s → Run others K s calls given t → Full others rate [] calls
        → blanks_after others (new_book rate []) calls ≤ blank_limit member rate → Word (width 𝓓) rate m
        → not_best 𝓓 rate (columns_after others rate [] calls) m ≤ reach_of member rate (blanks_after others (new_book rate []) calls)
        → Repaired 𝓓 rate (columns_after others rate [] calls) [] m (closed_by a)
    unfolding new_book
    run-faded opened run full few_blank word few =
        run-repaired opened run full (reach-is member (workable rate known) few_blank) word few

    pub run-refused : Opening 𝓓 K (open_of 𝓓 rate []) n s → Run others K s calls given t → Full others rate [] calls
        → {T : ℕ} → ReachAfter others (new_book rate []) calls T → TooFar 𝓓 rate (columns_after others rate [] calls) T m
        → RefusedAs 𝓓 none_near message report (closed_by a)
    unfolding new_book
    run-refused opened run full reach far =
        follows-refused (follows known (no-places 𝓓) opened) run step long whole_report full reach m known refl far

    pub run-found : {list : List ℕ} → DoubtfulList 𝓓 list → Opening 𝓓 K (open_of 𝓓 rate list) n s → Run others K s calls given t → Full others rate list calls
        → {T : ℕ} → ReachAfter others (new_book rate list) calls T
        → FewWrong 𝓓 rate (columns_after others rate list calls) list T m → NoDearer 𝓓 rate (columns_after others rate list calls) list m (closed_by a)
    unfolding new_book
    run-found d opened run full reach few =
        follows-found (follows known d opened) run step long whole_report full reach m few

    pub run-alone : {list : List ℕ} → DoubtfulList 𝓓 list → Opening 𝓓 K (open_of 𝓓 rate list) n s → Run others K s calls given t → Full others rate list calls
        → {T : ℕ} → ReachAfter others (new_book rate list) calls T → FewWrong 𝓓 rate (columns_after others rate list calls) list T m
        → Alone 𝓓 rate (columns_after others rate list calls) list T m → Sure 𝓓 rate (columns_after others rate list calls) list m (closed_by a)
    unfolding new_book
    run-alone d opened run full reach =
        follows-alone (follows known d opened) run step long whole_report full reach m known

    pub run-sure : {list : List ℕ} → DoubtfulList 𝓓 list → Opening 𝓓 K (open_of 𝓓 rate list) n s → Run others K s calls given t → Full others rate list calls
        → {T : ℕ} → ReachAfter others (new_book rate list) calls T → FewDoubtful member rate (columns_after others rate list calls) list T
        → FewWrong 𝓓 rate (columns_after others rate list calls) list T m → Sure 𝓓 rate (columns_after others rate list calls) list m (closed_by a)
    unfolding new_book
    run-sure d opened run full reach =
        follows-sure (follows known d opened) run step long whole_report full reach m known

    pub run-never : {list : List ℕ} → DoubtfulList 𝓓 list → Opening 𝓓 K (open_of 𝓓 rate list) n s → Run others K s calls given t → Full others rate list calls
        → {T : ℕ} → ReachAfter others (new_book rate list) calls T → Alone 𝓓 rate (columns_after others rate list calls) list T m
        → Never 𝓓 rate (columns_after others rate list calls) list m message report (closed_by a)
    unfolding new_book
    run-never d opened run full reach =
        follows-never (follows known d opened) run step long whole_report full reach m known
