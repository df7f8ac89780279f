-- The message sent, after every list of calls: what `book` Repairs says of closing, said of the session that the calls left. (`calls` Repaired, of the modem of
-- 64 places, which opens captures too.)
--
--   follows-repaired, follows-refused, follows-found, follows-alone, follows-sure, follows-never   of a session that follows a book: an opened one, or one opened by
--                          an accepted capture (Follows)
--   Full rate list calls   no place is missing in the book that the calls leave, from one opened with that rate and list
--   columns_after rate list calls   that book's columns by place
--   run-repaired           opened with no doubtful places: if none is missing and at most T places have a best symbol that is not the sent one, closing
--                          accepts and gives the message sent, with its report
--   run-faded              so it does if places are blank, no more than the rate's limit, and at most T of the others are wrong
--   run-refused            opened with no doubtful places: if none is missing and the message sent is too far (`book` Repairs TooFar), closing says 'none near' and
--                          leaves the buffers as they were
--   run-found              opened with any doubtful list: if none is missing and few places are wrong, closing accepts, and what it gives is the message
--                          sent or no dearer
--   run-alone              if moreover the message sent is alone (`book` Repairs Alone), it is the message sent, and there is no margin
--   run-sure               so where so few places are doubtful that no two codewords are near (FewDoubtful)
--   run-never              opened with any doubtful list: if none is missing and the message sent is alone, closing gives it with its report, or says 'none near' and leaves the buffers as they were
--   capture-alone, capture-sure, capture-never   the same of a session opened by an accepted capture
--
-- T is the one that the blank places leave (ReachAfter), and they are none of the wrong ones.
use Rattle.std.specs.Prelude.{◌≡◌, List, [], ℕ, ◌≤◌, length}
use Rattle.refusals.specs.Refusal.{accepted, none_near}
use Rattle.lists.specs.Words.{Word}
use Rattle.near.specs.Here.{blank_limit, reach_of}
use Rattle.book64.specs.Modem64.{modem64}
use Rattle.book.specs.Book.{Book, new_book}
use Rattle.book64.specs.Rates.{Rate, rate_known}
use Rattle.book.specs.calls.Calls.{Answer}
use Rattle.book64.specs.calls.Calls.{Call, closing}
use Rattle.book64.proofs.calls.Calls.{others64, after_all}
use Rattle.calls.specs.Repaired as any
use Rattle.calls.proofs.Repaired as any-laws
use Rattle.book.proofs.sentences.Repairs.{few-alone}
use Rattle.book64.specs.Here.{open_of, columns_of, Missing, report_length, DoubtfulList, FewWrong, FewDoubtful, Alone, not_best, TooFar, Repaired, NoDearer, Sure, RefusedAs, Never}
use Rattle.session.specs.declared.Session.{Session}
use Rattle.session.specs.View.{keeping}
use Rattle.session.specs.Calls.{Ending, Opening}
use Rattle.runs.specs.Step.{Step}
use Rattle.runs.specs.Runs.{Run}
use Rattle.runs.specs.Follows.{closed_by, Follows, blanks_after, ReachAfter, capture_book, ByCapture, start-follows, start-rate, capture-starts}

module _ {s : Session} {book : Book} (follows : Follows s book) {calls : List Call} {given : List Answer} {t : Session}
    (run : Run s calls given t) {message report : List ℕ} {a : Answer} {u : Session} (step : Step t (closing message report) a u)
    (long : length message ≡ book.rate) (whole_report : length report ≡ report_length) (full : (p : ℕ) → Missing (after_all book calls).row p → ⊥)
    {T : ℕ} (reach : ReachAfter book calls T) (m : List ℕ) where
  pub follows-repaired : Rate book.rate → book.doubtful ≡ [] → Word 16 book.rate m
      → not_best book.rate (columns_of (after_all book calls).row) m ≤ T
      → Repaired book.rate (columns_of (after_all book calls).row) book.doubtful m (closed_by a)
  follows-repaired rate = any-laws.follows-repaired others64 keeping follows run step long whole_report full reach m (rate_known rate)

  pub follows-refused : Rate book.rate → book.doubtful ≡ [] → TooFar book.rate (columns_of (after_all book calls).row) T m
      → RefusedAs none_near message report (closed_by a)
  follows-refused rate = any-laws.follows-refused others64 keeping follows run step long whole_report full reach m (rate_known rate)

  pub follows-found : FewWrong book.rate (columns_of (after_all book calls).row) book.doubtful T m
      → NoDearer book.rate (columns_of (after_all book calls).row) book.doubtful m (closed_by a)
  follows-found = any-laws.follows-found others64 keeping follows run step long whole_report full reach m

  pub follows-alone : Rate book.rate → FewWrong book.rate (columns_of (after_all book calls).row) book.doubtful T m
      → Alone book.rate (columns_of (after_all book calls).row) book.doubtful T m
      → Sure book.rate (columns_of (after_all book calls).row) book.doubtful m (closed_by a)
  follows-alone rate = any-laws.follows-alone others64 keeping follows run step long whole_report full reach m (rate_known rate)

  pub follows-sure : Rate book.rate → FewDoubtful book.rate (columns_of (after_all book calls).row) book.doubtful T
      → FewWrong book.rate (columns_of (after_all book calls).row) book.doubtful T m
      → Sure book.rate (columns_of (after_all book calls).row) book.doubtful m (closed_by a)
  follows-sure rate = any-laws.follows-sure others64 keeping follows run step long whole_report full reach m (rate_known rate)

  pub follows-never : Rate book.rate → Alone book.rate (columns_of (after_all book calls).row) book.doubtful T m
      → Never book.rate (columns_of (after_all book calls).row) book.doubtful m message report (closed_by a)
  follows-never rate = any-laws.follows-never others64 keeping follows run step long whole_report full reach m (rate_known rate)

-- ---- an opened session

abbrev pub Full : ℕ → List ℕ → List Call → Type 0
Full rate list calls = any.Full others64 rate list calls

abbrev pub columns_after : ℕ → List ℕ → List Call → ℕ → List ℕ
columns_after rate list calls = any.columns_after others64 rate list calls

module _ {rate : ℕ} (known : Rate rate) {r : Ending} {calls : List Call} {given : List Answer} {t : Session} {message report : List ℕ}
    {a : Answer} {u : Session} (step : Step t (closing message report) a u) (long : length message ≡ rate) (whole_report : length report ≡ report_length)
    (m : List ℕ) where
  pub run-repaired : Opening (open_of rate []) r → Run r.session calls given t → Full rate [] calls
      → {T : ℕ} → ReachAfter (new_book rate []) calls T → Word 16 rate m
      → not_best rate (columns_after rate [] calls) m ≤ T → Repaired rate (columns_after rate [] calls) [] m (closed_by a)
  run-repaired opened run full reach word few = any-laws.run-repaired others64 keeping (rate_known known) step long whole_report m opened run full reach word few

  pub run-faded : Opening (open_of rate []) r → Run r.session calls given t → Full rate [] calls
      → blanks_after (new_book rate []) calls ≤ blank_limit rate → Word 16 rate m
      → not_best rate (columns_after rate [] calls) m ≤ reach_of rate (blanks_after (new_book rate []) calls)
      → Repaired rate (columns_after rate [] calls) [] m (closed_by a)
  run-faded opened run full few_blank word few = any-laws.run-faded others64 keeping (rate_known known) step long whole_report m opened run full few_blank word few

  pub run-refused : Opening (open_of rate []) r → Run r.session calls given t → Full rate [] calls
      → {T : ℕ} → ReachAfter (new_book rate []) calls T → TooFar rate (columns_after rate [] calls) T m
      → RefusedAs none_near message report (closed_by a)
  run-refused opened run full reach far = any-laws.run-refused others64 keeping (rate_known known) step long whole_report m opened run full reach far

  pub run-found : {list : List ℕ} → DoubtfulList list → Opening (open_of rate list) r → Run r.session calls given t → Full rate list calls
      → {T : ℕ} → ReachAfter (new_book rate list) calls T
      → FewWrong rate (columns_after rate list calls) list T m → NoDearer rate (columns_after rate list calls) list m (closed_by a)
  run-found d opened run full reach = any-laws.run-found others64 keeping (rate_known known) step long whole_report m d opened run full reach

  pub run-alone : {list : List ℕ} → DoubtfulList list → Opening (open_of rate list) r → Run r.session calls given t → Full rate list calls
      → {T : ℕ} → ReachAfter (new_book rate list) calls T → FewWrong rate (columns_after rate list calls) list T m
      → Alone rate (columns_after rate list calls) list T m → Sure rate (columns_after rate list calls) list m (closed_by a)
  run-alone d opened run full reach = any-laws.run-alone others64 keeping (rate_known known) step long whole_report m d opened run full reach

  pub run-sure : {list : List ℕ} → DoubtfulList list → Opening (open_of rate list) r → Run r.session calls given t → Full rate list calls
      → {T : ℕ} → ReachAfter (new_book rate list) calls T → FewDoubtful rate (columns_after rate list calls) list T
      → FewWrong rate (columns_after rate list calls) list T m → Sure rate (columns_after rate list calls) list m (closed_by a)
  run-sure d opened run full reach = any-laws.run-sure others64 keeping (rate_known known) step long whole_report m d opened run full reach

  pub run-never : {list : List ℕ} → DoubtfulList list → Opening (open_of rate list) r → Run r.session calls given t → Full rate list calls
      → {T : ℕ} → ReachAfter (new_book rate list) calls T → Alone rate (columns_after rate list calls) list T m
      → Never rate (columns_after rate list calls) list m message report (closed_by a)
  run-never d opened run full reach = any-laws.run-never others64 keeping (rate_known known) step long whole_report m d opened run full reach

-- ---- a session opened by an accepted capture

module _ (bytes : List ℕ) {r : Ending} (opened : ByCapture bytes r) (taken : r.refusal ≡ accepted) {calls : List Call}
    {given : List Answer} {t : Session} (run : Run r.session calls given t) {message report : List ℕ} {a : Answer} {u : Session}
    (step : Step t (closing message report) a u) (long : length message ≡ (capture_book bytes).rate) (whole_report : length report ≡ report_length)
    (full : (p : ℕ) → Missing (after_all (capture_book bytes) calls).row p → ⊥) {T : ℕ} (reach : ReachAfter (capture_book bytes) calls T) (m : List ℕ) where
  pub capture-alone : FewWrong (capture_book bytes).rate (columns_of (after_all (capture_book bytes) calls).row) (capture_book bytes).doubtful T m
      → Alone (capture_book bytes).rate (columns_of (after_all (capture_book bytes) calls).row) (capture_book bytes).doubtful T m
      → Sure (capture_book bytes).rate (columns_of (after_all (capture_book bytes) calls).row) (capture_book bytes).doubtful m (closed_by a)
  capture-alone =
      let start = (capture-starts {bytes = bytes} opened taken).start in
      follows-alone (start-follows start) run step long whole_report full reach m (start-rate start)

  pub capture-sure : FewDoubtful (capture_book bytes).rate (columns_of (after_all (capture_book bytes) calls).row) (capture_book bytes).doubtful T
      → FewWrong (capture_book bytes).rate (columns_of (after_all (capture_book bytes) calls).row) (capture_book bytes).doubtful T m
      → Sure (capture_book bytes).rate (columns_of (after_all (capture_book bytes) calls).row) (capture_book bytes).doubtful m (closed_by a)
  capture-sure few-doubtful few = capture-alone few (few-alone modem64 few-doubtful few)

  pub capture-never : Alone (capture_book bytes).rate (columns_of (after_all (capture_book bytes) calls).row) (capture_book bytes).doubtful T m
      → Never (capture_book bytes).rate (columns_of (after_all (capture_book bytes) calls).row) (capture_book bytes).doubtful m message report (closed_by a)
  capture-never =
      let start = (capture-starts {bytes = bytes} opened taken).start in
      follows-never (start-follows start) run step long whole_report full reach m (start-rate start)
