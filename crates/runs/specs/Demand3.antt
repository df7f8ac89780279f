-- Demand 3, whole, of the modem of 64 places: 'No sequence of calls can lose, add or change an answer.'
--
--   ClosedAfter book calls a   closing after those calls, into buffers of the right sizes, is given the answer a; the calls are made on a session that an
--                        accepted opening returned, with that book
--   Demand3              the claim, sentence by sentence
--   whole                it holds: what is not of captures, readings and writings is every modem's (`calls` Demand3 demand-3), at this one
--
-- It speaks of runs, whose steps are what the contract of `step` says of every call that it makes (Step, Stepping), and of openings (Start), which are what
-- the contracts of `open` and `open_capture` say. T is that of the closing (ReachAfter): by the rate and the places that are blank in the columns held then.
-- The rates are those from 6 to 52 (rates). There is a T up to 57 − M blank places (blank_rule): with none blank it is 6 at rate 39 and 1 at rate 49, and there
-- is one up to 13 blank places at rate 39 and 3 at rate 49 (limits).
use Rattle.std.specs.Prelude.{◌≡◌, List, [], ◌∷◌, ◌++◌, ◌↔◌, ◌≢◌, ◌⊎◌, ℕ, suc, ◌+◌, ◌-◌, ◌*◌, ◌<◌, ◌≤◌, length, get_or}
use Rattle.std.proofs.Common.{subst, arith}
use Rattle.refusals.specs.Refusal.{accepted, place_missing, none_near, too_blank}
use Rattle.near.specs.Here.{blank_limit, IsReach}
use Rattle.near.proofs.Here.{m-is, t-is}
use Rattle.book.specs.Book.{Book, column_in}
use Rattle.book.specs.Columns.{Agree}
use Rattle.book.specs.rows.PlaceOrder.{InPlaceOrder}
use Rattle.book.specs.rows.Delivery.{with_entry}
use Rattle.book.specs.rows.Withdrawal.{without_place}
use Rattle.book64.specs.captures.CaptureOpening.{records_in}
use Rattle.book64.specs.Rates.{Rate, rate_known, rate-39, rate-49, rate-blanks}
use Rattle.book64.proofs.Rates.{rate-reaches}
use Rattle.book.specs.calls.Calls.{Answer}
use Rattle.book64.specs.calls.Calls.{Call, deliver, writing, closing, withdraw}
use Rattle.book64.proofs.calls.Calls.{others64, first_lent, second_lent, answer, after, answers, after_all}
use Rattle.book64.specs.Here.{open_of, report_length, Missing, DoubtfulList, IsNear, IsAnswer}
use Rattle.calls.specs.Demand3 as any
use Rattle.calls.proofs.Demand3 as any-laws
use Rattle.book64.specs.calls.CallLaws.{AllFit}
use Rattle.book64.specs.calls.Undone.{Spares}
use Rattle.book64.proofs.calls.Undone.{accepted_of}
use Rattle.session.specs.declared.Session.{Session}
use Rattle.session.specs.View.{keeping, book_of, Good}
use Rattle.session.specs.Calls.{Ending, Opening}
use Rattle.runs.specs.Step.{Step}
use Rattle.runs.specs.Runs.{Run}
use Rattle.runs.specs.Follows.{closed_by, blanks_after, ReachAfter, ByCapture, Start, start-stands, CaptureStarts, capture-starts}
use Rattle.runs.specs.Shown.{run-writes, capture-written, capture-back}
use Rattle.runs.specs.Alike as agreeing
use Rattle.runs.specs.Alike.{Reached, SameHeld, Alike}

pub data ClosedAfter (book : Book) (calls : List Call) (a : Answer) : Type 0 where
  closed_after : {s t u : Session} {given : List Answer} {message report : List ℕ} → Start book s → Run s calls given t
      → Step t (closing message report) a u → length message ≡ book.rate → length report ≡ report_length → ClosedAfter book calls a

pub record Demand3 : Type 0 where
  -- 'For every rate and every strictly rising list of up to 8 doubtful places, none above 63, opening accepts;' document 02: 'Demand 3 is read with
  -- lists of up to 12 places'
  pub opening_accepts : {rate : ℕ} {list : List ℕ} {r : Ending} → Rate rate → DoubtfulList list → Opening (open_of rate list) r
      → r.refusal ≡ accepted
  -- document 02: 'The rate becomes any k from 6 to 52'
  pub rates : (rate : ℕ) → Rate rate ↔ ((6 ≤ rate) × (rate ≤ 52))
  -- a doubtful list in these words
  pub lists : (list : List ℕ)
      → DoubtfulList list
      ↔ ((length list ≤ 12) × ((i : ℕ) → i < length list → get_or list i 0 ≤ 63) × ((i : ℕ) → suc i < length list → get_or list i 0 < get_or list (suc i) 0))
  -- 'and in every list of deliveries, interpolant readings, capture writings and closings from the session so opened, refused ones included and in
  -- whatever order, each answer and each lent buffer afterwards are those of document 01's book.' Document 02: 'Withdrawals stand in demand 3's list too'
  pub answered : {book : Book} {s t : Session} {calls : List Call} {given : List Answer} → Start book s → Run s calls given t
      → given ≡ answers book calls
  -- so is the session left: it is good, its book agrees with the book after the calls, and the calls determine it
  pub left : {book : Book} {s t : Session} {calls : List Call} {given : List Answer} → Start book s → Run s calls given t
      → Good t × Agree (book_of t) (after_all book calls)
  pub one_left : {book : Book} {s t u : Session} {calls : List Call} {given other : List Answer} → Start book s → Run s calls given t
      → Run s calls other u → t ≡ u
  -- and every list of calls can be made
  pub some_run : {book : Book} {s : Session} {calls : List Call} → Start book s → AllFit calls
      → (given : List Answer) × (t : Session) × Run s calls given t
  -- 'Closing after such a list, into buffers of the right sizes, is refused as early exactly when a place is missing.'
  pub early : {book : Book} {calls : List Call} {a : Answer} → ClosedAfter book calls a
      → (a.number ≡ place_missing) ↔ ((p : ℕ) × Missing (after_all book calls).row p)
  -- document 02: 'there a closing with no place missing but too many blank gives 12', and no other does
  pub too-blank : {book : Book} {calls : List Call} {a : Answer} → ClosedAfter book calls a
      → (a.number ≡ too_blank) ↔ (((p : ℕ) → Missing (after_all book calls).row p → ⊥) × (blank_limit book.rate < blanks_after book calls))
  -- document 02: 'M = k + 5 and T and the blank limit (57 − M) by the general rule'; no T but 0 with so many
  pub blank_rule : {rate : ℕ} → Rate rate → (blank_limit rate ≡ 57 - (rate + 5)) × IsReach rate (57 - (rate + 5)) 0
  pub reach_rule : (rate b T : ℕ) → IsReach rate b T ↔ ((2 * T + b < 64 - (rate + 5) - 6) × ((n : ℕ) → 2 * n + b < 64 - (rate + 5) - 6 → n ≤ T))
  -- 'more than 13 blanks at rate 39, more than 3 at rate 49'; T with none blank and with so many
  pub limits : (blank_limit 39 ≡ 13) × (blank_limit 49 ≡ 3) × IsReach 39 0 6 × IsReach 49 0 1 × IsReach 39 13 0 × IsReach 49 3 0
  -- no call but closing gives 12
  pub blank_closing : (book : Book) (call : Call) → (answer book call).number ≡ too_blank
      → (message : List ℕ) × (report : List ℕ) × (call ≡ closing message report)
  -- without that there is a T: 'With b blank places T is the largest number with 2T + b < 64 − M − 6'
  pub some_reach : {book : Book} {calls : List Call} {a : Answer} → ClosedAfter book calls a
      → ((p : ℕ) → Missing (after_all book calls).row p → ⊥) → a.number ≢ too_blank → (T : ℕ) × ReachAfter book calls T
  -- 'With none missing it says 'none near' exactly when no codeword differs from some test word in at most 6 places (rate 39) or 1 place (rate 49);' document
  -- 02: 'demand 3 is read with this T and this way of counting'
  pub none-near : {book : Book} {calls : List Call} {a : Answer} → ClosedAfter book calls a
      → ((p : ℕ) → Missing (after_all book calls).row p → ⊥) → {T : ℕ} → ReachAfter book calls T
      → (a.number ≡ none_near) ↔ ((m : List ℕ) → IsNear (after_all book calls) T m → ⊥)
  -- 'otherwise it gives the message of such a codeword, and every other such codeword has a larger total cost, or an equal total and a larger message.'
  pub otherwise : {book : Book} {calls : List Call} {a : Answer} → ClosedAfter book calls a
      → ((p : ℕ) → Missing (after_all book calls).row p → ⊥) → {T : ℕ} → ReachAfter book calls T → a.number ≢ none_near
      → IsAnswer (after_all book calls) T (closed_by a)
  -- document 01: 'opening an accepted capture counts as opening with its rate and list and then delivering its records in their order': it is one of
  -- the openings (Start) of which all of this is said
  pub captures : {bytes : List ℕ} {r : Ending} → ByCapture bytes r → r.refusal ≡ accepted → CaptureStarts bytes r
  -- document 01: 'Only an accepted delivery changes the book. A refused call leaves its buffers as they were.' Of document 02 an accepted withdrawal does, too
  pub only_changes : (book : Book) (call : Call)
      → (after book call ≡ book)
      ⊎ ((p : ℕ) × (column : List ℕ) × (call ≡ deliver p column) × ((answer book call).number ≡ accepted) × (after book call ≡ with_entry book p column))
      ⊎ ((p : ℕ) × (call ≡ withdraw p) × ((answer book call).number ≡ accepted) × (after book call ≡ without_place book p))
  -- document 02: 'an accepted one takes the place and its column out of the book's row'
  pub takes_out : (book : Book) (p : ℕ) → (answer book (withdraw p)).number ≡ accepted → after book (withdraw p) ≡ without_place book p
  pub refused_kept : (book : Book) (call : Call) → (answer book call).number ≢ accepted
      → ((answer book call).first ≡ first_lent call) × ((answer book call).second ≡ second_lent call)
  -- 'Two sessions so reached that agree in rate, doubtful list, places taken and the columns held for these read and close alike', and, of document 02, 'then
  -- write alike, in whichever order their places arrived'
  pub alike : {s t : Session} → Reached s → Reached t → SameHeld s t → Alike s t
  -- they are equal, and so are two sessions that openings by one book return
  pub one_held : {s t : Session} → Reached s → Reached t → SameHeld s t → s ≡ t
  pub one_start : {book : Book} {s t : Session} → Start book s → Start book t → s ≡ t
  -- document 02: 'The writer shall put records in rising place order'
  pub in_order : {book : Book} {s t : Session} {calls : List Call} {given : List Answer} → Start book s → Run s calls given t
      → {out : List ℕ} {a : Answer} {u : Session} → Step t (writing out) a u → a.number ≡ accepted → InPlaceOrder (records_in a.first)
  -- 'and writing what was read from an accepted capture returns it unchanged exactly if it is in place order'
  pub unchanged : {bytes out : List ℕ} {r : Ending} {a : Answer} {u : Session} → ByCapture bytes r
      → r.refusal ≡ accepted → Step r.session (writing out) a u → length out ≡ length bytes
      → (a.number ≡ accepted) × ((a.first ≡ bytes) ↔ InPlaceOrder (records_in bytes))
  -- document 02: 'Captures in other orders are still read, but are written back in place order': each place with its column
  pub written_back : (bytes : List ℕ) {out : List ℕ} {r : Ending} {a : Answer} {u : Session} → ByCapture bytes r
      → r.refusal ≡ accepted → Step r.session (writing out) a u → length out ≡ length bytes
      → (p : ℕ) → column_in (records_in a.first) p ≡ column_in (records_in bytes) p
  -- document 02: 'A delivery shall be undone: … the session answers and reads as if that delivery, and every call refused since, had never been made. It need
  -- not be the latest one.' With that delivery, calls that do not withdraw its place and the withdrawal, and with those of the calls alone that were accepted,
  -- the session left is the same
  pub undone : {book : Book} {s t u : Session} {calls : List Call} {given other : List Answer} → Start book s → (before : List Call) (p : ℕ)
      (column : List ℕ) → (answer (after_all book before) (deliver p column)).number ≡ accepted → Spares p calls
      → Run s (before ++ (deliver p column ∷ (calls ++ (withdraw p ∷ [])))) given t
      → Run s (before ++ accepted_of (after (after_all book before) (deliver p column)) calls) other u → t ≡ u

-- every modem's, at this one
abbrev general : any.Demand3 others64 keeping
general = any-laws.demand-3 others64 keeping

closes-after : {book : Book} {calls : List Call} {a : Answer} → ClosedAfter book calls a → any.ClosedAfter others64 keeping book calls a
closes-after (closed_after start run step long whole_report) = any.closed_after (start-stands start) run step long whole_report

reach-rule-is : (rate b T : ℕ) → IsReach rate b T ↔ ((2 * T + b < 64 - (rate + 5) - 6) × ((n : ℕ) → 2 * n + b < 64 - (rate + 5) - 6 → n ≤ T))
reach-rule-is rate b T =
    subst (λ M. IsReach rate b T ↔ ((2 * T + b < 64 - M - 6) × ((n : ℕ) → 2 * n + b < 64 - M - 6 → n ≤ T))) (m-is rate) (t-is rate b T)

pub whole : Demand3
whole =
    record {
      opening_accepts = λ known fit opened. general.opening_accepts (rate_known known) fit opened;
      rates = λ rate. (λ r. (r.least, r.most), λ h. record { least = h.0; most = h.1 });
      lists = λ list. (
        λ d. (d.short, λ i l. omega (arith, d.in_range i l), d.rises),
        λ d. record { short = d.0; in_range = λ i l. omega (arith, d.1 i l); rises = d.2 },
      );
      answered = λ start run. general.answered (start-stands start) run;
      left = λ start run. general.left (start-stands start) run;
      one_left = λ start run other. general.one_left (start-stands start) run other;
      some_run = λ start fit. general.some_run (start-stands start) fit;
      early = λ c. general.early (closes-after c);
      too-blank = λ c. general.too-blank (closes-after c);
      blank_rule = λ known. rate-blanks known;
      reach_rule = λ rate b T. reach-rule-is rate b T;
      limits = (
        (rate-blanks rate-39).0,
        (rate-blanks rate-49).0,
        rate-reaches.0,
        rate-reaches.1,
        (rate-blanks rate-39).1,
        (rate-blanks rate-49).1,
      );
      blank_closing = general.blank_closing;
      some_reach = λ c full n. general.some_reach (closes-after c) full n;
      none-near = λ c full reach. general.none-near (closes-after c) full reach;
      otherwise = λ c full reach n. general.otherwise (closes-after c) full reach n;
      captures = λ opened n. capture-starts opened n;
      only_changes = general.only_changes;
      takes_out = general.takes_out;
      refused_kept = general.refused_kept;
      alike = λ x y same. agreeing.alike x y same;
      one_held = λ x y same. agreeing.held_one x y same;
      one_start = λ x y. general.one_start (start-stands x) (start-stands y);
      in_order = λ start run step n. run-writes start run step n;
      unchanged = λ opened n step long. capture-written opened n step long;
      written_back = λ bytes opened n step long p. capture-back bytes opened n step long p;
      undone = λ start before p column n spares run without. general.undone (start-stands start) before p column n spares run without;
    }
