-- Demand 3, whole, of the modem of 512 places: 'Demand 3 holds here with lists of deliveries, withdrawals and closings; a refused opening hands back rate 289.'
--
--   Call                 its calls: deliveries, withdrawals and closings, and no others
--   answer, after, answers, after_all   what the book answers to a call and to a list of them, and the book afterwards
--   Step, Run, Start     of sessions that keep the fields in whatever struct: one call, a list of calls, and the sessions that an accepted opening returned
--   ClosedAfter book calls a   closing after those calls, into buffers of the right sizes, is given the answer a; the calls are made on a session that an
--                        accepted opening returned, with that book
--   Demand3 K            the claim, sentence by sentence, with its numbers
--   Shells opens delivers withdraws closes   functions, as the relations that they make between what they are given and what they hand back, that promise what
--                        `calls` Promises says of this modem
--
-- Nothing is asked here of how a session is kept: the fields may stand in a struct, or some of them in an array that is lent (`calls` Keeping).
use Rattle.std.specs.Prelude.{false, ◌≡◌, List, [], ◌∷◌, ◌++◌, ◌↔◌, ◌≢◌, ◌⊎◌, ℕ, suc, ◌+◌, ◌-◌, ◌*◌, ◌<◌, ◌≤◌, length, get_or, replicate}
use Rattle.refusals.specs.Refusal.{accepted, place_missing, none_near, too_blank}
use Rattle.lists.specs.Padded.{padded}
use Rattle.near.specs.Near.{blank_limit}
use Rattle.near.specs.Reach.{Reach}
use Rattle.book.specs.Model.{places, width}
use Rattle.book.specs.Book.{Book, new_book}
use Rattle.book.specs.Columns.{Agree}
use Rattle.book.specs.Entries.{Missing}
use Rattle.book.specs.opening.Opening.{open_of}
use Rattle.book.specs.opening.OpeningLaws.{Known, DoubtfulList}
use Rattle.book.specs.rows.Delivery.{with_entry}
use Rattle.book.specs.rows.Withdrawal.{without_place}
use Rattle.book.specs.closing.Closing.{report_length}
use Rattle.book.specs.sentences.Sentences.{IsNear, IsAnswer}
use Rattle.book.specs.tables.Table.{table_length}
use Rattle.book.specs.calls.Calls as book
use Rattle.book.specs.calls.Calls.{Answer, deliver, withdraw, closing, Others, no_others}
use Rattle.book.specs.calls.CallLaws as laws
use Rattle.book.specs.calls.Undone as undoing
use Rattle.book.specs.calls.Undone.{Spares}
use Rattle.calls.specs.Held.{new_held}
use Rattle.calls.specs.Keeping.{Keeping, book_of, Good}
use Rattle.calls.specs.Promises.{Opening}
use Rattle.calls.specs.Step as any
use Rattle.calls.specs.Runs as runs
use Rattle.calls.specs.Runs.{Made, Promised}
use Rattle.calls.specs.Follows as following
use Rattle.calls.specs.Follows.{closed_by}
use Rattle.calls.specs.Alike.{SameHeld}
use Rattle.member64.specs.Member64.{m64}
use Rattle.modem512.specs.Model.{modem512}

-- ---- its calls, and the book under them

abbrev pub Call : Type 0
Call = book.Call ⊥

abbrev pub others512 : Others modem512 ⊥
others512 = no_others modem512

abbrev pub first_lent : Call → List ℕ
first_lent call = book.first_lent others512 call

abbrev pub second_lent : Call → List ℕ
second_lent call = book.second_lent others512 call

abbrev pub answer : Book → Call → Answer
answer b call = book.answer others512 b call

abbrev pub after : Book → Call → Book
after b call = book.after others512 b call

abbrev pub answers : Book → List Call → List Answer
answers b calls = book.answers others512 b calls

abbrev pub after_all : Book → List Call → Book
after_all b calls = book.after_all others512 b calls

abbrev pub AllFit : List Call → Type 0
AllFit calls = laws.AllFit modem512 calls

abbrev pub accepted_of : Book → List Call → List Call
accepted_of b calls = undoing.accepted_of others512 b calls

abbrev pub blanks_after : Book → List Call → ℕ
blanks_after b calls = following.blanks_after others512 b calls

abbrev pub ReachAfter : Book → List Call → ℕ → Type 0
ReachAfter b calls T = Reach m64 b.rate (blanks_after b calls) T

module _ {S : Type 0} (K : Keeping S) where
  abbrev pub Step : S → Call → Answer → S → Type 0
  Step s call a t = any.Step others512 K s call a t

  abbrev pub Run : S → List Call → List Answer → S → Type 0
  Run s calls given t = runs.Run others512 K s calls given t

  abbrev pub Start : Book → S → Type 0
  Start b s = following.Start modem512 K b s

  pub data ClosedAfter (b : Book) (calls : List Call) (a : Answer) : Type 0 where
    closed_after : {s t u : S} {given : List Answer} {message report : List ℕ} → Start b s → Run s calls given t
        → Step t (closing message report) a u → length message ≡ b.rate → length report ≡ 16 → ClosedAfter b calls a

  pub data Reached (t : S) : Type 0 where
    reached : {b : Book} {s : S} {calls : List Call} {given : List Answer} → Start b s → Run s calls given t → Reached t

  -- ---- the claim

  pub record Demand3 : Type 0 where
    -- '512 places', 'a column has 64 costs', 'a table is 65,536 bytes', the report '16 bytes in all'
    pub sizes : (places modem512 ≡ 512) × (width modem512 ≡ 64) × (table_length modem512 ≡ 65536) × (report_length modem512 ≡ 16)
    -- 'Rates are 289 … and 409'
    pub rates : (rate : ℕ) → Known modem512 rate ↔ ((rate ≡ 289) ⊎ (rate ≡ 409))
    -- 'up to 12 doubtful places', 'places above 511 are refused'
    pub lists : (list : List ℕ)
        → DoubtfulList modem512 list
        ↔ ((length list ≤ 12) × ((i : ℕ) → i < length list → get_or list i 0 ≤ 511)
        × ((i : ℕ) → suc i < length list → get_or list i 0 < get_or list (suc i) 0))
    -- for every such rate and list opening accepts, and the session so opened is one of those of which all of this is said
    pub opening_accepts : (rate : ℕ) {list : List ℕ} {n : ℕ} {t : S} → Known modem512 rate → DoubtfulList modem512 list
        → Opening modem512 K (open_of modem512 rate list) n t → (n ≡ accepted) × Start (new_book rate list) t
    -- 'a refused opening hands back rate 289': a new session with an empty doubtful list
    pub refused-opening : (rate : ℕ) (list : List ℕ) {n : ℕ} {t : S} → Opening modem512 K (open_of modem512 rate list) n t → n ≢ accepted
        → (t ≡ K.made (new_held modem512 289 [])) × ((K.held t).rate ≡ 289) × ((K.held t).doubt ≡ 0)
    -- a new session holds 512 columns of 64 costs of zero, and no place is taken
    pub new-session : (rate : ℕ) (list : List ℕ)
        → ((new_held modem512 rate list).costs ≡ replicate 32768 0) × ((new_held modem512 rate list).taken ≡ replicate 512 false)
        × ((new_held modem512 rate list).doubtful ≡ padded 12 list)
    -- 'lists of deliveries, withdrawals and closings', refused ones included and in whatever order: each answer and each lent buffer afterwards are the
    -- book's
    pub answered : {b : Book} {s t : S} {calls : List Call} {given : List Answer} → Start b s → Run s calls given t → given ≡ answers b calls
    -- so is the session left: it is good, its book agrees with the book after the calls, and the calls determine it
    pub left : {b : Book} {s t : S} {calls : List Call} {given : List Answer} → Start b s → Run s calls given t
        → Good modem512 K t × Agree (book_of modem512 K t) (after_all b calls)
    pub one_left : {b : Book} {s t u : S} {calls : List Call} {given other : List Answer} → Start b s → Run s calls given t → Run s calls other u → t ≡ u
    -- and every list of calls can be made
    pub some_run : {b : Book} {s : S} {calls : List Call} → Start b s → AllFit calls → (given : List Answer) × (t : S) × Run s calls given t
    -- closing after such a list, into buffers of the right sizes, is refused as early exactly when a place is missing
    pub early : {b : Book} {calls : List Call} {a : Answer} → ClosedAfter b calls a
        → (a.number ≡ place_missing) ↔ ((p : ℕ) × Missing modem512 (after_all b calls).row p)
    -- with none missing 12 is given exactly if more places are blank than leave a T, and by no other call
    pub too-blank : {b : Book} {calls : List Call} {a : Answer} → ClosedAfter b calls a
        → (a.number ≡ too_blank) ↔ (((p : ℕ) → Missing modem512 (after_all b calls).row p → ⊥) × (blank_limit m64 b.rate < blanks_after b calls))
    pub blank_closing : (b : Book) (call : Call) → (answer b call).number ≡ too_blank
        → (message : List ℕ) × (report : List ℕ) × (call ≡ closing message report)
    -- '2T + b < 512 − M − 28', M = k + 27
    pub reach_rule : (rate b T : ℕ) → Reach m64 rate b T
        ↔ ((2 * T + b < 512 - (rate + 27) - 28) × ((n : ℕ) → 2 * n + b < 512 - (rate + 27) - 28 → n ≤ T))
    -- 'the blank limits are 47 and 167, the larger at rate 289'; 'T = 83' and 'T = 23' with none blank, and 0 with so many
    pub limits : (blank_limit m64 289 ≡ 167) × (blank_limit m64 409 ≡ 47) × Reach m64 289 0 83 × Reach m64 409 0 23 × Reach m64 289 167 0
        × Reach m64 409 47 0
    -- without 7 and 12 there is a T
    pub some_reach : {b : Book} {calls : List Call} {a : Answer} → ClosedAfter b calls a
        → ((p : ℕ) → Missing modem512 (after_all b calls).row p → ⊥) → a.number ≢ too_blank → (T : ℕ) × ReachAfter b calls T
    -- with it closing says 'none near' exactly when no codeword differs from some test word in at most T places
    pub none-near : {b : Book} {calls : List Call} {a : Answer} → ClosedAfter b calls a
        → ((p : ℕ) → Missing modem512 (after_all b calls).row p → ⊥) → {T : ℕ} → ReachAfter b calls T
        → (a.number ≡ none_near) ↔ ((m : List ℕ) → IsNear modem512 (after_all b calls) T m → ⊥)
    -- otherwise it gives the message of such a codeword, and every other such codeword has a larger total cost, or an equal total and a larger message
    pub otherwise : {b : Book} {calls : List Call} {a : Answer} → ClosedAfter b calls a
        → ((p : ℕ) → Missing modem512 (after_all b calls).row p → ⊥) → {T : ℕ} → ReachAfter b calls T → a.number ≢ none_near
        → IsAnswer modem512 (after_all b calls) T (closed_by a)
    -- only an accepted delivery and an accepted withdrawal change the book, and a refused call leaves its buffers as they were
    pub only_changes : (b : Book) (call : Call)
        → (after b call ≡ b)
        ⊎ ((p : ℕ) × (column : List ℕ) × (call ≡ deliver p column) × ((answer b call).number ≡ accepted) × (after b call ≡ with_entry b p column))
        ⊎ ((p : ℕ) × (call ≡ withdraw p) × ((answer b call).number ≡ accepted) × (after b call ≡ without_place b p))
    pub refused_kept : (b : Book) (call : Call) → (answer b call).number ≢ accepted
        → ((answer b call).first ≡ first_lent call) × ((answer b call).second ≡ second_lent call)
    -- two sessions so reached that agree in rate, doubtful list, places taken and the columns held for these close alike: they are equal
    pub alike : {s t : S} → Reached s → Reached t → SameHeld modem512 K s t → {message report : List ℕ} {a c : Answer} {u v : S}
        → Step s (closing message report) a u → Step t (closing message report) c v → a ≡ c
    pub one_held : {s t : S} → Reached s → Reached t → SameHeld modem512 K s t → s ≡ t
    pub one_start : {b : Book} {s t : S} → Start b s → Start b t → s ≡ t
    -- a delivery is undone by a withdrawal of its place, which need not be the next call
    pub undone : {b : Book} {s t u : S} {calls : List Call} {given other : List Answer} → Start b s → (before : List Call) (p : ℕ)
        (column : List ℕ) → (answer (after_all b before) (deliver p column)).number ≡ accepted → Spares p calls
        → Run s (before ++ (deliver p column ∷ (calls ++ (withdraw p ∷ [])))) given t
        → Run s (before ++ accepted_of (after (after_all b before) (deliver p column)) calls) other u → t ≡ u

  -- ---- from what the functions will promise

  module _ (opens : ℕ → List ℕ → ℕ → S → Type 0) (delivers : S → ℕ → List ℕ → ℕ → S → Type 0) (withdraws : S → ℕ → ℕ → S → Type 0)
      (closes : S → List ℕ → List ℕ → ℕ → List ℕ → List ℕ → Type 0) where
    -- there are no other calls to make
    abbrev pub asks : S → ⊥ → ℕ → List ℕ → Type 0
    asks s x n bytes = ⊥

    abbrev pub MadeBy : S → Call → Answer → S → Type 0
    MadeBy s call a t = Made others512 K delivers withdraws closes asks s call a t

    pub record Shells : Type 0 where
      pub opening : {rate : ℕ} {list : List ℕ} {n : ℕ} {t : S} → opens rate list n t → Opening modem512 K (open_of modem512 rate list) n t
      pub promised : Promised others512 K delivers withdraws closes asks
