-- Demand 3, whole, of every modem: 'No sequence of calls can lose, add or change an answer.'
--
--   ClosedAfter book calls a   closing after those calls, into buffers of the right sizes, is given the answer a; the calls are made on a session that
--                        stands for that book
--   Demand3 others K     the claim, sentence by sentence, of a modem, its other calls, and sessions that keep the fields in whatever struct
--
-- It speaks of runs, whose steps are what the calls promise (Promises, Step), and of sessions that stand for a book, as those do that an accepted opening
-- returned. T is that of the closing (ReachAfter): by the rate and the places that are blank in the columns held then, the largest number with
-- 2T + b < n − M − g. A modem of the family is given by its numbers alone (`book` Model): an instance brings these.
use Rattle.std.specs.Prelude.{◌≡◌, ◌↔◌, ◌≢◌, ◌⊎◌, ℕ, suc, ◌<◌, ◌≤◌, length, get_or}
use mathlib.Core.List.{List, [], ◌∷◌, ◌++◌}
use Rattle.refusals.specs.Refusal.{accepted, place_missing, none_near, too_blank}
use Rattle.near.specs.Near.{blank_limit, reach_of}
use Rattle.near.specs.Reach.{Reach}
use Rattle.book.specs.Model.{Model, places}
use Rattle.book.specs.Book.{Book, new_book}
use Rattle.book.specs.Columns.{Agree}
use Rattle.book.specs.Entries.{Missing}
use Rattle.book.specs.opening.Opening.{open_of}
use Rattle.book.specs.opening.OpeningLaws.{Known, DoubtfulList}
use Rattle.book.specs.rows.Delivery.{with_entry}
use Rattle.book.specs.rows.Withdrawal.{without_place}
use Rattle.book.specs.closing.Closing.{report_length}
use Rattle.book.specs.sentences.Sentences.{IsNear, IsAnswer}
use Rattle.book.specs.calls.Calls.{Answer, Call, deliver, withdraw, closing, Others, first_lent, second_lent, answer, after, answers, after_all}
use Rattle.book.specs.calls.CallLaws.{AllFit}
use Rattle.book.specs.calls.Undone.{Spares, accepted_of}
use Rattle.calls.specs.Held.{new_held}
use Rattle.calls.specs.Keeping.{Keeping, book_of, Good}
use Rattle.calls.specs.Promises.{Opening}
use Rattle.calls.specs.Step.{Step}
use Rattle.calls.specs.Runs.{Run}
use Rattle.calls.specs.Follows.{closed_by, blanks_after, ReachAfter, Stands}
use Rattle.calls.specs.Alike.{Reached, SameHeld, Alike}

module _ {𝓓 : Model} {X S : Type 0} (others : Others 𝓓 X) (K : Keeping S) where
  open 𝓓 use {member, most_doubt, first}

  pub data ClosedAfter (book : Book) (calls : List (Call X)) (a : Answer) : Type 0 where
    closed_after : {s t u : S} {given : List Answer} {message report : List ℕ} → Stands 𝓓 K book s → Run others K s calls given t
        → Step others K t (closing message report) a u → length message ≡ book.rate → length report ≡ report_length 𝓓 → ClosedAfter book calls a

  pub record Demand3 : Type 0 where
    -- 'For every rate and every strictly rising list of up to … doubtful places, none above …, opening accepts;'
    pub opening_accepts : {rate : ℕ} {list : List ℕ} {n : ℕ} {t : S} → Known 𝓓 rate → DoubtfulList 𝓓 list → Opening 𝓓 K (open_of 𝓓 rate list) n t
        → n ≡ accepted
    -- and the session so opened stands for a new book of that rate and list
    pub opened : {rate : ℕ} {list : List ℕ} {n : ℕ} {t : S} → Known 𝓓 rate → DoubtfulList 𝓓 list → Opening 𝓓 K (open_of 𝓓 rate list) n t
        → Stands 𝓓 K (new_book rate list) t
    -- 'A refused opening … hands back a new session' of the modem's first rate 'with an empty doubtful list'
    pub refused-opening : (rate : ℕ) (list : List ℕ) {n : ℕ} {t : S} → Opening 𝓓 K (open_of 𝓓 rate list) n t → n ≢ accepted
        → t ≡ K.made (new_held 𝓓 first [])
    -- a doubtful list in these words
    pub lists : (list : List ℕ)
        → DoubtfulList 𝓓 list
        ↔ ((length list ≤ most_doubt) × ((i : ℕ) → i < length list → get_or list i 0 < places 𝓓)
        × ((i : ℕ) → suc i < length list → get_or list i 0 < get_or list (suc i) 0))
    -- 'and in every list of' calls 'from the session so opened, refused ones included and in whatever order, each answer and each lent buffer afterwards
    -- are those of document 01's book'
    pub answered : {book : Book} {s t : S} {calls : List (Call X)} {given : List Answer} → Stands 𝓓 K book s → Run others K s calls given t
        → given ≡ answers others book calls
    -- so is the session left: it is good, its book agrees with the book after the calls, and the calls determine it
    pub left : {book : Book} {s t : S} {calls : List (Call X)} {given : List Answer} → Stands 𝓓 K book s → Run others K s calls given t
        → Good 𝓓 K t × Agree (book_of 𝓓 K t) (after_all others book calls)
    pub one_left : {book : Book} {s t u : S} {calls : List (Call X)} {given other : List Answer} → Stands 𝓓 K book s → Run others K s calls given t
        → Run others K s calls other u → t ≡ u
    -- and every list of calls can be made
    pub some_run : {book : Book} {s : S} {calls : List (Call X)} → Stands 𝓓 K book s → AllFit 𝓓 calls
        → (given : List Answer) × (t : S) × Run others K s calls given t
    -- 'Closing after such a list, into buffers of the right sizes, is refused as early exactly when a place is missing.'
    pub early : {book : Book} {calls : List (Call X)} {a : Answer} → ClosedAfter book calls a
        → (a.number ≡ place_missing) ↔ ((p : ℕ) × Missing 𝓓 (after_all others book calls).row p)
    -- document 02: 'there a closing with no place missing but too many blank gives 12', and no other does
    pub too-blank : {book : Book} {calls : List (Call X)} {a : Answer} → ClosedAfter book calls a
        → (a.number ≡ too_blank)
        ↔ (((p : ℕ) → Missing 𝓓 (after_all others book calls).row p → ⊥) × (blank_limit member book.rate < blanks_after others book calls))
    -- up to so many blank places there is a T, and with more there is none
    pub blank_rule : {rate b : ℕ} → Known 𝓓 rate
        → (b ≤ blank_limit member rate → Reach member rate b (reach_of member rate b)) × (blank_limit member rate < b → (T : ℕ) → Reach member rate b T → ⊥)
    -- no call but closing gives 12
    pub blank_closing : (book : Book) (call : Call X) → (answer others book call).number ≡ too_blank
        → (message : List ℕ) × (report : List ℕ) × (call ≡ closing message report)
    -- without that there is a T
    pub some_reach : {book : Book} {calls : List (Call X)} {a : Answer} → ClosedAfter book calls a
        → ((p : ℕ) → Missing 𝓓 (after_all others book calls).row p → ⊥) → a.number ≢ too_blank → (T : ℕ) × ReachAfter others book calls T
    -- 'With none missing it says 'none near' exactly when no codeword differs from some test word in at most' T places; document 02: 'demand 3 is read with
    -- this T and this way of counting'
    pub none-near : {book : Book} {calls : List (Call X)} {a : Answer} → ClosedAfter book calls a
        → ((p : ℕ) → Missing 𝓓 (after_all others book calls).row p → ⊥) → {T : ℕ} → ReachAfter others book calls T
        → (a.number ≡ none_near) ↔ ((m : List ℕ) → IsNear 𝓓 (after_all others book calls) T m → ⊥)
    -- 'otherwise it gives the message of such a codeword, and every other such codeword has a larger total cost, or an equal total and a larger message.'
    pub otherwise : {book : Book} {calls : List (Call X)} {a : Answer} → ClosedAfter book calls a
        → ((p : ℕ) → Missing 𝓓 (after_all others book calls).row p → ⊥) → {T : ℕ} → ReachAfter others book calls T → a.number ≢ none_near
        → IsAnswer 𝓓 (after_all others book calls) T (closed_by a)
    -- document 01: 'Only an accepted delivery changes the book. A refused call leaves its buffers as they were.' Of document 02 an accepted withdrawal does, too
    pub only_changes : (book : Book) (call : Call X)
        → (after others book call ≡ book)
        ⊎ ((p : ℕ) × (column : List ℕ) × (call ≡ deliver p column) × ((answer others book call).number ≡ accepted)
        × (after others book call ≡ with_entry book p column))
        ⊎ ((p : ℕ) × (call ≡ withdraw p) × ((answer others book call).number ≡ accepted) × (after others book call ≡ without_place book p))
    -- document 02: 'an accepted one takes the place and its column out of the book's row'
    pub takes_out : (book : Book) (p : ℕ) → (answer others book (withdraw p)).number ≡ accepted → after others book (withdraw p) ≡ without_place book p
    pub refused_kept : (book : Book) (call : Call X) → (answer others book call).number ≢ accepted
        → ((answer others book call).first ≡ first_lent others call) × ((answer others book call).second ≡ second_lent others call)
    -- 'Two sessions so reached that agree in rate, doubtful list, places taken and the columns held for these' answer 'alike'
    pub alike : {s t : S} → Reached others K s → Reached others K t → SameHeld 𝓓 K s t → Alike others K s t
    -- they are equal, and so are two sessions that stand for one book
    pub one_held : {s t : S} → Reached others K s → Reached others K t → SameHeld 𝓓 K s t → s ≡ t
    pub one_start : {book : Book} {s t : S} → Stands 𝓓 K book s → Stands 𝓓 K book t → s ≡ t
    -- document 02: 'A delivery shall be undone: … the session answers and reads as if that delivery, and every call refused since, had never been made. It need
    -- not be the latest one.' With that delivery, calls that do not withdraw its place and the withdrawal, and with those of the calls alone that were
    -- accepted, the session left is the same
    pub undone : {book : Book} {s t u : S} {calls : List (Call X)} {given other : List Answer} → Stands 𝓓 K book s → (before : List (Call X)) (p : ℕ)
        (column : List ℕ) → (answer others (after_all others book before) (deliver p column)).number ≡ accepted → Spares p calls
        → Run others K s (before ++ (deliver p column ∷ (calls ++ (withdraw p ∷ [])))) given t
        → Run others K s (before ++ accepted_of others (after others (after_all others book before) (deliver p column)) calls) other u → t ≡ u
