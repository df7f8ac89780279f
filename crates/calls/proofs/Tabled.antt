-- Demand 2's last sentence, of calls: 'Table decoding … answers as a session opened with them does', with the doubtful places that it picks by doubt or by
-- threshold. Of every modem.
--
--   picked-accepted      opening with the places picked accepts
--   table-as-run         after every list of calls from there that leaves the table's columns in the row, in whatever order and with whatever else called
--                        in between, closing answers as table decoding does: number, message and report
--   brings-unwithdrawn   of calls that withdraw nothing: each place is delivered, and no delivery of one of them has another column
--   brought-since        a place holds the one column that was delivered since it was last withdrawn, whatever came before, in between and after
--   brings-holds         such calls leave the table's columns in the row
--   table-as-calls       so closing after them answers as table decoding does
--   picked-below-accepted, below-as-run, below-as-calls   the same three of table decoding by a threshold, with the places that the threshold picks
use Rattle.std.specs.Prelude.{Bool, ◌≡◌, ◌⊎◌, length}
use Rattle.std.proofs.Math.Bool.{true, false, cond}
use Rattle.std.proofs.Math.Path.{refl, sym, ap, ap₂}
use Rattle.std.proofs.Common.{◌∙◌, subst, arith, eqb-true, eq-eqb}
use mathlib.Core.List.Memᴰ
use mathlib.Core.List.{List, [], ◌∷◌, Memᴰ}
use Rattle.std.proofs.Math.Logic.{inl, inr, ⊎_elim}
use Rattle.std.proofs.Math.Option.{Option, none, some, none-ne-some}
use Prim.Native.Nat.{ℕ, ◌<◌, ◌≤◌}
use Rattle.std.proofs.Math.Decide.{ℕ_discrete}
use Rattle.std.proofs.Math.Dec.{eqb}
use Rattle.refusals.specs.Refusal.{accepted}
use Rattle.book.specs.Machine.{after_by, fit_cons}
use Rattle.book.proofs.Machine.{carried, after-append}
use Rattle.book.specs.Model.{Model, places}
use Rattle.book.specs.Book.{Book, new_book, column_in, present, taken, Outcome}
use Rattle.book.specs.rows.Delivery.{with_entry}
use Rattle.book.specs.rows.Withdrawal.{without_place, withdraw_of}
use Rattle.book.proofs.rows.WithdrawalLaws.{freed-here, freed-other, withdraw-free, withdraw-accepted}
use Rattle.book.specs.Columns.{column-free, none_free, Agree}
use Rattle.book.specs.rows.RowLaws.{none_above, column-append, deliver-accepted}
use Rattle.book.specs.opening.Opening.{open_of}
use Rattle.book.specs.opening.OpeningLaws.{Known, fits-list}
use Rattle.book.specs.closing.Closing.{close_of}
use Rattle.book.specs.calls.Calls.{Answer, Call, deliver, closing, withdraw, Others, answer, after, after_all}
use Rattle.book.specs.calls.CallLaws.{Changes}
use Rattle.book.proofs.calls.CallLaws.{only_changes, rate-held, list_held}
use Rattle.book.specs.calls.Undone.{Spares}
use Rattle.book.proofs.sentences.Sentences.{closing-alike}
use Rattle.book.specs.tables.Table.{table_length, table_columns, picked_of, table_of, Delivered}
use Rattle.book.proofs.tables.Table.{picked_fit, table-as-session}
use Rattle.book.specs.tables.Below.{picked_below, table_below_of, doubt_for}
use Rattle.book.proofs.tables.Below.{doubt-for-most, below-picked, below-as-table}
use Rattle.calls.specs.Keeping.{Keeping, book_of, Good, good-proper}
use Rattle.calls.specs.Promises.{Opening}
use Rattle.calls.specs.Step.{Step}
use Rattle.calls.specs.Runs.{Run}
use Rattle.calls.specs.Follows.{closed_by, Follows}
use Rattle.calls.proofs.Follows.{opening-accepted, opening-stands, stands-follows, new-rate, new-list}
use Rattle.calls.specs.Tabled.{HoldsTable, Since, never, last, BringsTable}

book-path : {book : Book} {rate : ℕ} {list : List ℕ} → book.rate ≡ rate → book.doubtful ≡ list
    → book ≡ record { rate = rate; doubtful = list; row = book.row }
book-path {book} e f = λ i. record { rate = e i; doubtful = f i; row = book.row }

entry-column : (book : Book) (q : ℕ) (column : List ℕ) (p : ℕ)
    → column_in (with_entry book q column).row p ≡ cond (taken book.row p) (column_in book.row p) (cond (eqb q p) (some column) none)
unfolding with_entry column_in
entry-column book q column p = column-append book.row (record { place = q; column = column } ∷ []) p

module _ (𝓓 : Model) {X : Type 0} where
  pub brings-unwithdrawn : {table : List ℕ} {calls : List (Call X)} → ((p : ℕ) → p < places 𝓓 → Spares p calls)
      → ((p : ℕ) → p < places 𝓓 → (column : List ℕ) × Memᴰ (deliver p column) calls)
      → ((p : ℕ) (column : List ℕ) → p < places 𝓓 → Memᴰ (deliver p column) calls → column ≡ table_columns 𝓓 table p) → BringsTable 𝓓 table calls
  brings-unwithdrawn {calls = calls} spares every_place columns =
      record { rest = λ p. calls; since = λ p h. never (spares p h); every_place = every_place; columns = columns }

module _ {𝓓 : Model} {X : Type 0} (others : Others 𝓓 X) where
  -- a call leaves the column of a place as it was, or it is the delivery of the first one, or it withdraws the place
  data After (p : ℕ) (book : Book) (call : Call X) : Type 0 where
    same : column_in (after others book call).row p ≡ column_in book.row p → After p book call
    first : {c : List ℕ} → deliver p c ≡ call → column_in book.row p ≡ none → column_in (after others book call).row p ≡ some c → After p book call
    out : call ≡ withdraw p → After p book call

  column-after : (p : ℕ) (book : Book) (call : Call X) → After p book call
  unfolding taken without_place
  column-after p book call = go (only_changes others book call)
    where
      go : Changes others book call → After p book call
      go (inl e) = same (ap (λ (b : Book). column_in b.row p) e)
      go (inr (inr (q, f, n, w))) = pick (ℕ_discrete p q)
        where
          pick : Dec (p ≡ q) → After p book call
          pick (yes e) = out (f ∙ ap withdraw (sym e))
          pick (no e) = same (ap (λ (b : Book). column_in b.row p) w ∙ freed-other book.row q p e)
      go (inr (inl (q, c, f, n, w))) =
          pick (column_in book.row p) refl (eqb q p) refl (ap (λ (b : Book). column_in b.row p) w ∙ entry-column book q c p)
        where
          pick : (o : Option (List ℕ)) → column_in book.row p ≡ o → (b : Bool) → eqb q p ≡ b
              → column_in (after others book call).row p ≡ cond (present o) o (cond b (some c) none) → After p book call
          pick (some x) e b t g = same (g ∙ sym e)
          pick none e true t g = first (ap (λ x. deliver x c) (sym (eqb-true q p t)) ∙ sym f) e g
          pick none e false t g = same (g ∙ sym e)

  -- a place that has no column gets the one that is delivered
  column-got : (p : ℕ) → p < places 𝓓 → (book : Book) (column : List ℕ) → column_in book.row p ≡ none
      → column_in (after others book (deliver p column)).row p ≡ some column
  unfolding after
  column-got p h book column e =
      ap (λ (o : Outcome). column_in o.book.row p) (deliver-accepted 𝓓 book p column h (none_free book.row p e))
      ∙ entry-column book p column p
      ∙ ap₂ (λ x y. cond x (column_in book.row p) (cond y (some column) none)) (none_free book.row p e) (eq-eqb p p refl)

  -- a place that is withdrawn has none
  column-lost : (p : ℕ) → p < places 𝓓 → (book : Book) → column_in (after others book (withdraw p)).row p ≡ none
  unfolding after without_place
  column-lost p h book = go (taken book.row p) refl
    where
      go : (b : Bool) → taken book.row p ≡ b → column_in (withdraw_of 𝓓 book p).book.row p ≡ none
      go true t = ap (λ (o : Outcome). column_in o.book.row p) (withdraw-accepted 𝓓 book p h t) ∙ freed-here book.row p
      go false t = ap (λ (o : Outcome). column_in o.book.row p) (withdraw-free 𝓓 book p h t) ∙ column-free book.row p t

  module _ (p : ℕ) (h : p < places 𝓓) (wanted : List ℕ) where
    -- no call to come withdraws the place or delivers another column, and the one wanted is there or is still to be delivered
    Coming : Book → List (Call X) → Type 0
    Coming book calls =
        Spares p calls × ((column : List ℕ) → Memᴰ (deliver p column) calls → column ≡ wanted)
        × ((column_in book.row p ≡ some wanted) ⊎ ((column_in book.row p ≡ none) × (column : List ℕ) × Memᴰ (deliver p column) calls))

    turn : (book : Book) (call : Call X) (calls : List (Call X)) → Coming book (call ∷ calls) → Coming (after others book call) calls
    unfolding Coming
    turn book call calls (fit_cons spare spares, only, had) = (spares, λ c l. only c (Memᴰ.tail l), go had (column-after p book call))
      where
        go : (column_in book.row p ≡ some wanted) ⊎ ((column_in book.row p ≡ none) × (c : List ℕ) × Memᴰ (deliver p c) (call ∷ calls))
            → After p book call
            → (column_in (after others book call).row p ≡ some wanted)
            ⊎ ((column_in (after others book call).row p ≡ none) × (c : List ℕ) × Memᴰ (deliver p c) calls)
        go had (first {c = c} q n g) = inl (g ∙ ap some (only c (Memᴰ.head q)))
        go had (out e) = absurd (spare e)
        go (inl e) (same s) = inl (s ∙ e)
        go (inr (e, column, m)) (same s) =
            inr (
              s ∙ e,
              column,
              ⊎_elim
                  (λ (q : deliver p column ≡ call).
                  absurd (none-ne-some column (sym (s ∙ e) ∙ ap (λ x. column_in (after others book x).row p) (sym q) ∙ column-got p h book column e)))
                  (λ l. l) (Memᴰ.cases_cons m),
            )

    brought : (book : Book) (calls : List (Call X)) → Coming book calls → column_in (after_all others book calls).row p ≡ some wanted
    unfolding Coming
    brought book calls c = ⊎_elim (λ e. e) (λ r. absurd (Memᴰ.not-nil r.2)) (carried (after others) Coming turn book calls c).2

    -- from a book without the place, by the calls since it was last withdrawn
    pub brought-since : {calls rest : List (Call X)} → Since p calls rest → ((column : List ℕ) → Memᴰ (deliver p column) rest → column ≡ wanted)
        → (column : List ℕ) → Memᴰ (deliver p column) rest → (book : Book) → column_in book.row p ≡ none
        → column_in (after_all others book calls).row p ≡ some wanted
    unfolding Coming after_by
    brought-since (never {calls = calls} spares) only column m book e = brought book calls (spares, only, inr (e, column, m))
    brought-since (last earlier {rest = rest} spares) only column m book e =
        ap (λ (b : Book). column_in b.row p) (after-append (after others) book earlier (withdraw p ∷ rest))
        ∙ brought (after others (after_all others book earlier) (withdraw p)) rest (spares, only, inr (column-lost p h (after_all others book earlier), column, m))

  pub brings-holds : {table : List ℕ} {calls : List (Call X)} → BringsTable 𝓓 table calls → (rate : ℕ) (list : List ℕ)
      → HoldsTable 𝓓 table (after_all others (new_book rate list) calls).row
  brings-holds {table} {calls} brings rate list p h =
      let e = brings.every_place p h in
      brought-since p h (table_columns 𝓓 table p) (brings.since p h) (λ column m. brings.columns p column h m) e.0 e.1 (new_book rate list) empty
    where
      empty : column_in (new_book rate list).row p ≡ none
      empty = unfold new_book column_in in refl

module _ {𝓓 : Model} {X S : Type 0} (others : Others 𝓓 X) (K : Keeping S) where
  open 𝓓 use {most_doubt}

  -- ---- the claim

  module _ {rate : ℕ} (known : Known 𝓓 rate) (table : List ℕ) (whole : length table ≡ table_length 𝓓) (doubt : ℕ) (few : doubt ≤ most_doubt) {n : ℕ} {s : S}
      (opened : Opening 𝓓 K (open_of 𝓓 rate (picked_of 𝓓 table doubt)) n s) where
    pub picked-accepted : n ≡ accepted
    picked-accepted = opening-accepted 𝓓 K known (fits-list 𝓓 (picked_of 𝓓 table doubt) (picked_fit 𝓓 table doubt few)) opened

    pub table-as-run : {calls : List (Call X)} {given : List Answer} {t : S} → Run others K s calls given t
        → HoldsTable 𝓓 table (after_all others (new_book rate (picked_of 𝓓 table doubt)) calls).row
        → {message report : List ℕ} {a : Answer} {u : S} → Step others K t (closing message report) a u
        → closed_by a ≡ table_of 𝓓 rate table doubt message report
    unfolding answer
    table-as-run {calls} {given} {t} run holds {message} {report} step =
        let list : List ℕ = picked_of 𝓓 table doubt in
        let fit = fits-list 𝓓 list (picked_fit 𝓓 table doubt few) in
        let follows : Follows others K s (new_book rate list) = stands-follows 𝓓 K others (opening-stands 𝓓 K known fit opened) in
        let good : Good 𝓓 K t = (follows.left run).0 in
        let book : Book = after_all others (new_book rate list) calls in
        let agree : Agree (book_of 𝓓 K t) book = (follows.left run).1 in
        let same : book ≡ record { rate = rate; doubtful = list; row = book.row } =
        book-path (rate-held others (new_book rate list) calls ∙ new-rate rate list) (list_held others (new_book rate list) calls ∙ new-list rate list) in
        let all : Delivered 𝓓 table book.row =
        record {
          there = holds;
          nothing_else = λ p h. sym (agree.same_columns p) ∙ none_above 𝓓 (book_of 𝓓 K t) (good-proper 𝓓 K t good) p h;
        } in
        ap closed_by (step.answered good) ∙ closing-alike 𝓓 agree message report ∙ ap (λ (b : Book). close_of 𝓓 b message report) same
        ∙ sym (table-as-session 𝓓 rate table doubt known whole few book.row all message report)

    pub table-as-calls : {calls : List (Call X)} {given : List Answer} {t : S} → Run others K s calls given t → BringsTable 𝓓 table calls
        → {message report : List ℕ} {a : Answer} {u : S} → Step others K t (closing message report) a u
        → closed_by a ≡ table_of 𝓓 rate table doubt message report
    table-as-calls run brings step = table-as-run run (brings-holds others brings rate (picked_of 𝓓 table doubt)) step

  -- ---- the same by a threshold: with the doubt that is counted the places picked are the same, and so is the answer

  module _ {rate : ℕ} (known : Known 𝓓 rate) (table : List ℕ) (whole : length table ≡ table_length 𝓓) (t m : ℕ) (few : m ≤ most_doubt) {n : ℕ} {s : S}
      (opened : Opening 𝓓 K (open_of 𝓓 rate (picked_below 𝓓 table t m)) n s) where
    abbrev counted : ℕ
    counted = doubt_for 𝓓 table t m

    counted-few : counted ≤ most_doubt
    counted-few = omega (arith, doubt-for-most 𝓓 table t m)

    counted-opened : Opening 𝓓 K (open_of 𝓓 rate (picked_of 𝓓 table counted)) n s
    counted-opened = subst (λ (list : List ℕ). Opening 𝓓 K (open_of 𝓓 rate list) n s) (below-picked 𝓓 table t m) opened

    pub picked-below-accepted : n ≡ accepted
    picked-below-accepted = picked-accepted known table whole counted counted-few counted-opened

    module _ (room : 1 ≤ m) where
      pub below-as-run : {calls : List (Call X)} {given : List Answer} {v : S} → Run others K s calls given v
          → HoldsTable 𝓓 table (after_all others (new_book rate (picked_below 𝓓 table t m)) calls).row
          → {message report : List ℕ} {a : Answer} {u : S} → Step others K v (closing message report) a u
          → closed_by a ≡ table_below_of 𝓓 rate table t m message report
      below-as-run {calls} run holds {message} {report} step =
          table-as-run known table whole counted counted-few counted-opened run
          (subst (λ (list : List ℕ). HoldsTable 𝓓 table (after_all others (new_book rate list) calls).row) (below-picked 𝓓 table t m) holds) step
          ∙ sym (below-as-table 𝓓 table t m room few rate message report)

      pub below-as-calls : {calls : List (Call X)} {given : List Answer} {v : S} → Run others K s calls given v → BringsTable 𝓓 table calls
          → {message report : List ℕ} {a : Answer} {u : S} → Step others K v (closing message report) a u
          → closed_by a ≡ table_below_of 𝓓 rate table t m message report
      below-as-calls run brings step = below-as-run run (brings-holds others brings rate (picked_below 𝓓 table t m)) step
