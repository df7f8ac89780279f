-- What document 01 says of every call and every list of calls, each a theorem of the book of any modem.
--
--   answer-alike, after-alike   books that agree answer every call alike, and agree after it
--   likeness             so agreeing is a likeness (Machine)
--   answers-alike, after_all-alike   and they answer every list of calls alike, and agree after it
--   refused-lent, refused-after   a refused call leaves its buffers, and the book, as they were
--   lent-sized           no call changes the length of a buffer
--   only_changes         every call leaves the book as it was, or is an accepted delivery or an accepted withdrawal (Changes)
--   none-of-three        two tests choose one of three answers; if none of the three has the number, the one chosen has not
--   only-closing-blank   no call but a closing gives 12
--   withdrawn-after      an accepted withdrawal takes the place and its column out of the row
--   rate-held, list_held a list of calls leaves the rate and the doubtful list as they were given at opening
--   after-costs          the row that such a list of calls leaves has such columns
--   calls-show           so an accepted closing of an opened session after every list of calls shows the numbers of the message that it gives
--   row-calls            delivering a row that is accepted is a list of accepted deliveries
use Rattle.std.specs.Prelude.{Bool, true, false, cond, ◌≡◌, ◌≢◌, ℕ, ◌<◌, eqb, ltb}
use Rattle.std.proofs.Math.Path.{refl, ap}
use Rattle.std.proofs.Common.{sym, ◌∙◌, subst, ⊎_elim, arith}
use mathlib.Core.List.Memᴰ
use mathlib.Core.List.{List, [], ◌∷◌, Memᴰ}
use Rattle.std.proofs.Math.Logic.{inl, inr}
use Rattle.std.proofs.Math.Decide.{dec_lt, ℕ_discrete}
use Rattle.std.proofs.Math.ListN.{length}
use Rattle.std.proofs.lemmas.Bool.{eqb-false}
use Rattle.refusals.specs.Refusal.{accepted, too_blank}
use Rattle.book.specs.Model.{Model, places}
use Rattle.book.specs.Book.{Entry, Book, new_book, taken, Outcome, Filled}
use Rattle.book.specs.Columns.{Agree, agree_refl, agree-sym, agree_trans}
use Rattle.book.specs.opening.Opening as Opening
use Rattle.book.specs.opening.OpeningLaws.{DoubtfulList}
use Rattle.book.specs.rows.Delivery.{with_entry, deliver_of, deliver_row}
use Rattle.book.specs.rows.AlikeDelivery.{deliver-alike}
use Rattle.book.specs.rows.RowDelivery.{row-above, row-taken, row_next, row-none}
use Rattle.book.specs.closing.Closing.{Closed, close_of}
use Rattle.book.proofs.closing.ClosingLaws.{close-kept, close-sized}
use Rattle.book.specs.rows.RowLaws.{deliver-accepted, deliver-only, Proper}
use Rattle.book.specs.rows.Withdrawal.{without_place, withdraw_of}
use Rattle.book.proofs.rows.WithdrawalLaws.{withdraw-alike, withdraw-accepted, withdraw-only, withdraw-kept, withdraw-held, withdraw-costs}
use Rattle.book.proofs.sentences.Sentences.{deliver-kept, deliver-held, closing-alike}
use Rattle.book.specs.rows.Costs.{RowColumns, new-costs, deliver-costs}
use Rattle.book.specs.closing.Report.{ReportedIn}
use Rattle.book.proofs.closing.Report.{closing-shows}
use Rattle.book.specs.Machine.{answers_by, after_by, fit_nil, fit_cons, Likeness}
use Rattle.book.proofs.Machine.{part_held, answers-same, after_same}
use Rattle.book.specs.calls.Calls.{Answer, Call, deliver, withdraw, closing, other, Others, first_lent, second_lent, answer, after, answers, after_all}
use Rattle.book.specs.calls.CallLaws.{AllFit, deliveries, Changes}

pub none-of-three : {A : Type 0} (number : A → ℕ) (n : ℕ) (a b : Bool) (x y z : A) → number (cond a (cond b x y) z) ≡ n
    → eqb (number x) n ≡ false → eqb (number y) n ≡ false → eqb (number z) n ≡ false → ⊥
none-of-three number n true true x y z e f g h = eqb-false (number x) n f e
none-of-three number n true false x y z e f g h = eqb-false (number y) n g e
none-of-three number n false b x y z e f g h = eqb-false (number z) n h e

module _ {𝓓 : Model} {X : Type 0} (others : Others 𝓓 X) where
  -- ---- books that agree

  module _ {a b : Book} (same : Agree a b) where
    pub answer-alike : (call : Call X) → answer others a call ≡ answer others b call
    unfolding answer
    answer-alike (deliver p column) =
        ap (λ n. record { number = n; first = []; second = [] }) (deliver-alike 𝓓 same p column).same_number
    answer-alike (withdraw p) = ap (λ n. record { number = n; first = []; second = [] }) (withdraw-alike 𝓓 same p).same_number
    answer-alike (closing message report) =
        ap (λ (c : Closed). record { number = c.number; first = c.message; second = c.report }) (closing-alike 𝓓 same message report)
    answer-alike (other x) = ap (λ (f : Filled). record { number = f.number; first = f.bytes; second = [] }) (others.asked_alike same x)

    pub after-alike : (call : Call X) → Agree (after others a call) (after others b call)
    unfolding after
    after-alike (deliver p column) = (deliver-alike 𝓓 same p column).same_book
    after-alike (withdraw p) = (withdraw-alike 𝓓 same p).same_book
    after-alike (closing message report) = same
    after-alike (other x) = same

  pub likeness : Likeness Agree (answer others) (after others)
  likeness =
      record {
        same_refl = agree_refl;
        same_sym = λ x. agree-sym x;
        same_trans = λ x y. agree_trans x y;
        same_answer = λ x call. answer-alike x call;
        same_after = λ x call. after-alike x call;
      }

  pub answers-alike : {a b : Book} → Agree a b → (calls : List (Call X)) → answers others a calls ≡ answers others b calls
  answers-alike same calls = answers-same likeness same calls

  pub after_all-alike : {a b : Book} → Agree a b → (calls : List (Call X)) → Agree (after_all others a calls) (after_all others b calls)
  after_all-alike same calls = after_same likeness same calls

  -- ---- 'Only an accepted delivery changes the book.' Of withdrawals: 'an accepted one takes the place and its column out of the book's row'. 'A refused
  -- call leaves its buffers as they were.'

  module _ (book : Book) where
    pub refused-lent : (call : Call X) → (answer others book call).number ≢ accepted
        → ((answer others book call).first ≡ first_lent others call) × ((answer others book call).second ≡ second_lent others call)
    unfolding answer first_lent second_lent
    refused-lent (deliver p column) n = (refl, refl)
    refused-lent (withdraw p) n = (refl, refl)
    refused-lent (closing message report) n =
        let k = close-kept 𝓓 book message report n in
        (k.message_kept, k.report_kept)
    refused-lent (other x) n = (others.asked_kept book x n, refl)

    pub lent-sized : (call : Call X) → Proper 𝓓 book
        → (length (answer others book call).first ≡ length (first_lent others call))
        × (length (answer others book call).second ≡ length (second_lent others call))
    unfolding answer first_lent second_lent
    lent-sized (deliver p column) proper = (refl, refl)
    lent-sized (withdraw p) proper = (refl, refl)
    lent-sized (closing message report) proper = let l = close-sized 𝓓 book message report in (l.message_sized, l.report_sized)
    lent-sized (other x) proper = (others.asked_sized book x proper, refl)

    pub refused-after : (call : Call X) → (answer others book call).number ≢ accepted → after others book call ≡ book
    unfolding answer after
    refused-after (deliver p column) n = deliver-kept 𝓓 book p column n
    refused-after (withdraw p) n = withdraw-kept 𝓓 book p n
    refused-after (closing message report) n = refl
    refused-after (other x) n = refl

    pub only_changes : (call : Call X) → Changes others book call
    unfolding answer after
    only_changes (deliver p column) = go (ℕ_discrete (deliver_of 𝓓 book p column).number accepted)
      where
        go : Dec ((deliver_of 𝓓 book p column).number ≡ accepted) → Changes others book (deliver p column)
        go (yes n) =
            let d = deliver-only 𝓓 book p column n in
            inr (inl (p, column, refl, n, ap (λ (o : Outcome). o.book) (deliver-accepted 𝓓 book p column d.0 d.1)))
        go (no n) = inl (deliver-kept 𝓓 book p column n)
    only_changes (withdraw p) = go (ℕ_discrete (withdraw_of 𝓓 book p).number accepted)
      where
        go : Dec ((withdraw_of 𝓓 book p).number ≡ accepted) → Changes others book (withdraw p)
        go (yes n) =
            let d = withdraw-only 𝓓 book p n in
            inr (inr (p, refl, n, ap (λ (o : Outcome). o.book) (withdraw-accepted 𝓓 book p d.0 d.1)))
        go (no n) = inl (withdraw-kept 𝓓 book p n)
    only_changes (closing message report) = inl refl
    only_changes (other x) = inl refl

  -- ---- of 12, document 02: 'there a closing with no place missing but too many blank gives 12'

  pub only-closing-blank : (book : Book) (call : Call X) → (answer others book call).number ≡ too_blank
      → (message : List ℕ) × (report : List ℕ) × (call ≡ closing message report)
  unfolding answer deliver_of withdraw_of
  only-closing-blank book (deliver p column) n =
      absurd (none-of-three (λ (o : Outcome). o.number) too_blank (ltb p (places 𝓓)) (taken book.row p) _ _ _ n refl refl refl)
  only-closing-blank book (withdraw p) n =
      absurd (none-of-three (λ (o : Outcome). o.number) too_blank (ltb p (places 𝓓)) (taken book.row p) _ _ _ n refl refl refl)
  only-closing-blank book (closing message report) n = (message, report, refl)
  only-closing-blank book (other x) n = absurd (others.asked_blank book x n)

  -- ---- of a withdrawal: 'an accepted one takes the place and its column out of the book's row'

  pub withdrawn-after : (book : Book) (p : ℕ) → (answer others book (withdraw p)).number ≡ accepted
      → after others book (withdraw p) ≡ without_place book p
  unfolding answer after
  withdrawn-after book p n =
      let d = withdraw-only 𝓓 book p n in
      ap (λ (o : Outcome). o.book) (withdraw-accepted 𝓓 book p d.0 d.1)

  -- ---- 'It holds the rate and doubtful list given at opening'

  held : (book : Book) (call : Call X) → ((after others book call).rate ≡ book.rate) × ((after others book call).doubtful ≡ book.doubtful)
  unfolding after
  held book (deliver p column) = deliver-held 𝓓 book p column
  held book (withdraw p) = withdraw-held 𝓓 book p
  held book (closing message report) = (refl, refl)
  held book (other x) = (refl, refl)

  pub rate-held : (book : Book) (calls : List (Call X)) → (after_all others book calls).rate ≡ book.rate
  rate-held = part_held (after others) (λ (book : Book). book.rate) (λ book call. (held book call).0)

  pub list_held : (book : Book) (calls : List (Call X)) → (after_all others book calls).doubtful ≡ book.doubtful
  list_held = part_held (after others) (λ (book : Book). book.doubtful) (λ book call. (held book call).1)

  -- ---- the columns of the row

  pub after-costs : (book : Book) {calls : List (Call X)} → AllFit 𝓓 calls → RowColumns 𝓓 book.row
      → RowColumns 𝓓 (after_all others book calls).row
  unfolding after_by after
  after-costs book fit_nil all = all
  after-costs book (fit_cons {call = deliver p column} c fit) all =
      after-costs (deliver_of 𝓓 book p column).book fit (deliver-costs 𝓓 book p column all c)
  after-costs book (fit_cons {call = withdraw p} u fit) all = after-costs (withdraw_of 𝓓 book p).book fit (withdraw-costs 𝓓 book p all)
  after-costs book (fit_cons {call = closing message report} u fit) all = after-costs book fit all
  after-costs book (fit_cons {call = other x} u fit) all = after-costs book fit all

  -- ---- the report

  pub calls-show : (rate : ℕ) {list : List ℕ} → DoubtfulList 𝓓 list → {calls : List (Call X)} → AllFit 𝓓 calls → (message report : List ℕ)
      → (close_of 𝓓 (after_all others (new_book rate list) calls) message report).number ≡ accepted
      → ReportedIn 𝓓 (after_all others (new_book rate list) calls) (close_of 𝓓 (after_all others (new_book rate list) calls) message report)
  unfolding new_book
  calls-show rate {list} d {calls} fit message report n =
      closing-shows 𝓓 (after_all others (new_book rate list) calls) message report (after-costs (new_book rate list) fit (new-costs 𝓓 rate list))
      (omega (arith, ap length (list_held (new_book rate list) calls), d.short)) n

  -- ---- a row of deliveries

  pub row-calls : (book : Book) (entries : List Entry) → (deliver_row 𝓓 book entries).number ≡ accepted
      → ((deliver_row 𝓓 book entries).book ≡ after_all others book (deliveries entries))
      × ((a : Answer) → Memᴰ a (answers others book (deliveries entries)) → a.number ≡ accepted)
  unfolding deliveries answers_by after_by answer after Opening.refused_opening
  row-calls book [] n = (ap (λ (o : Outcome). o.book) (row-none 𝓓 book), λ a m. absurd (Memᴰ.not-nil m))
  row-calls book (e ∷ entries) n =
      go (dec_lt e.place (places 𝓓)) (taken book.row e.place) refl (row-calls (with_entry book e.place e.column) entries)
    where
      first : Outcome
      first = deliver_of 𝓓 book e.place e.column

      Called : Book → Type 0
      Called b =
          ((deliver_row 𝓓 b entries).book ≡ after_all others b (deliveries entries))
          × ((a : Answer) → Memᴰ a (answers others b (deliveries entries)) → a.number ≡ accepted)

      go : Dec (e.place < places 𝓓) → (b : Bool) → taken book.row e.place ≡ b
          → ((deliver_row 𝓓 (with_entry book e.place e.column) entries).number ≡ accepted → Called (with_entry book e.place e.column))
          → ((deliver_row 𝓓 book (e ∷ entries)).book ≡ after_all others first.book (deliveries entries))
          × ((a : Answer) → Memᴰ a (record { number = first.number; first = []; second = [] } ∷ answers others first.book (deliveries entries))
          → a.number ≡ accepted)
      go (yes h) true t ih = absurd (omega (arith, sym (ap (λ (o : Outcome). o.number) (row-taken 𝓓 book e entries h t)) ∙ n))
      go (yes h) false t ih =
          let d : first ≡ record { number = accepted; book = with_entry book e.place e.column } = deliver-accepted 𝓓 book e.place e.column h t in
          let r = ih (sym (ap (λ (o : Outcome). o.number) (row_next 𝓓 book e entries h t)) ∙ n) in (
            ap (λ (o : Outcome). o.book) (row_next 𝓓 book e entries h t) ∙ r.0
                ∙ ap (λ (o : Outcome). after_all others o.book (deliveries entries)) (sym d),
            λ a m.
                ⊎_elim
                (λ (q : a ≡ record { number = first.number; first = []; second = [] }).
                ap (λ (x : Answer). x.number) q ∙ ap (λ (o : Outcome). o.number) d)
                (λ l. r.1 a (subst (λ (o : Outcome). Memᴰ a (answers others o.book (deliveries entries))) d l))
                (Memᴰ.cases_cons m),
          )
      go (no h) b t ih = absurd (omega (arith, sym (ap (λ (o : Outcome). o.number) (row-above 𝓓 book e entries (omega arith))) ∙ n))
