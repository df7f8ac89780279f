-- Bench sheet, R6 and R7, of the book of the modem of 64 places, as document 02 has them.
--
--   r6            a table of zero bytes, at every rate and with any doubt up to 12, is refused with 12: all its columns are blank
--   r7-new        reading of a new session: byte 0 is 1, the rest 0
--   r7            after place 0, not doubtful, with a column that is not blank and whose best symbol is 0: byte 4 is 1, the rest 0
--   r7-blank      with a blank column it is still that of a new session
use Rattle.std.specs.Prelude.{true, false, ◌≡◌, ◌⊎◌, ℕ, zero, suc, ◌<◌, ◌≤◌, length, replicate}
use Rattle.std.proofs.Math.Path.{refl, ap}
use Rattle.std.proofs.Common.{sym, ◌∙◌, inl, inr, eq-or-lt_of_le, arith}
use mathlib.Core.List.Memᴰ
use mathlib.Core.List.{List, [], ◌∷◌}
use Rattle.refusals.specs.Refusal.{accepted, too_blank}
use Rattle.lists.specs.Distinct.{among}
use Rattle.lists.specs.Listed.{listed}
use Rattle.soft.specs.Column.{best_of, is_blank}
use Rattle.soft.specs.Doubt.{most_doubt}
use Rattle.family.specs.Nodes.{Node, node}
use Rattle.interpolant.specs.LeastQ.{reading_of, reading_length}
use Rattle.interpolant.specs.Bench.{one_at, place_zero}
use Rattle.interpolant.proofs.Bench.{reading-new, reading-place-0}
use Rattle.book64.specs.Modem64.{modem64}
use Rattle.book.specs.Book.{Entry, Book, new_book, column_in, present, taken, Outcome}
use Rattle.book.specs.Columns.{none_free, columns-taken}
use Rattle.book.specs.rows.Delivery.{with_entry}
use Rattle.book.specs.rows.RowLaws.{column-one, deliver-accepted}
use Rattle.book.specs.Entries.{absent_none}
use Rattle.book.specs.closing.Closing.{refused_closing}
use Rattle.book64.specs.Rates.{Rate, rate_known, rate-orders}
use Rattle.book.proofs.tables.Table.{zero-table}
use Rattle.book64.specs.readings.Reading.{highest_order, is_settled, settled_at, settled_below, settled_of, read_of}
use Rattle.book64.proofs.readings.ReadingLaws.{settled-nil, settled-yes, settled-no, is-settled, free-unsettled, read-accepted}
use Rattle.book64.proofs.readings.ReadingSentences.{blank-delivered}
use Rattle.book64.specs.Here.{places, report_length, table_length, columns_of, deliver_of, table_of}
use Rattle.book64.specs.numbers.Bench.{read}

-- ---- R6: 'a table of zero bytes'; document 02: 'the all-zero table of R6 is now refused'

pub r6 : {rate : ℕ} → Rate rate → (doubt : ℕ) → doubt ≤ most_doubt → (message report : List ℕ) → length message ≡ rate → length report ≡ report_length
    → table_of rate (replicate table_length 0) doubt message report ≡ refused_closing too_blank message report
r6 rate doubt few message report long whole_report = zero-table modem64 (rate_known rate) doubt few message report long whole_report

-- ---- R7: 'reading of a new session … after place 0, settled, with best symbol 0'; document 02: 'R7's column is one that is not blank'

-- where no place from a on is settled, the settled places are those below a
settled-from : (book : Book) (a n : ℕ) → a ≤ n → ((p : ℕ) → a ≤ p → is_settled book p ≡ false) → settled_below book n ≡ settled_below book a
settled-from book a zero l h = ap (settled_below book) (omega arith)
settled-from book a (suc n) l h = go (eq-or-lt_of_le l) (λ k. settled-from book a n k h)
  where
    go : (a ≡ suc n) ⊎ (a < suc n) → (a ≤ n → settled_below book n ≡ settled_below book a) → settled_below book (suc n) ≡ settled_below book a
    go (inl e) ih = ap (settled_below book) (sym e)
    go (inr k) ih = let m : a ≤ n = omega arith in settled-no book n (h n m) ∙ ih m

-- the reading where these are the settled places
reads : (book : Book) (out : List ℕ) → length out ≡ reading_length → (ns : List Node) → settled_of book ≡ ns
    → read_of book out ≡ read (reading_of (highest_order book) ns)
reads book out long ns e = read-accepted book out long ∙ ap (λ (s : List Node). read (reading_of (highest_order book) s)) e

pub r7-new : (rate : ℕ) (list out : List ℕ) → length out ≡ reading_length → read_of (new_book rate list) out ≡ read (listed reading_length (one_at 0))
unfolding new_book taken column_in settled_of
r7-new rate list out long =
    let book = new_book rate list in
    reads book out long [] (settled-from book 0 places (omega arith) (λ p h. free-unsettled book p refl) ∙ settled-nil book) ∙ ap read (reading-new (highest_order book))

module _ {rate : ℕ} (known : Rate rate) (list : List ℕ) (settled : among 0 list ≡ false) (column out : List ℕ) (long : length out ≡ reading_length) where
  -- place 0 is taken, and no other
  abbrev one : Book
  one = record { rate = rate; doubtful = list; row = record { place = 0; column = column } ∷ [] }

  accepts : deliver_of (new_book rate list) 0 column ≡ record { number = accepted; book = one }
  unfolding new_book with_entry taken column_in
  accepts = deliver-accepted modem64 (new_book rate list) 0 column (omega arith) refl

  one-column : columns_of one.row 0 ≡ column
  one-column = columns-taken modem64 one.row 0 (column-one (record { place = 0; column = column }))

  one-taken : taken one.row 0 ≡ true
  unfolding taken
  one-taken = ap present (column-one (record { place = 0; column = column }))

  others-free : (p : ℕ) → 1 ≤ p → taken one.row p ≡ false
  others-free p h = none_free one.row p (absent_none one.row p (λ e m q. omega (arith, q, ap (λ (x : Entry). x.place) (Memᴰ.eq_of_singleton m))))

  pub r7 : is_blank column ≡ false → best_of column ≡ 0
      → ((deliver_of (new_book rate list) 0 column).number ≡ accepted)
      × (read_of (deliver_of (new_book rate list) 0 column).book out ≡ read (listed reading_length (one_at 4)))
  unfolding settled_of settled_at
  r7 unblank best = (
    ap (λ (o : Outcome). o.number) accepts,
    ap (λ (o : Outcome). read_of o.book out) accepts ∙ reads one out long (place_zero ∷ []) only
        ∙ ap read (reading-place-0 (highest_order one) (omega (arith, rate-orders known))),
  )
    where
      only : settled_of one ≡ place_zero ∷ []
      only =
          settled-from one 1 places (omega arith) (λ p h. free-unsettled one p (others-free p h))
          ∙ settled-yes one 0 (is-settled one 0 one-taken settled (ap is_blank one-column ∙ unblank))
          ∙ ap (λ ns. settled_at one 0 ∷ ns) (settled-nil one)
          ∙ ap (λ c. node 0 (best_of c) ∷ []) one-column ∙ ap (λ s. node 0 s ∷ []) best

pub r7-blank : (rate : ℕ) (list column : List ℕ) → is_blank column ≡ true → (out : List ℕ) → length out ≡ reading_length
    → read_of (deliver_of (new_book rate list) 0 column).book out ≡ read (listed reading_length (one_at 0))
r7-blank rate list column blank out long = blank-delivered (new_book rate list) 0 column blank out ∙ r7-new rate list out long
