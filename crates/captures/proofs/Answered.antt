-- From the contracts of opening, delivery, closing and writing to what the calls on whole captures answer.
use mathlib.Core.Path.{◌≡◌, refl, sym, ap, ◌∙◌, subst}
use mathlib.Core.List.{List, [], ◌∷◌}
use Prim.Native.Nat.{ℕ, suc, ◌+◌, ◌-◌, ◌*◌, ◌<◌, ◌≤◌}
use native.Mathlib.Numerals.{add-one}
use native.Mathlib.Omega.{arith}
use lib.ListN.{length}
use borrow.Author.Tests.{eq-eqb, ne_eqb}
use Rattle.refusals.specs.Refusal.{accepted, wrong_size}
use Rattle.soft.specs.Column.{costs_from, column_of}
use Rattle.book64.specs.Modem64.{modem64}
use Rattle.book.specs.Book.{Entry, Outcome}
use Rattle.book.specs.Columns.{agree-sym}
use Rattle.book.specs.rows.AlikeDelivery.{Agreed, agreed-path, agreed-trans, row-alike}
use Rattle.book64.proofs.captures.WritingLaws.{writing-alike}
use Rattle.book.proofs.sentences.Sentences.{closing-alike}
use Rattle.book.specs.closing.Closing.{refused_closing}
use Rattle.book.specs.tables.Table.{closed, entries_of}
use Rattle.book.specs.tables.Table as Table
use Rattle.book.specs.rows.Delivery as BookDelivery
use Rattle.book64.specs.Here.{places, width, table_length, open_of, deliver_row}
use Rattle.session.specs.declared.Session.{Session}
use Rattle.session.specs.View.{book_of, Good}
use Rattle.session.specs.Calls.{Ending, refused_with, opened_of, Opening, Delivery}
use Rattle.session.specs.Answering.{Closing}
use Rattle.session.specs.Laws.{refused-opens, opens}
use Rattle.capture.specs.Calls.{Writing}
use Rattle.capture.specs.Delivering.{opening-agreed, row-turn, row-stop, row-end}
use Rattle.captures.specs.Calls.{filled, close_opened, write_opened, up_from, table_entries, deliver_table, open_table}

-- ---- closing and writing what was opened

module _ (o : Outcome) (r : Ending) (d : Opening o r) where
  module _ (message report : List ℕ) where
    pub closed-refused : (r.refusal ≡ accepted → ⊥) → closed r.refusal message report ≡ close_opened o message report
    unfolding close_opened refused_closing
    closed-refused n = rw (ne_eqb o.number accepted (λ e. n (d.number ∙ e))) (ap (λ k. closed k message report) d.number)

    pub closed_on : (n : ℕ) (message' report' : List ℕ) → r.refusal ≡ accepted → Closing r.session message report n message' report'
        → closed n message' report' ≡ close_opened o message report
    unfolding close_opened
    closed_on n message' report' e c =
        rw (eq-eqb o.number accepted (sym d.number ∙ e))
        ((λ i. closed (c.number d.good i) (c.message_bytes d.good i) (c.report_bytes d.good i)) ∙ closing-alike modem64 d.book message report)

  module _ (out : List ℕ) where
    pub written-refused : (r.refusal ≡ accepted → ⊥) → filled r.refusal out ≡ write_opened o out
    unfolding write_opened
    written-refused n = rw (ne_eqb o.number accepted (λ e. n (d.number ∙ e))) (ap (λ k. filled k out) d.number)

    pub written_on : (n : ℕ) (after : List ℕ) → r.refusal ≡ accepted → Writing r.session out n after → filled n after ≡ write_opened o out
    unfolding write_opened
    written_on n after e w =
        rw (eq-eqb o.number accepted (sym d.number ∙ e))
        ((λ i. filled (w.number d.good i) (w.bytes d.good i)) ∙ writing-alike d.book out)

-- ---- the loop over the columns

-- the columns of the places from i on
abbrev pub columns_from : (ℕ → List ℕ) → ℕ → List Entry
columns_from columns i = entries_of columns (up_from i (places - i))

column-step : (columns : ℕ → List ℕ) (i : ℕ) → i < places
    → columns_from columns i ≡ record { place = i; column = columns i } ∷ columns_from columns (i + 1)
unfolding entries_of up_from
column-step columns i h =
    let e : places - i ≡ suc (places - (i + 1)) = omega arith in
    ap (λ n. entries_of columns (up_from i n)) e
    ∙ ap (λ k. record { place = i; column = columns i } ∷ entries_of columns (up_from k (places - (i + 1)))) (sym (add-one i))

no-columns-left : (columns : ℕ → List ℕ) (i : ℕ) → entries_of columns (up_from i 0) ≡ []
unfolding entries_of up_from
no-columns-left columns i = refl

module _ (whole : Outcome) (current : Session) (good : Good current) (columns : ℕ → List ℕ) (i : ℕ)
    (same : Agreed whole (deliver_row (book_of current) (columns_from columns i))) where
  module _ (h : i < places) (column : List ℕ) (read : column ≡ columns i) (r : Ending) (d : Delivery current i column r) where
    next : Agreed whole (deliver_row (book_of current) (record { place = i; column = column } ∷ columns_from columns (i + 1)))
    next =
        agreed-trans same
        (agreed-path
        (ap (deliver_row (book_of current))
        (column-step columns i h ∙ ap (λ (l : List ℕ). record { place = i; column = l } ∷ columns_from columns (i + 1)) (sym read))))

    pub turn : r.refusal ≡ accepted → Agreed whole (deliver_row (book_of r.session) (columns_from columns (i + 1)))
    turn n = row-turn whole current good _ _ r next d n

    pub stop : (r.refusal ≡ accepted → ⊥) → Opening whole (refused_with r.refusal)
    stop n = row-stop whole current good _ _ r next d n

  pub finish : places ≤ i → Opening whole (record { refusal = accepted; session = current })
  finish h =
      let n : places - i ≡ 0 = omega arith in
      row-end whole current good
      (agreed-trans same
      (agreed-path
      (ap (λ k. deliver_row (book_of current) (entries_of columns (up_from i k))) n ∙ ap (deliver_row (book_of current)) (no-columns-left columns i))))

-- ---- opening with a table

pub as-book : (rate : ℕ) (list : List ℕ) (o : Ending) → o ≡ opened_of rate list → Opening (open_of rate list) o
as-book rate list o opened = subst (Opening (open_of rate list)) (sym opened) (opens rate list)

module _ (rate : ℕ) (list table : List ℕ) (o : Ending) (opened : o ≡ opened_of rate list) where
  opens_as : Opening (open_of rate list) o
  opens_as = as-book rate list o opened

  pub table-refused : (o.refusal ≡ accepted → ⊥) → Opening (open_table rate list table) (refused_with o.refusal)
  unfolding open_table BookDelivery.on_accepted
  table-refused n =
      let e : o.refusal ≡ (open_of rate list).number = opens_as.number in
      rw (ne_eqb (open_of rate list).number accepted (λ f. n (e ∙ f)), e) (refused-opens (open_of rate list).number)

  module _ (n : o.refusal ≡ accepted) where
    table_on : open_table rate list table ≡ deliver_table (open_of rate list).book table
    unfolding open_table BookDelivery.on_accepted
    table_on = rw (eq-eqb (open_of rate list).number accepted (sym opens_as.number ∙ n))

    pub table-sized : (length table ≡ table_length → ⊥) → Opening (open_table rate list table) (refused_with wrong_size)
    unfolding deliver_table
    table-sized h = rw (table_on, ne_eqb (length table) table_length h) (refused-opens wrong_size)

    pub table-opened : length table ≡ table_length → (costs : List ℕ) → costs ≡ costs_from (places * width) table → (r : Ending)
        → Opening (deliver_row (book_of o.session) (table_entries (column_of width costs))) r → Opening (open_table rate list table) r
    unfolding deliver_table Table.table_columns
    table-opened h costs read r d =
        rw (table_on, eq-eqb (length table) table_length h)
        (opening-agreed (row-alike modem64 (agree-sym opens_as.book) _)
        (subst (λ (l : List ℕ). Opening (deliver_row (book_of o.session) (table_entries (column_of width l))) r) read d))
