-- What follows of making a capture from a table.
--
--   table_book rate list table    the book of that rate and list that got all columns of the table
--   table-opens                  opening with a known rate, a fit list and a whole table gives that book: no delivery is refused
--   table-proper, table-whole    it is proper, and no place is missing
--   make-rate, make-list, make-table, make-size, make-made   the five cases of making, in their order: 1, 4, 2, 2, or the capture of that book
--   make-opens                   the capture made opens as that book with its row in place order
--   make-sorts                   it is in place order: sorted, it stays as it is
--   make-decodes                 it decodes as closing that book answers
--   make-as-table                with the places that table decoding picks for a doubt it decodes as table decoding with that doubt
--   make-as-below                with those that a threshold and a maximum pick, as table decoding by these
use Rattle.std.specs.Prelude.{true, false, ◌≡◌, ◌≢◌, ℕ, ◌≤◌, eqb, length}
use Rattle.std.proofs.Math.Path.{refl}
use Rattle.std.proofs.Common.{sym, ap, ◌∙◌}
use mathlib.Core.List.{List, [], ◌∷◌}
use borrow.Author.Tests.{eq-eqb, ne_eqb}
use Rattle.refusals.specs.Refusal.{accepted, unknown_rate, wrong_size, wrong_doubt}
use Rattle.lists.specs.Distinct.{below, distinct, among, and_both}
use Rattle.soft.specs.ColumnLaws.{column-length}
use Rattle.soft.specs.Doubt.{most_doubt}
use Rattle.code.specs.Encoding.{known_rate}
use Rattle.book64.specs.Modem64.{modem64}
use Rattle.book.specs.Book.{Book}
use Rattle.book.specs.opening.Opening as BookOpening
use Rattle.book.specs.rows.Delivery as BookDelivery
use Rattle.book.specs.rows.RowLaws as BookRows
use Rattle.book.specs.tables.Table as BookTable
use Rattle.book.specs.rows.RowLaws.{open-refused-rate, open-refused-list, open-accepted}
use Rattle.book.specs.tables.Table.{Delivered, entries_of}
use Rattle.book.proofs.tables.Table.{entries-places, order-delivered, order-accepted, delivered-none-missing, picked_fit, table-as-session}
use Rattle.book.proofs.tables.Below.{below-fit, below-as-session}
use Rattle.book64.specs.captures.Capture.{capture_length, capture_of}
use Rattle.book64.specs.captures.CaptureOpening.{open_capture_of}
use Rattle.book64.proofs.captures.RoundTrip.{open-written, write-size, write-accepted}
use Rattle.book64.specs.Here.{places, width, some_missing, fit_doubt, wide, Proper, ordered, close_of, table_length, table_columns, picked_of, picked_below, table_of, table_below_of}
use Rattle.captures.specs.Calls.{filled, write_opened, decode_capture_of, sort_capture_of, up_from, table_entries, deliver_table, open_table, make_capture_of}
use Rattle.captures.specs.Laws.{written-decodes, written-sorts}

-- ---- all places, from 0 on

all_apart : distinct (up_from 0 places) ≡ true
unfolding distinct among up_from
all_apart = refl

all-in-range : below places (up_from 0 places) ≡ true
unfolding below up_from
all-in-range = refl

all-places : length (up_from 0 places) ≡ places
unfolding up_from
all-places = refl

module _ (table : List ℕ) where
  wide-entries : (order : List ℕ) → wide (entries_of (table_columns table) order) ≡ true
  unfolding BookRows.wide entries_of BookTable.table_columns
  wide-entries [] = refl
  wide-entries (p ∷ order) =
      and_both (eqb (length (table_columns table p)) width) (wide (entries_of (table_columns table) order))
      (eq-eqb (length (table_columns table p)) width (column-length width _ p)) (wide-entries order)

  pub table-delivered : Delivered modem64 table (table_entries (table_columns table))
  table-delivered = order-delivered modem64 table (up_from 0 places) all_apart all-in-range all-places

  pub table-whole : some_missing (table_entries (table_columns table)) ≡ false
  table-whole = delivered-none-missing modem64 table (table_entries (table_columns table)) table-delivered

abbrev pub table_book : ℕ → List ℕ → List ℕ → Book
table_book rate list table = record { rate = rate; doubtful = list; row = table_entries (table_columns table) }

-- ---- the cases of making

module _ (rate : ℕ) (list table out : List ℕ) where
  pub make-rate : known_rate rate ≡ false → make_capture_of rate list table out ≡ filled unknown_rate out
  unfolding make_capture_of write_opened open_table BookDelivery.on_accepted BookOpening.refused_opening
  make-rate r = rw (open-refused-rate modem64 rate list r)

  pub make-list : known_rate rate ≡ true → fit_doubt list ≡ false → make_capture_of rate list table out ≡ filled wrong_doubt out
  unfolding make_capture_of write_opened open_table BookDelivery.on_accepted BookOpening.refused_opening
  make-list r f = rw (open-refused-list modem64 rate list r f)

  module _ (r : known_rate rate ≡ true) (f : fit_doubt list ≡ true) where
    pub make-table : length table ≢ table_length → make_capture_of rate list table out ≡ filled wrong_size out
    unfolding make_capture_of write_opened open_table deliver_table BookDelivery.on_accepted BookOpening.refused_opening
    make-table h = rw (open-accepted modem64 rate list r f, ne_eqb (length table) table_length h)

module _ (rate : ℕ) (list table : List ℕ) (r : known_rate rate ≡ true) (f : fit_doubt list ≡ true) (long : length table ≡ table_length) where
  pub table-opens : open_table rate list table ≡ record { number = accepted; book = table_book rate list table }
  unfolding open_table deliver_table BookDelivery.on_accepted
  table-opens =
      rw (open-accepted modem64 rate list r f, eq-eqb (length table) table_length long)
      (order-accepted modem64 table (up_from 0 places) all_apart all-in-range all-places rate list)

  pub table-proper : Proper (table_book rate list table)
  table-proper =
      let at = entries-places (table_columns table) (up_from 0 places) in
      record {
        rate_known = r;
        list_fit = f;
        in_range = ap (below places) at ∙ all-in-range;
        apart = ap distinct at ∙ all_apart;
        all_wide = wide-entries table (up_from 0 places);
      }

  module _ (out : List ℕ) where
    pub make-size : length out ≢ capture_length (length list) → make_capture_of rate list table out ≡ filled wrong_size out
    unfolding make_capture_of write_opened
    make-size h = rw (table-opens) (write-size (table_book rate list table) out h)

    module _ (sized : length out ≡ capture_length (length list)) where
      pub make-made : make_capture_of rate list table out ≡ filled accepted (capture_of (table_book rate list table))
      unfolding make_capture_of write_opened
      make-made = rw (table-opens) (write-accepted (table_book rate list table) out sized (table-whole table))

      made : (make_capture_of rate list table out).bytes ≡ capture_of (table_book rate list table)
      made = ap (λ f. f.bytes) make-made

      pub make-opens : open_capture_of (make_capture_of rate list table out).bytes ≡ record { number = accepted; book = ordered (table_book rate list table) }
      make-opens = ap open_capture_of made ∙ open-written (table_book rate list table) table-proper

      pub make-sorts : (again : List ℕ) → length again ≡ capture_length (length list)
          → sort_capture_of (make_capture_of rate list table out).bytes again ≡ make_capture_of rate list table out
      make-sorts again e =
          ap (λ (l : List ℕ). sort_capture_of l again) made
          ∙ written-sorts (table_book rate list table) table-proper (table-whole table) again e
          ∙ sym make-made

      pub make-decodes : (message report : List ℕ)
          → decode_capture_of (make_capture_of rate list table out).bytes message report ≡ close_of (table_book rate list table) message report
      make-decodes message report =
          ap (λ (l : List ℕ). decode_capture_of l message report) made
          ∙ written-decodes (table_book rate list table) table-proper (table-whole table) message report

-- ---- as table decoding

module _ (rate : ℕ) (table out message report : List ℕ) (r : known_rate rate ≡ true) (long : length table ≡ table_length) where
  pub make-as-table : (doubt : ℕ) → doubt ≤ most_doubt → length out ≡ capture_length (length (picked_of table doubt))
      → decode_capture_of (make_capture_of rate (picked_of table doubt) table out).bytes message report ≡ table_of rate table doubt message report
  make-as-table doubt few sized =
      make-decodes rate (picked_of table doubt) table r (picked_fit modem64 table doubt few) long out sized message report
      ∙ sym (table-as-session modem64 rate table doubt r long few (table_entries (table_columns table)) (table-delivered table) message report)

  pub make-as-below : (t m : ℕ) → 1 ≤ m → m ≤ most_doubt → length out ≡ capture_length (length (picked_below table t m))
      → decode_capture_of (make_capture_of rate (picked_below table t m) table out).bytes message report ≡ table_below_of rate table t m message report
  make-as-below t m some few sized =
      make-decodes rate (picked_below table t m) table r (below-fit modem64 table t m few) long out sized message report
      ∙ sym (below-as-session modem64 table t m some few rate r long message report (table_entries (table_columns table)) (table-delivered table))
