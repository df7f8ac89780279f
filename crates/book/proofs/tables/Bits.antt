-- Decoding from bit values: rate, then sizes, then doubt, then blank places, then nearness, as table decoding has them; and why it answers as table decoding
-- does. Of every modem and any number b of bits a symbol; what speaks of tables asks that the modem has 2 ^ b symbols.
--
--   bits-rate, bits-size, bits-doubt, bits-decoded   the four cases; bits-frame: any other length of the frame is 2, once the rate is known
--   bits-refused           where the checks of rate and sizes refuse, it gives their number
--   bits-blank-only        of the last: it gives 12 exactly where more places are blank than leave a T
--   bits-blank             a place is blank exactly if all its values are zero
--   bits-costs             the frame's columns have a cost for each symbol, 0 to 65535
--   made-length, made-columns   the table that a frame makes has the length of a table, and its columns are the frame's
--   bits-as-table          with a frame of its length decoding from bit values is decoding the table that it makes,
--   bits-delivered         a row with the frame's columns, in whatever order, has those of that table,
--   bits-as-session        so it answers as closing a book does that was opened with the places picked and got all columns
use Rattle.std.specs.Prelude.{true, false, ◌&&◌, ◌≡◌, ◌↔◌, ◌≢◌, ◌⊎◌, leb, length, get_or}
use Rattle.std.proofs.Math.Bool.{cond}
use Rattle.std.proofs.Math.Path.{sym, ap, ap₂, subst}
use Rattle.std.proofs.Common.{◌∙◌, inl, arith}
use mathlib.Core.List.{List}
use Rattle.std.proofs.Math.Option.{none, some}
use Prim.Native.Nat.{ℕ, ◌+◌, ◌*◌, ◌^◌, ◌<◌, ◌≤◌}
use Rattle.std.proofs.Math.Dec.{eqb}
use borrow.Author.Tests.{eq-eqb, le-leb, lt-leb}
use Rattle.refusals.specs.Refusal.{accepted, unknown_rate, wrong_size, wrong_doubt, too_blank}
use Rattle.soft.specs.Column as Soft
use Rattle.soft.specs.Doubt.{doubtful_of}
use Rattle.soft.specs.Blank.{blank_at, blanks_of}
use Rattle.soft.specs.Bits.{values_at, bit_columns}
use Rattle.soft.proofs.BitsLaws.{bit-column-length, bit-column-most, blank-bits, values-at, bit-table-length, costs-bits, columns-bits}
use Rattle.near.specs.Near.{blank_limit}
use Rattle.book.specs.Model.{Model, places, width}
use Rattle.book.specs.Book.{Entry, column_in}
use Rattle.book.specs.closing.Closing.{report_length, Closed, refused_closing, decode_of, close_of}
use Rattle.book.proofs.closing.ClosingLaws.{decode-blank-only}
use Rattle.book.specs.tables.Table.{table_length, table_columns, picked_of, table_fits, checks_of, table_of, Delivered}
use Rattle.book.proofs.tables.Table.{sizes-fit, sizes-unfit, refused-by-checks, book_for, table-as-session}
use Rattle.book.specs.rows.Costs.{AreColumns}
use Rattle.book.specs.tables.Bits.{frame_length, table_made, bits_fit, bits_of}

module _ (𝓓 : Model) (b : ℕ) where
  open 𝓓 use {member, known, most_doubt}

  -- ---- the four cases

  module _ (rate : ℕ) (frame : List ℕ) (doubt : ℕ) (message report : List ℕ) where
    pub bits-rate : known rate ≡ false → bits_of 𝓓 b rate frame doubt message report ≡ refused_closing unknown_rate message report
    unfolding bits_of
    bits-rate e = rw e

    module _ (known : known rate ≡ true) where
      pub bits-size : (length frame ≢ frame_length 𝓓 b) ⊎ ((length message ≢ rate) ⊎ (length report ≢ report_length 𝓓))
          → bits_of 𝓓 b rate frame doubt message report ≡ refused_closing wrong_size message report
      unfolding bits_of bits_fit
      bits-size w = rw (known, sizes-unfit w)

      pub bits-frame : length frame ≢ frame_length 𝓓 b → bits_of 𝓓 b rate frame doubt message report ≡ refused_closing wrong_size message report
      bits-frame n = bits-size (inl n)

      module _ (whole : length frame ≡ frame_length 𝓓 b) (long : length message ≡ rate) (whole_report : length report ≡ report_length 𝓓) where
        fits : bits_fit 𝓓 b rate frame message report ≡ true
        unfolding bits_fit
        fits = sizes-fit whole long whole_report

        pub bits-doubt : most_doubt < doubt → bits_of 𝓓 b rate frame doubt message report ≡ refused_closing wrong_doubt message report
        unfolding bits_of
        bits-doubt h = rw (known, fits, lt-leb doubt most_doubt h)

        pub bits-decoded : doubt ≤ most_doubt
            → bits_of 𝓓 b rate frame doubt message report
            ≡ decode_of 𝓓 rate (bit_columns b frame) (doubtful_of (places 𝓓) doubt (bit_columns b frame)) message report
        unfolding bits_of
        bits-decoded h = rw (known, fits, le-leb doubt most_doubt h)

        pub bits-blank-only : doubt ≤ most_doubt
            → ((bits_of 𝓓 b rate frame doubt message report).number ≡ too_blank) ↔ (blank_limit member rate < blanks_of (places 𝓓) (bit_columns b frame))
        bits-blank-only h =
            subst (λ (c : Closed). (c.number ≡ too_blank) ↔ (blank_limit member rate < blanks_of (places 𝓓) (bit_columns b frame))) (sym (bits-decoded h))
            (decode-blank-only 𝓓 rate (bit_columns b frame) (doubtful_of (places 𝓓) doubt (bit_columns b frame)) message report)

    pub bits-refused : checks_of 𝓓 rate (length frame) (frame_length 𝓓 b) (length message) (length report) ≢ accepted
        → bits_of 𝓓 b rate frame doubt message report
        ≡ refused_closing (checks_of 𝓓 rate (length frame) (frame_length 𝓓 b) (length message) (length report)) message report
    unfolding bits_of bits_fit
    bits-refused n =
        refused-by-checks 𝓓 rate (length frame) (frame_length 𝓓 b) message report
        (cond (leb doubt most_doubt)
        (decode_of 𝓓 rate (bit_columns b frame) (doubtful_of (places 𝓓) doubt (bit_columns b frame)) message report)
        (refused_closing wrong_doubt message report))
        n

  -- ---- the columns

  module _ (frame : List ℕ) where
    pub bits-blank : (p : ℕ) → ((i : ℕ) → i < b → get_or frame (b * p + i) 0 < 256)
        → (blank_at (bit_columns b frame) p ≡ true) ↔ ((i : ℕ) → i < b → get_or frame (b * p + i) 0 ≡ 0)
    unfolding bit_columns
    bits-blank p bytes =
        let e = blank-bits b (values_at b frame p) (λ i l. subst (λ v. v < 256) (sym (values-at b frame p i l)) (bytes i l)) in
        (λ blank i l. sym (values-at b frame p i l) ∙ e.0 blank i l, λ z. e.1 (λ i l. values-at b frame p i l ∙ z i l))

    module _ (power : width 𝓓 ≡ 2 ^ b) where
      pub bits-costs : b * 128 ≤ Soft.ceiling → AreColumns 𝓓 (bit_columns b frame)
      unfolding bit_columns
      bits-costs most =
          record {
            at = λ p h. record {
              whole = bit-column-length b (values_at b frame p) ∙ sym power;
              costs = λ s l. omega (arith, bit-column-most b (values_at b frame p) s);
            };
          }

      pub made-length : length (table_made 𝓓 b frame) ≡ table_length 𝓓
      made-length = bit-table-length b frame (places 𝓓) ∙ ap (λ q. places 𝓓 * q * 2) (sym power)

      pub made-columns : length frame ≡ frame_length 𝓓 b → table_columns 𝓓 (table_made 𝓓 b frame) ≡ bit_columns b frame
      unfolding table_columns
      made-columns whole =
          ap (λ q. Soft.column_of q (Soft.costs_from (places 𝓓 * q) (table_made 𝓓 b frame))) power
          ∙ ap (λ (costs : List ℕ). Soft.column_of (2 ^ b) costs) (costs-bits b frame (places 𝓓)) ∙ columns-bits b frame (places 𝓓) (omega arith)

      -- ---- as table decoding, and as a session

      pub bits-delivered : length frame ≡ frame_length 𝓓 b → (row : List Entry)
          → ((p : ℕ) → p < places 𝓓 → column_in row p ≡ some (bit_columns b frame p)) → ((p : ℕ) → places 𝓓 ≤ p → column_in row p ≡ none)
          → Delivered 𝓓 (table_made 𝓓 b frame) row
      bits-delivered whole row there nothing =
          record {
            there = λ p h. there p h ∙ ap (λ (columns : ℕ → List ℕ). some (columns p)) (sym (made-columns whole));
            nothing_else = nothing;
          }

      module _ (rate : ℕ) (doubt : ℕ) (message report : List ℕ) (whole : length frame ≡ frame_length 𝓓 b) where
        fit-alike : bits_fit 𝓓 b rate frame message report ≡ table_fits 𝓓 rate (table_made 𝓓 b frame) message report
        unfolding bits_fit table_fits
        fit-alike =
            ap (λ t. t && (eqb (length message) rate && eqb (length report) (report_length 𝓓)))
            (eq-eqb (length frame) (frame_length 𝓓 b) whole ∙ sym (eq-eqb (length (table_made 𝓓 b frame)) (table_length 𝓓) made-length))

        pub bits-as-table : bits_of 𝓓 b rate frame doubt message report ≡ table_of 𝓓 rate (table_made 𝓓 b frame) doubt message report
        unfolding bits_of table_of picked_of
        bits-as-table =
            ap₂ (λ t (columns : ℕ → List ℕ).
            cond (known rate)
            (cond t
            (cond (leb doubt most_doubt) (decode_of 𝓓 rate columns (doubtful_of (places 𝓓) doubt columns) message report)
            (refused_closing wrong_doubt message report))
            (refused_closing wrong_size message report))
            (refused_closing unknown_rate message report))
            fit-alike (sym (made-columns whole))

        pub bits-as-session : (known : known rate ≡ true) (few : doubt ≤ most_doubt) (row : List Entry) (all : Delivered 𝓓 (table_made 𝓓 b frame) row)
            → bits_of 𝓓 b rate frame doubt message report
            ≡ close_of 𝓓 (book_for 𝓓 rate (table_made 𝓓 b frame) doubt known made-length few row all message report) message report
        bits-as-session known few row all =
            bits-as-table ∙ table-as-session 𝓓 rate (table_made 𝓓 b frame) doubt known made-length few row all message report
