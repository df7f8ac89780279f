-- The message sent, by table: what Repairs says of closing, said of table decoding by doubt and by threshold and of decoding from bit values.
--
--   table-repaired       table decoding with doubt 0 gives the message sent where at most T of its symbols, blank places left out, are not the best symbols
--   table-faded          so where no more places are blank than the limit says and none of the others is wrong
--   table-refused        with doubt 0 it refuses where the message sent is too far
--   table-found          with no larger doubt than the largest it never says 'none near' where few places are wrong by the doubtful places picked
--   table-alone          where moreover the message sent is alone (Repairs Alone) it gives it, and there is no margin; table-sure: so where so few places
--                        are doubtful that no two codewords are near
--   table-never          where the message sent is alone it gives it or says 'none near'
--   below-alone, below-sure, below-never   the same by a threshold, where the doubtful places are those that it picks
--   bits-alone, bits-sure, bits-never      and from bit values, where the columns are those that they make
--
-- From here to the code: the contracts of `decode_table`, `decode_table_below` and `decode_bits` are `table_of`, `tableBelowOf` and `bits_of`.
use Rattle.std.specs.Prelude.{true, ◌≡◌, length}
use Rattle.std.proofs.Common.{sym, arith}
use Rattle.std.proofs.Math.Path.{subst, subst₂}
use mathlib.Core.List.{List, []}
use Prim.Native.Nat.{ℕ, ◌^◌, ◌<◌, ◌≤◌}
use Rattle.refusals.specs.Refusal.{none_near}
use Rattle.lists.specs.Words.{Word}
use Rattle.soft.specs.Bits.{bit_columns}
use Rattle.soft.specs.Blank.{open_at, blanks_of}
use Rattle.soft.specs.Doubt.{doubtful_of}
use Rattle.soft.specs.DoubtLaws.{doubtful-none}
use Rattle.soft.specs.TestWord.{best_at}
use Rattle.soft.specs.Total.{symbol_at}
use Rattle.family.specs.Encoding.{encode_of}
use Rattle.near.specs.Near.{blank_limit}
use Rattle.near.specs.Reach.{Reach, reach-is}
use Rattle.near.specs.Rivals.{FewDoubtful}
use Rattle.book.specs.Model.{Model, places, width}
use Rattle.book.specs.Book.{Book}
use Rattle.book.specs.Columns.{columns_of}
use Rattle.book.specs.Entries.{Missing, missing-none}
use Rattle.book.specs.closing.Closing.{report_length, Closed, close_of}
use Rattle.book.specs.opening.OpeningLaws.{Known}
use Rattle.book.specs.tables.Table.{table_length, table_columns, picked_of, table_of}
use Rattle.book.proofs.tables.Table.{delivered-columns, delivered-none-missing, table-as-session}
use Rattle.book.specs.tables.TableSentences.{in_order}
use Rattle.book.proofs.tables.TableSentences.{in-order}
use Rattle.book.specs.tables.Below.{picked_below, table_below_of, doubt_for}
use Rattle.book.proofs.tables.Below.{below-picked, doubt-for-most, below-as-table}
use Rattle.book.specs.tables.Bits.{frame_length, table_made, bits_of}
use Rattle.book.proofs.tables.Bits.{made-length, made-columns, bits-as-table}
use Rattle.book.specs.sentences.Repairs.{FewWrong, not_best, Repaired, Sure, NoDearer, TooFar, RefusedAs, Never, Alone}
use Rattle.book.proofs.sentences.Repairs.{none-wrong, always-repaired, always-refused, always-found, few-alone, always-alone, never-another}

module _ (𝓓 : Model) where
  open 𝓓 use {member, workable, most_doubt}

  none-picked : (table : List ℕ) → picked_of 𝓓 table 0 ≡ []
  unfolding picked_of
  none-picked table = doubtful-none (places 𝓓) (table_columns 𝓓 table)

  module _ {rate : ℕ} (rated : Known 𝓓 rate) (table : List ℕ) (whole : length table ≡ table_length 𝓓) (message report : List ℕ)
      (long : length message ≡ rate) (whole_report : length report ≡ report_length 𝓓) (m : List ℕ) where
    full : (p : ℕ) → Missing 𝓓 (in_order 𝓓 table) p → ⊥
    full = missing-none 𝓓 (in_order 𝓓 table) (delivered-none-missing 𝓓 table (in_order 𝓓 table) (in-order 𝓓 table))

    -- a session to which the table was delivered
    book_by : ℕ → Book
    book_by doubt = record { rate = rate; doubtful = picked_of 𝓓 table doubt; row = in_order 𝓓 table }

    -- what holds of its columns and of closing it holds of the table's columns and of table decoding
    by-table : (doubt : ℕ) → doubt ≤ most_doubt → (P : (ℕ → List ℕ) → Closed → Type 0)
        → P (columns_of 𝓓 (in_order 𝓓 table)) (close_of 𝓓 (book_by doubt) message report)
        → P (table_columns 𝓓 table) (table_of 𝓓 rate table doubt message report)
    unfolding book_by
    by-table doubt few P =
        subst₂ P (delivered-columns 𝓓 table (in_order 𝓓 table) (in-order 𝓓 table))
        (sym (table-as-session 𝓓 rate table doubt rated whole few (in_order 𝓓 table) (in-order 𝓓 table) message report))

    module _ {T : ℕ} (reach : Reach member rate (blanks_of (places 𝓓) (table_columns 𝓓 table)) T) where
      module _ (doubt : ℕ) (most : doubt ≤ most_doubt) where
        pub table-found : FewWrong 𝓓 rate (table_columns 𝓓 table) (picked_of 𝓓 table doubt) T m
            → NoDearer 𝓓 rate (table_columns 𝓓 table) (picked_of 𝓓 table doubt) m (table_of 𝓓 rate table doubt message report)
        unfolding book_by
        table-found =
            by-table doubt most
            (λ columns c. Reach member rate (blanks_of (places 𝓓) columns) T → FewWrong 𝓓 rate columns (picked_of 𝓓 table doubt) T m
            → NoDearer 𝓓 rate columns (picked_of 𝓓 table doubt) m c)
            (λ r. always-found 𝓓 (book_by doubt) full message report long whole_report m r) reach

        pub table-alone : FewWrong 𝓓 rate (table_columns 𝓓 table) (picked_of 𝓓 table doubt) T m
            → Alone 𝓓 rate (table_columns 𝓓 table) (picked_of 𝓓 table doubt) T m
            → Sure 𝓓 rate (table_columns 𝓓 table) (picked_of 𝓓 table doubt) m (table_of 𝓓 rate table doubt message report)
        unfolding book_by
        table-alone =
            by-table doubt most
            (λ columns c. Reach member rate (blanks_of (places 𝓓) columns) T → FewWrong 𝓓 rate columns (picked_of 𝓓 table doubt) T m
            → Alone 𝓓 rate columns (picked_of 𝓓 table doubt) T m → Sure 𝓓 rate columns (picked_of 𝓓 table doubt) m c)
            (λ r. always-alone 𝓓 (book_by doubt) full message report long whole_report m r rated) reach

        pub table-sure : FewDoubtful member rate (table_columns 𝓓 table) (picked_of 𝓓 table doubt) T
            → FewWrong 𝓓 rate (table_columns 𝓓 table) (picked_of 𝓓 table doubt) T m
            → Sure 𝓓 rate (table_columns 𝓓 table) (picked_of 𝓓 table doubt) m (table_of 𝓓 rate table doubt message report)
        table-sure few-doubtful few = table-alone few (few-alone 𝓓 few-doubtful few)

        pub table-never : Alone 𝓓 rate (table_columns 𝓓 table) (picked_of 𝓓 table doubt) T m
            → Never 𝓓 rate (table_columns 𝓓 table) (picked_of 𝓓 table doubt) m message report (table_of 𝓓 rate table doubt message report)
        unfolding book_by
        table-never =
            by-table doubt most
            (λ columns c. Reach member rate (blanks_of (places 𝓓) columns) T → Alone 𝓓 rate columns (picked_of 𝓓 table doubt) T m
            → Never 𝓓 rate columns (picked_of 𝓓 table doubt) m message report c)
            (λ r. never-another 𝓓 (book_by doubt) full message report long whole_report m r rated) reach

      pub table-repaired : Word (width 𝓓) rate m → not_best 𝓓 rate (table_columns 𝓓 table) m ≤ T
          → Repaired 𝓓 rate (table_columns 𝓓 table) [] m (table_of 𝓓 rate table 0 message report)
      unfolding book_by
      table-repaired word few =
          subst (λ list. Repaired 𝓓 rate (table_columns 𝓓 table) list m (table_of 𝓓 rate table 0 message report)) (none-picked table)
          (by-table 0 (omega arith)
          (λ columns c. Reach member rate (blanks_of (places 𝓓) columns) T → not_best 𝓓 rate columns m ≤ T
          → Repaired 𝓓 rate columns (picked_of 𝓓 table 0) m c)
          (λ r. always-repaired 𝓓 (book_by 0) full message report long whole_report m r rated (none-picked table) word) reach few)

      pub table-refused : TooFar 𝓓 rate (table_columns 𝓓 table) T m → RefusedAs 𝓓 none_near message report (table_of 𝓓 rate table 0 message report)
      unfolding book_by
      table-refused =
          by-table 0 (omega arith)
          (λ columns c. Reach member rate (blanks_of (places 𝓓) columns) T → TooFar 𝓓 rate columns T m → RefusedAs 𝓓 none_near message report c)
          (λ r. always-refused 𝓓 (book_by 0) full message report long whole_report m r rated (none-picked table)) reach

  pub table-faded : {rate : ℕ} → Known 𝓓 rate → (table : List ℕ) → blanks_of (places 𝓓) (table_columns 𝓓 table) ≤ blank_limit member rate
      → length table ≡ table_length 𝓓 → (message report : List ℕ) → length message ≡ rate → length report ≡ report_length 𝓓
      → (m : List ℕ) → Word (width 𝓓) rate m
      → ((p : ℕ) → p < places 𝓓 → open_at (table_columns 𝓓 table) p ≡ true → symbol_at (encode_of member rate m) p ≡ best_at (table_columns 𝓓 table) p)
      → Repaired 𝓓 rate (table_columns 𝓓 table) [] m (table_of 𝓓 rate table 0 message report)
  table-faded {rate} rated table few_blank whole message report long whole_report m word right =
      table-repaired rated table whole message report long whole_report m (reach-is member (workable rate rated) few_blank) word
      (omega (arith, none-wrong 𝓓 rate (table_columns 𝓓 table) m right))

  -- ---- by a threshold

  module _ {rate : ℕ} (rated : Known 𝓓 rate) (table : List ℕ) (whole : length table ≡ table_length 𝓓) (message report : List ℕ)
      (long : length message ≡ rate) (whole_report : length report ≡ report_length 𝓓) (m : List ℕ) {T : ℕ}
      (reach : Reach member rate (blanks_of (places 𝓓) (table_columns 𝓓 table)) T) (threshold most : ℕ) (some : 1 ≤ most) (few : most ≤ most_doubt) where
    by-doubt : (P : List ℕ → Closed → Type 0)
        → P (picked_of 𝓓 table (doubt_for 𝓓 table threshold most)) (table_of 𝓓 rate table (doubt_for 𝓓 table threshold most) message report)
        → P (picked_below 𝓓 table threshold most) (table_below_of 𝓓 rate table threshold most message report)
    by-doubt P = subst₂ P (sym (below-picked 𝓓 table threshold most)) (sym (below-as-table 𝓓 table threshold most some few rate message report))

    counted : doubt_for 𝓓 table threshold most ≤ most_doubt
    counted = omega (arith, few, doubt-for-most 𝓓 table threshold most)

    pub below-alone : FewWrong 𝓓 rate (table_columns 𝓓 table) (picked_below 𝓓 table threshold most) T m
        → Alone 𝓓 rate (table_columns 𝓓 table) (picked_below 𝓓 table threshold most) T m
        → Sure 𝓓 rate (table_columns 𝓓 table) (picked_below 𝓓 table threshold most) m (table_below_of 𝓓 rate table threshold most message report)
    below-alone =
        by-doubt
        (λ list c. FewWrong 𝓓 rate (table_columns 𝓓 table) list T m → Alone 𝓓 rate (table_columns 𝓓 table) list T m
        → Sure 𝓓 rate (table_columns 𝓓 table) list m c)
        (table-alone rated table whole message report long whole_report m reach (doubt_for 𝓓 table threshold most) counted)

    pub below-sure : FewDoubtful member rate (table_columns 𝓓 table) (picked_below 𝓓 table threshold most) T
        → FewWrong 𝓓 rate (table_columns 𝓓 table) (picked_below 𝓓 table threshold most) T m
        → Sure 𝓓 rate (table_columns 𝓓 table) (picked_below 𝓓 table threshold most) m (table_below_of 𝓓 rate table threshold most message report)
    below-sure few-doubtful right = below-alone right (few-alone 𝓓 few-doubtful right)

    pub below-never : Alone 𝓓 rate (table_columns 𝓓 table) (picked_below 𝓓 table threshold most) T m
        → Never 𝓓 rate (table_columns 𝓓 table) (picked_below 𝓓 table threshold most) m message report
        (table_below_of 𝓓 rate table threshold most message report)
    below-never =
        by-doubt
        (λ list c. Alone 𝓓 rate (table_columns 𝓓 table) list T m → Never 𝓓 rate (table_columns 𝓓 table) list m message report c)
        (table-never rated table whole message report long whole_report m reach (doubt_for 𝓓 table threshold most) counted)

  -- ---- from bit values, so many a symbol

  module _ (bits : ℕ) (power : width 𝓓 ≡ 2 ^ bits) {rate : ℕ} (rated : Known 𝓓 rate) (frame : List ℕ) (whole : length frame ≡ frame_length 𝓓 bits)
      (message report : List ℕ) (long : length message ≡ rate) (whole_report : length report ≡ report_length 𝓓) (m : List ℕ) {T : ℕ}
      (reach : Reach member rate (blanks_of (places 𝓓) (bit_columns bits frame)) T) (doubt : ℕ) (most : doubt ≤ most_doubt) where
    -- the places that are doubtful by the columns that the values make
    abbrev pub picked_bits : List ℕ
    picked_bits = doubtful_of (places 𝓓) doubt (bit_columns bits frame)

    by-made : (P : (ℕ → List ℕ) → List ℕ → Closed → Type 0)
        → P (table_columns 𝓓 (table_made 𝓓 bits frame)) (picked_of 𝓓 (table_made 𝓓 bits frame) doubt)
        (table_of 𝓓 rate (table_made 𝓓 bits frame) doubt message report)
        → P (bit_columns bits frame) picked_bits (bits_of 𝓓 bits rate frame doubt message report)
    unfolding picked_of
    by-made P h =
        subst₂ (λ (columns : ℕ → List ℕ) (c : Closed). P columns (doubtful_of (places 𝓓) doubt columns) c) (made-columns 𝓓 bits frame power whole)
        (sym (bits-as-table 𝓓 bits frame power rate doubt message report whole)) h

    pub bits-alone : FewWrong 𝓓 rate (bit_columns bits frame) picked_bits T m → Alone 𝓓 rate (bit_columns bits frame) picked_bits T m
        → Sure 𝓓 rate (bit_columns bits frame) picked_bits m (bits_of 𝓓 bits rate frame doubt message report)
    bits-alone =
        by-made
        (λ columns list c. Reach member rate (blanks_of (places 𝓓) columns) T → FewWrong 𝓓 rate columns list T m → Alone 𝓓 rate columns list T m
        → Sure 𝓓 rate columns list m c)
        (λ r. table-alone rated (table_made 𝓓 bits frame) (made-length 𝓓 bits frame power) message report long whole_report m r doubt most) reach

    pub bits-sure : FewDoubtful member rate (bit_columns bits frame) picked_bits T → FewWrong 𝓓 rate (bit_columns bits frame) picked_bits T m
        → Sure 𝓓 rate (bit_columns bits frame) picked_bits m (bits_of 𝓓 bits rate frame doubt message report)
    bits-sure few-doubtful few = bits-alone few (few-alone 𝓓 few-doubtful few)

    pub bits-never : Alone 𝓓 rate (bit_columns bits frame) picked_bits T m
        → Never 𝓓 rate (bit_columns bits frame) picked_bits m message report (bits_of 𝓓 bits rate frame doubt message report)
    bits-never =
        by-made
        (λ columns list c. Reach member rate (blanks_of (places 𝓓) columns) T → Alone 𝓓 rate columns list T m
        → Never 𝓓 rate columns list m message report c)
        (λ r. table-never rated (table_made 𝓓 bits frame) (made-length 𝓓 bits frame power) message report long whole_report m r doubt most) reach
