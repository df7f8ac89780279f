-- A marked answer is the cheapest of all codewords of its rate, near or not. In every modem.
--
--   close-word, decode-word   the message that an accepted call gives has k symbols
--   shows-cheapest         so it is where a report that shows the message's numbers has 1 as its last byte
--   closing-marked         of an accepted closing
--   table-marked           of accepted table decoding; below-marked: by a threshold; bits-marked: and of decoding from bit values
--
-- A cost at the ceiling is summed as it stands, as in every total: with pinned places this speaks of these sums.
use Rattle.std.specs.Prelude.{Bool, true, false, ◌≡◌, refl, List, ℕ, ◌*◌, ◌^◌, ◌≤◌, T, length}
use Rattle.std.proofs.Common.{sym, ap, ◌∙◌, subst, subst₂, arith}
use Rattle.refusals.specs.Refusal.{accepted, wrong_size, place_missing, none_near, too_blank}
use Rattle.lists.specs.Count.{bit}
use Rattle.lists.specs.Distinct.{below}
use Rattle.lists.specs.Words.{Word}
use Rattle.soft.specs.Bits.{bit_columns}
use Rattle.soft.proofs.BitsLaws.{bit-table-bytes}
use Rattle.soft.specs.Column.{ceiling}
use Rattle.near.specs.Near as Near
use Rattle.near.specs.Cheapest.{marked_of, marked-cheapest}
use Rattle.book.specs.Model.{Model, places, width}
use Rattle.book.specs.Book.{Book, some_missing}
use Rattle.book.specs.Columns.{columns_of}
use Rattle.book.specs.closing.Closing.{Closed, decode_of, closing_fits, close_of}
use Rattle.book.specs.closing.ClosingLaws.{Decoded, blank, far, found}
use Rattle.book.proofs.closing.ClosingLaws.{decode-cases, close-size, close-missing, close-decoded, not-refused}
use Rattle.book.specs.opening.OpeningLaws.{Known}
use Rattle.book.specs.tables.Table.{table_columns, picked_of, table_of}
use Rattle.book.proofs.tables.Table.{table-accepted}
use Rattle.book.specs.tables.Below.{table_below_of, doubt_for}
use Rattle.book.proofs.tables.Below.{below-accepted, below-as-table}
use Rattle.book.specs.tables.Bits.{frame_length, table_made, bits_of}
use Rattle.book.proofs.tables.Bits.{made-columns, bits-as-table}
use Rattle.book.specs.rows.Costs.{AreColumns, RowColumns, row-columns, table-costs}
use Rattle.book.specs.closing.Report.{mark_in, ShowsFor}
use Rattle.book.proofs.closing.Report.{closing-shows, table-shows}
use Rattle.book.specs.sentences.Marked.{Cheapest, CheapestIn}

bit-holds : (b : Bool) → bit b ≡ 1 → T b
bit-holds true e = tt
bit-holds false e = absurd (omega arith)

module _ (𝓓 : Model) where
  open 𝓓 use {member, workable, most_doubt}

  pub shows-cheapest : {k : ℕ} {columns : ℕ → List ℕ} {m report : List ℕ} (doubtful : List ℕ) → Known 𝓓 k → AreColumns 𝓓 columns → Word (width 𝓓) k m
      → ShowsFor 𝓓 k columns doubtful m report → mark_in 𝓓 report ≡ 1 → Cheapest 𝓓 k columns m
  unfolding Near.message_cost
  shows-cheapest {k} {columns} {m = m} doubtful known all word shows e =
      record {
        none_less = λ n other.
            marked-cheapest member (workable k known) columns (λ p l. (all.at p l).whole) word other
            (bit-holds (marked_of member k columns m) (sym shows.mark_there ∙ e));
      }

  -- ---- the message has k symbols

  module _ (k : ℕ) (columns : ℕ → List ℕ) (doubtful message report : List ℕ) where
    pub decode-word : (decode_of 𝓓 k columns doubtful message report).number ≡ accepted
        → Word (width 𝓓) k (decode_of 𝓓 k columns doubtful message report).message
    decode-word n = go (decode-cases 𝓓 k columns doubtful message report)
      where
        go : Decoded 𝓓 k columns doubtful message report (decode_of 𝓓 k columns doubtful message report)
            → Word (width 𝓓) k (decode_of 𝓓 k columns doubtful message report).message
        go (blank h e) = absurd (omega (arith, not-refused message report n too_blank e))
        go (far few a e) = absurd (omega (arith, not-refused message report n none_near e))
        go (found few a word e) = subst (λ (c : Closed). Word (width 𝓓) k c.message) (sym e) word

  module _ (book : Book) (message report : List ℕ) (n : (close_of 𝓓 book message report).number ≡ accepted) where
    pub close-word : Word (width 𝓓) book.rate (close_of 𝓓 book message report).message
    close-word = go (closing_fits 𝓓 book message report) refl (some_missing 𝓓 book.row) refl
      where
        go : (a : Bool) → closing_fits 𝓓 book message report ≡ a → (b : Bool) → some_missing 𝓓 book.row ≡ b
            → Word (width 𝓓) book.rate (close_of 𝓓 book message report).message
        go false e b m = absurd (omega (arith, not-refused message report n wrong_size (close-size 𝓓 book message report e)))
        go true e true m = absurd (omega (arith, not-refused message report n place_missing (close-missing 𝓓 book message report e m)))
        go true e false m =
            let d = close-decoded 𝓓 book message report e m in
            subst (λ (c : Closed). Word (width 𝓓) book.rate c.message) (sym d)
            (decode-word book.rate (columns_of 𝓓 book.row) book.doubtful message report (sym (ap (λ (c : Closed). c.number) d) ∙ n))

    -- ---- closing, and table decoding

    pub closing-marked : Known 𝓓 book.rate → RowColumns 𝓓 book.row → length book.doubtful ≤ most_doubt
        → mark_in 𝓓 (close_of 𝓓 book message report).report ≡ 1 → CheapestIn 𝓓 book (close_of 𝓓 book message report)
    closing-marked known all few mark =
        shows-cheapest book.doubtful known (row-columns 𝓓 book.row all) close-word (closing-shows 𝓓 book message report all few n) mark

  pub table-marked : {rate : ℕ} → Known 𝓓 rate → (table : List ℕ) (doubt : ℕ) (message report : List ℕ) → below 256 table ≡ true
      → (table_of 𝓓 rate table doubt message report).number ≡ accepted → mark_in 𝓓 (table_of 𝓓 rate table doubt message report).report ≡ 1
      → Cheapest 𝓓 rate (table_columns 𝓓 table) (table_of 𝓓 rate table doubt message report).message
  table-marked {rate} known table doubt message report b n mark =
      let t = (table-accepted 𝓓 rate table doubt message report n).1 in
      shows-cheapest (picked_of 𝓓 table doubt) known (table-costs 𝓓 table b)
      (subst (λ (c : Closed). Word (width 𝓓) rate c.message) (sym t)
      (decode-word rate (table_columns 𝓓 table) (picked_of 𝓓 table doubt) message report (sym (ap (λ (c : Closed). c.number) t) ∙ n)))
      (table-shows 𝓓 rate table doubt message report b n) mark

  pub below-marked : {rate : ℕ} → Known 𝓓 rate → (table : List ℕ) (threshold most : ℕ) (message report : List ℕ) → below 256 table ≡ true
      → (table_below_of 𝓓 rate table threshold most message report).number ≡ accepted
      → mark_in 𝓓 (table_below_of 𝓓 rate table threshold most message report).report ≡ 1
      → Cheapest 𝓓 rate (table_columns 𝓓 table) (table_below_of 𝓓 rate table threshold most message report).message
  below-marked {rate} known table threshold most message report b n =
      let a = below-accepted 𝓓 rate table threshold most message report n in
      let e = below-as-table 𝓓 table threshold most a.0 a.1 rate message report in
      subst (λ (c : Closed). mark_in 𝓓 c.report ≡ 1 → Cheapest 𝓓 rate (table_columns 𝓓 table) c.message) (sym e)
      (table-marked known table (doubt_for 𝓓 table threshold most) message report b (sym (ap (λ (c : Closed). c.number) e) ∙ n))

  pub bits-marked : (bits : ℕ) → width 𝓓 ≡ 2 ^ bits → bits * 128 ≤ ceiling → {rate : ℕ} → Known 𝓓 rate → (frame : List ℕ)
      → length frame ≡ frame_length 𝓓 bits → (doubt : ℕ) (message report : List ℕ) → (bits_of 𝓓 bits rate frame doubt message report).number ≡ accepted
      → mark_in 𝓓 (bits_of 𝓓 bits rate frame doubt message report).report ≡ 1
      → Cheapest 𝓓 rate (bit_columns bits frame) (bits_of 𝓓 bits rate frame doubt message report).message
  bits-marked bits power most {rate} known frame whole doubt message report n =
      let e = bits-as-table 𝓓 bits frame power rate doubt message report whole in
      subst₂ (λ (columns : ℕ → List ℕ) (c : Closed). mark_in 𝓓 c.report ≡ 1 → Cheapest 𝓓 rate columns c.message)
      (made-columns 𝓓 bits frame power whole) (sym e)
      (table-marked known (table_made 𝓓 bits frame) doubt message report (bit-table-bytes bits frame (places 𝓓) most)
      (sym (ap (λ (c : Closed). c.number) e) ∙ n))
