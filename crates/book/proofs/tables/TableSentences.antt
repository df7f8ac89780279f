-- Document 01's sentences about closing, said of table decoding by doubt and by threshold and of decoding from bit values: they answer as closing a session
-- does to which the columns were delivered, in whatever order.
--
--   up-to                 the first n numbers in their order are different, and below every number from n on
--   in-order              the row to which the table's columns were delivered in the order of their places holds the table
--   table_closes          table decoding answers as Sentences says of closing such a session (Closes)
--   table-none-near       so it says 'none near' exactly if no codeword is within T of a test word of the table,
--   table-answer          and otherwise it gives the near codeword of least total, with its margin
--   below-closes, below-none-near, below-answer   the same by a threshold, with the places that it picks
--   bits-closes, bits-none-near, bits-answer      and from bit values, with the table that they make
use Rattle.std.specs.Prelude.{Bool, true, false, ◌≡◌, refl, List, [], ◌∷◌, ◌↔◌, ◌≢◌, ℕ, zero, suc, ◌^◌, ◌≤◌, length}
use Rattle.std.proofs.Common.{sym, ap, ◌∙◌, subst, arith}
use Rattle.refusals.specs.Refusal.{none_near}
use Rattle.lists.specs.Distinct.{among, below, below-append, below_one, below-nil, below-among, distinct, distinct_nil, distinct_snoc, and_both}
use Rattle.lists.specs.Listed.{listed_nil, listed_suc, listed-length}
use Rattle.near.specs.Reach.{Reach}
use Rattle.book.specs.Model.{Model, places, width}
use Rattle.book.specs.Book.{Entry, Book}
use Rattle.book.specs.Entries.{Missing, missing-none}
use Rattle.book.specs.closing.Closing.{report_length}
use Rattle.book.specs.opening.OpeningLaws.{Known}
use Rattle.book.specs.sentences.Sentences.{blanks_in, IsNear, IsAnswer, Closes}
use Rattle.book.proofs.sentences.Sentences.{closes}
use Rattle.book.specs.tables.Table.{table_length, picked_of, table_of, Delivered}
use Rattle.book.proofs.tables.Table.{delivered-none-missing, table-as-session, order-delivered}
use Rattle.book.specs.tables.Below.{picked_below, table_below_of}
use Rattle.book.proofs.tables.Below.{below-as-session}
use Rattle.book.specs.tables.Bits.{frame_length, table_made, bits_of}
use Rattle.book.proofs.tables.Bits.{made-length, bits-as-table}
use Rattle.book.specs.tables.TableSentences.{up_to, in_order}

pub up-to : (n m : ℕ) → n ≤ m → (distinct (up_to n) ≡ true) × (below m (up_to n) ≡ true)
unfolding up_to
up-to zero m h = (ap distinct (listed_nil (λ p. p)) ∙ distinct_nil, ap (below m) (listed_nil (λ p. p)) ∙ below-nil m)
up-to (suc n) m h =
    let r = up-to n m (omega arith) in
    let s = up-to n n (omega arith) in (
      ap distinct (listed_suc n (λ p. p)) ∙ distinct_snoc (up_to n) n s.0 (fresh (among n (up_to n)) refl s.1),
      ap (below m) (listed_suc n (λ p. p)) ∙ below-append m (up_to n) (n ∷ [])
          ∙ and_both (below m (up_to n)) (below m (n ∷ [])) r.1 (below_one m n (omega arith)),
    )
  where
    fresh : (b : Bool) → among n (up_to n) ≡ b → below n (up_to n) ≡ true → among n (up_to n) ≡ false
    fresh true e small = absurd (omega (arith, below-among n (up_to n) n small e))
    fresh false e small = e

module _ (𝓓 : Model) where
  open 𝓓 use {member, most_doubt}

  pub in-order : (table : List ℕ) → Delivered 𝓓 table (in_order 𝓓 table)
  unfolding in_order up_to
  in-order table =
      let u = up-to (places 𝓓) (places 𝓓) (omega arith) in order-delivered 𝓓 table (up_to (places 𝓓)) u.0 u.1 (listed-length (places 𝓓) (λ p. p))

  module _ {rate : ℕ} (rated : Known 𝓓 rate) (table : List ℕ) (whole : length table ≡ table_length 𝓓) {row : List Entry} (all : Delivered 𝓓 table row)
      (message report : List ℕ) (long : length message ≡ rate) (whole_report : length report ≡ report_length 𝓓) where
    full : (p : ℕ) → Missing 𝓓 row p → ⊥
    full = missing-none 𝓓 row (delivered-none-missing 𝓓 table row all)

    -- ---- by doubt

    module _ (doubt : ℕ) (few : doubt ≤ most_doubt) where
      -- a session opened with the places that are picked, to which the table's columns were delivered
      abbrev pub book_by : Book
      book_by = record { rate = rate; doubtful = picked_of 𝓓 table doubt; row = row }

      pub table_closes : Closes 𝓓 book_by (table_of 𝓓 rate table doubt message report)
      table_closes =
          subst (Closes 𝓓 book_by) (sym (table-as-session 𝓓 rate table doubt rated whole few row all message report))
          (closes 𝓓 message report long whole_report)

      module _ {T : ℕ} (reach : Reach member rate (blanks_in 𝓓 book_by) T) where
        pub table-none-near : ((table_of 𝓓 rate table doubt message report).number ≡ none_near) ↔ ((m : List ℕ) → IsNear 𝓓 book_by T m → ⊥)
        table-none-near = table_closes.none-near full reach

        pub table-answer : (table_of 𝓓 rate table doubt message report).number ≢ none_near → IsAnswer 𝓓 book_by T (table_of 𝓓 rate table doubt message report)
        table-answer = table_closes.otherwise full reach

    -- ---- by a threshold

    module _ (threshold most : ℕ) (some : 1 ≤ most) (few : most ≤ most_doubt) where
      abbrev pub book_below : Book
      book_below = record { rate = rate; doubtful = picked_below 𝓓 table threshold most; row = row }

      pub below-closes : Closes 𝓓 book_below (table_below_of 𝓓 rate table threshold most message report)
      below-closes =
          subst (Closes 𝓓 book_below) (sym (below-as-session 𝓓 table threshold most some few rate rated whole message report row all))
          (closes 𝓓 message report long whole_report)

      module _ {T : ℕ} (reach : Reach member rate (blanks_in 𝓓 book_below) T) where
        pub below-none-near : ((table_below_of 𝓓 rate table threshold most message report).number ≡ none_near) ↔ ((m : List ℕ) → IsNear 𝓓 book_below T m → ⊥)
        below-none-near = below-closes.none-near full reach

        pub below-answer : (table_below_of 𝓓 rate table threshold most message report).number ≢ none_near
            → IsAnswer 𝓓 book_below T (table_below_of 𝓓 rate table threshold most message report)
        below-answer = below-closes.otherwise full reach

  -- ---- from bit values

  module _ (bits : ℕ) (power : width 𝓓 ≡ 2 ^ bits) {rate : ℕ} (rated : Known 𝓓 rate) (frame : List ℕ) (whole : length frame ≡ frame_length 𝓓 bits)
      {row : List Entry} (all : Delivered 𝓓 (table_made 𝓓 bits frame) row) (message report : List ℕ) (long : length message ≡ rate)
      (whole_report : length report ≡ report_length 𝓓) (doubt : ℕ) (few : doubt ≤ most_doubt) where
    abbrev pub book_bits : Book
    book_bits = record { rate = rate; doubtful = picked_of 𝓓 (table_made 𝓓 bits frame) doubt; row = row }

    pub bits-closes : Closes 𝓓 book_bits (bits_of 𝓓 bits rate frame doubt message report)
    bits-closes =
        subst (Closes 𝓓 book_bits) (sym (bits-as-table 𝓓 bits frame power rate doubt message report whole))
        (table_closes rated (table_made 𝓓 bits frame) (made-length 𝓓 bits frame power) all message report long whole_report doubt few)

    module _ {T : ℕ} (reach : Reach member rate (blanks_in 𝓓 book_bits) T) where
      pub bits-none-near : ((bits_of 𝓓 bits rate frame doubt message report).number ≡ none_near) ↔ ((m : List ℕ) → IsNear 𝓓 book_bits T m → ⊥)
      bits-none-near = bits-closes.none-near (full rated (table_made 𝓓 bits frame) (made-length 𝓓 bits frame power) all message report long whole_report) reach

      pub bits-answer : (bits_of 𝓓 bits rate frame doubt message report).number ≢ none_near
          → IsAnswer 𝓓 book_bits T (bits_of 𝓓 bits rate frame doubt message report)
      bits-answer = bits-closes.otherwise (full rated (table_made 𝓓 bits frame) (made-length 𝓓 bits frame power) all message report long whole_report) reach
