-- Table decoding by a threshold: rate, then sizes, then the maximum, then blank places, then nearness; and why it answers as table decoding does with a
-- doubt that is counted, and as a session does that was opened with the places that the threshold picks.
--
--   below-rate, below-size, below-doubt, below-decoded   the four cases; below-refused: where the checks of rate and sizes refuse, it gives their number
--   below-too-blank, below-blank-only   of the last: it gives 12 exactly where more places are blank than leave a T
--   below-accepted         an accepted call has a maximum from 1 to the largest doubt and answers as decoding does
--   below-picked           the places picked are those that a doubt so large picks,
--   below-as-table         so with a maximum that is allowed it is table decoding with that doubt
--   below_length       exactly that doubt is picked, where no more places are blank than leave a T; below-some: at least one
--   below-open             no blank place is picked
--   below-fit, below-opens the places picked are a doubtful list that opening accepts,
--   below-as-session       and closing a book that was opened with them and got all columns, in whatever order, answers the same;
--   below-in-order         all the way: opened, the columns delivered in the order of a list, each accepted, and closed
use Rattle.std.specs.Prelude.{Bool, ◌&&◌, ◌≡◌, ◌↔◌, ◌≢◌, ◌⊎◌, ℕ, ◌<◌, ◌≤◌, length}
use Rattle.std.proofs.Math.Bool.{true, false, cond, and-false}
use Rattle.std.proofs.Math.Path.{refl, sym, ap₂}
use Rattle.std.proofs.Common.{ap, ◌∙◌, subst, ⊎_elim, arith}
use mathlib.Core.List.{List, Memᴰ}
use Rattle.std.proofs.Math.Dec.{leb}
use borrow.Author.Tests.{leb-true, le-leb, lt-leb}
use Rattle.refusals.specs.Refusal.{accepted, unknown_rate, wrong_size, wrong_doubt, too_blank}
use Rattle.lists.specs.Distinct.{below, distinct, and_left, and_right, and_both}
use Rattle.soft.specs.Blank.{open_at, blanks_of}
use Rattle.soft.specs.ThresholdLaws.{closest-doubtful, doubt-below-most, doubt-below-some, closest_of-length, closest-open}
use Rattle.near.specs.Near.{blank_limit}
use Rattle.book.specs.Model.{Model, places}
use Rattle.book.specs.Book.{Entry, new_book, Outcome}
use Rattle.book.specs.opening.Opening.{fit_doubt, open_of}
use Rattle.book.specs.rows.Delivery.{deliver_row}
use Rattle.book.specs.closing.Closing.{report_length, Closed, refused_closing, decode_of, close_of}
use Rattle.book.proofs.closing.ClosingLaws.{decode-too-blank, decode-blank-only, not-refused}
use Rattle.book.specs.rows.RowLaws.{open-accepted}
use Rattle.book.specs.tables.Table.{table_length, table_columns, picked_of, table_fits, checks_of, table_of, Delivered, entries_of}
use Rattle.book.proofs.tables.Table.{sizes-fit, sizes-unfit, refused-by-checks, limit-below, picked_fit, table-as-session, order-delivered, order-accepted}
use Rattle.book.specs.tables.Below.{picked_below, table_below_of, doubt_for}

module _ (𝓓 : Model) where
  open 𝓓 use {member, known, most_doubt}

  -- ---- the maximum

  allowed : (m : ℕ) → 1 ≤ m → m ≤ most_doubt → (leb 1 m && leb m most_doubt) ≡ true
  allowed m some few = and_both (leb 1 m) (leb m most_doubt) (le-leb 1 m some) (le-leb m most_doubt few)

  refused : (m : ℕ) → (m ≡ 0) ⊎ (most_doubt < m) → (leb 1 m && leb m most_doubt) ≡ false
  refused m =
      ⊎_elim (λ (e : m ≡ 0). ap (λ b. b && leb m most_doubt) (lt-leb 1 m (omega arith)))
      (λ l. ap (λ b. leb 1 m && b) (lt-leb m most_doubt l) ∙ and-false (leb 1 m))

  -- ---- the four cases

  module _ (rate : ℕ) (table : List ℕ) (t m : ℕ) (message report : List ℕ) where
    pub below-rate : known rate ≡ false → table_below_of 𝓓 rate table t m message report ≡ refused_closing unknown_rate message report
    unfolding table_below_of
    below-rate e = rw e

    module _ (known : known rate ≡ true) where
      unfit : table_fits 𝓓 rate table message report ≡ false → table_below_of 𝓓 rate table t m message report ≡ refused_closing wrong_size message report
      unfolding table_below_of
      unfit f = rw (known, f)

      pub below-size : (length table ≢ (table_length 𝓓)) ⊎ ((length message ≢ rate) ⊎ (length report ≢ (report_length 𝓓)))
          → table_below_of 𝓓 rate table t m message report ≡ refused_closing wrong_size message report
      unfolding table_fits
      below-size w = unfit (sizes-unfit w)

      module _ (whole : length table ≡ table_length 𝓓) (long : length message ≡ rate) (whole_report : length report ≡ report_length 𝓓) where
        fits : table_fits 𝓓 rate table message report ≡ true
        unfolding table_fits
        fits = sizes-fit whole long whole_report

        pub below-doubt : (m ≡ 0) ⊎ (most_doubt < m) → table_below_of 𝓓 rate table t m message report ≡ refused_closing wrong_doubt message report
        unfolding table_below_of
        below-doubt w = rw (known, fits, refused m w)

        module _ (some : 1 ≤ m) (few : m ≤ most_doubt) where
          pub below-decoded : table_below_of 𝓓 rate table t m message report ≡ decode_of 𝓓 rate (table_columns 𝓓 table) (picked_below 𝓓 table t m) message report
          unfolding table_below_of
          below-decoded = rw (known, fits, allowed m some few)

          pub below-too-blank : blank_limit member rate < blanks_of (places 𝓓) (table_columns 𝓓 table)
              → table_below_of 𝓓 rate table t m message report ≡ refused_closing too_blank message report
          below-too-blank b = below-decoded ∙ decode-too-blank 𝓓 rate (table_columns 𝓓 table) (picked_below 𝓓 table t m) message report b

          pub below-blank-only : ((table_below_of 𝓓 rate table t m message report).number ≡ too_blank)
              ↔ (blank_limit member rate < blanks_of (places 𝓓) (table_columns 𝓓 table))
          below-blank-only =
              subst (λ (c : Closed). (c.number ≡ too_blank) ↔ (blank_limit member rate < blanks_of (places 𝓓) (table_columns 𝓓 table))) (sym below-decoded)
              (decode-blank-only 𝓓 rate (table_columns 𝓓 table) (picked_below 𝓓 table t m) message report)

    pub below-refused : checks_of 𝓓 rate (length table) (table_length 𝓓) (length message) (length report) ≢ accepted
        → table_below_of 𝓓 rate table t m message report
        ≡ refused_closing (checks_of 𝓓 rate (length table) (table_length 𝓓) (length message) (length report)) message report
    unfolding table_below_of table_fits
    below-refused n =
        refused-by-checks 𝓓 rate (length table) (table_length 𝓓) message report
        (cond (leb 1 m && leb m most_doubt) (decode_of 𝓓 rate (table_columns 𝓓 table) (picked_below 𝓓 table t m) message report)
        (refused_closing wrong_doubt message report))
        n

    pub below-accepted : (table_below_of 𝓓 rate table t m message report).number ≡ accepted
        → (1 ≤ m) × (m ≤ most_doubt)
        × (table_below_of 𝓓 rate table t m message report ≡ decode_of 𝓓 rate (table_columns 𝓓 table) (picked_below 𝓓 table t m) message report)
    unfolding table_below_of
    below-accepted n = go (known rate) refl (table_fits 𝓓 rate table message report) refl (leb 1 m && leb m most_doubt) refl
      where
        go : (a : Bool) → known rate ≡ a → (b : Bool) → table_fits 𝓓 rate table message report ≡ b → (c : Bool) → (leb 1 m && leb m most_doubt) ≡ c
            → (1 ≤ m) × (m ≤ most_doubt)
            × (table_below_of 𝓓 rate table t m message report ≡ decode_of 𝓓 rate (table_columns 𝓓 table) (picked_below 𝓓 table t m) message report)
        go false e b f c g = absurd (omega (arith, not-refused message report n unknown_rate (below-rate e)))
        go true e false f c g = absurd (omega (arith, not-refused message report n wrong_size (unfit e f)))
        go true e true f false g = absurd (omega (arith, not-refused {c = table_below_of 𝓓 rate table t m message report} message report n wrong_doubt (rw (e, f, g))))
        go true e true f true g = (
          leb-true 1 m (and_left (leb 1 m) (leb m most_doubt) g),
          leb-true m most_doubt (and_right (leb 1 m) (leb m most_doubt) g),
          rw (e, f, g),
        )

  -- ---- the places picked

  module _ (table : List ℕ) (t m : ℕ) where
    pub below-open : (p : ℕ) → Memᴰ p (picked_below 𝓓 table t m) → open_at (table_columns 𝓓 table) p ≡ true
    unfolding picked_below
    below-open = closest-open (places 𝓓) t m (table_columns 𝓓 table)

    pub below-picked : picked_below 𝓓 table t m ≡ picked_of 𝓓 table (doubt_for 𝓓 table t m)
    unfolding picked_below picked_of
    below-picked = closest-doubtful (places 𝓓) t m (table_columns 𝓓 table)

    pub below_length : {rate : ℕ} → known rate ≡ true → blanks_of (places 𝓓) (table_columns 𝓓 table) ≤ blank_limit member rate
        → length (picked_below 𝓓 table t m) ≡ doubt_for 𝓓 table t m
    unfolding picked_below
    below_length {rate} known blanks = closest_of-length (places 𝓓) t m (table_columns 𝓓 table) (omega (arith, limit-below 𝓓 {rate = rate} known))

    pub doubt-for-most : doubt_for 𝓓 table t m ≤ m
    doubt-for-most = doubt-below-most (places 𝓓) t m (table_columns 𝓓 table)

    module _ (few : m ≤ most_doubt) where
      pub below-fit : fit_doubt 𝓓 (picked_below 𝓓 table t m) ≡ true
      below-fit = ap (fit_doubt 𝓓) below-picked ∙ picked_fit 𝓓 table (doubt_for 𝓓 table t m) (omega (arith, doubt-for-most))

      pub below-opens : (rate : ℕ) → known rate ≡ true
          → open_of 𝓓 rate (picked_below 𝓓 table t m) ≡ record { number = accepted; book = new_book rate (picked_below 𝓓 table t m) }
      below-opens rate known = open-accepted 𝓓 rate (picked_below 𝓓 table t m) known below-fit

    module _ (some : 1 ≤ m) where
      pub doubt-for-some : 1 ≤ doubt_for 𝓓 table t m
      doubt-for-some = doubt-below-some (places 𝓓) t m (table_columns 𝓓 table) some

      pub below-some : {rate : ℕ} → known rate ≡ true → blanks_of (places 𝓓) (table_columns 𝓓 table) ≤ blank_limit member rate
          → 1 ≤ length (picked_below 𝓓 table t m)
      below-some {rate} known blanks = omega (arith, doubt-for-some, below_length {rate = rate} known blanks)

      module _ (few : m ≤ most_doubt) where
        -- ---- as table decoding

        pub below-as-table : (rate : ℕ) (message report : List ℕ)
            → table_below_of 𝓓 rate table t m message report ≡ table_of 𝓓 rate table (doubt_for 𝓓 table t m) message report
        unfolding table_below_of table_of
        below-as-table rate message report =
            ap₂ (λ (b : Bool) (list : List ℕ).
            cond (known rate)
            (cond (table_fits 𝓓 rate table message report)
            (cond b (decode_of 𝓓 rate (table_columns 𝓓 table) list message report) (refused_closing wrong_doubt message report))
            (refused_closing wrong_size message report))
            (refused_closing unknown_rate message report))
            (allowed m some few ∙ sym (le-leb (doubt_for 𝓓 table t m) most_doubt (omega (arith, doubt-for-most)))) below-picked

        -- ---- as a session

        module _ (rate : ℕ) (known : known rate ≡ true) (whole : length table ≡ table_length 𝓓) (message report : List ℕ) where
          pub below-as-session : (row : List Entry) → Delivered 𝓓 table row
              → table_below_of 𝓓 rate table t m message report
              ≡ close_of 𝓓 (record { rate = rate; doubtful = picked_below 𝓓 table t m; row = row }) message report
          below-as-session row all =
              below-as-table rate message report
              ∙ table-as-session 𝓓 rate table (doubt_for 𝓓 table t m) known whole (omega (arith, doubt-for-most)) row all message report
              ∙ ap (λ (list : List ℕ). close_of 𝓓 (record { rate = rate; doubtful = list; row = row }) message report) (sym below-picked)

          module _ (order : List ℕ) (apart : distinct order ≡ true) (in_range : below (places 𝓓) order ≡ true)
              (every_place : length order ≡ places 𝓓) where
            -- what the deliveries answer, after the opening
            abbrev pub delivered : Outcome
            delivered = deliver_row 𝓓 (open_of 𝓓 rate (picked_below 𝓓 table t m)).book (entries_of (table_columns 𝓓 table) order)

            pub below-in-order : ((open_of 𝓓 rate (picked_below 𝓓 table t m)).number ≡ accepted) × (delivered.number ≡ accepted)
                × (table_below_of 𝓓 rate table t m message report ≡ close_of 𝓓 delivered.book message report)
            below-in-order =
                let row = entries_of (table_columns 𝓓 table) order in
                let opens = below-opens few rate known in
                let accepts : delivered ≡ record { number = accepted; book = record { rate = rate; doubtful = picked_below 𝓓 table t m; row = row } }
                = ap (λ (o : Outcome). deliver_row 𝓓 o.book row) opens ∙ order-accepted 𝓓 table order apart in_range every_place rate (picked_below 𝓓 table t m) in (
                  ap (λ (o : Outcome). o.number) opens,
                  ap (λ (o : Outcome). o.number) accepts,
                  below-as-session row (order-delivered 𝓓 table order apart in_range every_place)
                      ∙ ap (λ (o : Outcome). close_of 𝓓 o.book message report) (sym accepts),
                )
