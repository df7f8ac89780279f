-- The report's fourteen bytes, high byte first: total (4), test words with a codeword within T (2), pinned places (1), changed places (1), 1 or 0 for a
-- margin that is present or absent (1), margin (4), zero where absent, 1 or 0 for a mark (1). In every modem, with as many bytes for each count of places as it
-- has.
--
--   margin-byte            the report's byte for that, of any columns
--   reads-back             numbers that fit their bytes are read off the report that is made of them
--   test-words-few, test-count-fits   with no more doubtful places than the largest doubt there are at most 2 to the power of it test words, and the number
--                          of those with a codeword within T fits its two bytes
--   report-shows           so does the report of every message, if the columns' costs are 0 to 65535 and no more places are doubtful than the largest doubt
--   closing-shows          so an accepted closing shows the numbers of the message that it gives: of a book with such a row
--   table-shows            and so does table decoding
use Rattle.std.specs.Prelude.{true, ◌≡◌, refl, ℕ, zero, suc, ◌+◌, ◌*◌, ◌/◌, ◌%◌, ◌^◌, ◌<◌, ◌≤◌, length, get_or}
use Rattle.std.proofs.Math.Path.{sym, ap}
use Rattle.std.proofs.Common.{◌∙◌, subst, arith, pow_mono}
use mathlib.Core.List.{List, [], ◌∷◌, ◌++◌, append_assoc, append-nil}
use Rattle.std.proofs.Math.Option.{Option, none, some}
use Rattle.std.proofs.Math.ListN.{length-append}
use Rattle.std.proofs.lemmas.List.{get_or_at}
use Rattle.refusals.specs.Refusal.{accepted}
use Rattle.lists.specs.Count.{bit, bit_le}
use Rattle.lists.specs.Distinct.{below, below-nil, below_one, below-append, and_both}
use Rattle.soft.specs.Total.{symbol_at, total_of, pinned_of, changed_of, bytes_of, margin_bytes, report_of}
use Rattle.soft.specs.TotalLaws.{total-bound, pinned-le, changed-le, bytes_of-length, report_of-length}
use Rattle.soft.specs.Column.{ceiling}
use Rattle.soft.specs.Blank.{open_at, unblanked}
use Rattle.soft.specs.BlankLaws.{unblanked-length}
use Rattle.soft.specs.TestWord.{test_words}
use Rattle.soft.specs.TestWordLaws.{test_words-count}
use Rattle.family.specs.Encoding.{encode_of}
use Rattle.near.specs.Near.{message_cost}
use Rattle.near.specs.Reach.{reach_in}
use Rattle.near.specs.Laws.{tests-le}
use Rattle.near.specs.Runner.{margin-le}
use Rattle.near.specs.Cheapest.{marked_of}
use Rattle.book.specs.Model.{Model, places}
use Rattle.book.specs.Book.{Book}
use Rattle.book.specs.Columns.{columns_of}
use Rattle.book.specs.closing.Closing.{Closed, tests_for, margin_for, report_for, close_of}
use Rattle.book.proofs.closing.ClosingLaws.{decode-report, close-report}
use Rattle.book.specs.tables.Table.{table_columns, picked_of, table_of}
use Rattle.book.proofs.tables.Table.{picked-most, table-accepted}
use Rattle.book.specs.rows.Costs.{AreColumns, column-cost, RowColumns, row-columns, table-costs}
use Rattle.book.specs.closing.Report.{number_in, runner_of, amount_of, runner_in, Shows, ShowsFor, Reported, ReportedIn}

pub number-byte : (i : ℕ) (bytes : List ℕ) → number_in 1 i bytes ≡ get_or bytes i 0
unfolding number_in
number-byte i bytes = let e : i + 0 ≡ i = omega arith in omega (arith, ap (λ k. get_or bytes k 0) e)

-- a number that was put there
number-there : (n i v : ℕ) (before after : List ℕ) → length before ≡ i → v < 256 ^ n → number_in n i (before ++ (bytes_of n v ++ after)) ≡ v
unfolding number_in bytes_of
number-there zero i v before after l h = omega arith
number-there (suc n) i v before after l h =
    let whole : before ++ ((bytes_of n (v / 256) ++ (v % 256 ∷ [])) ++ after) ≡ before ++ (bytes_of n (v / 256) ++ (v % 256 ∷ after)) =
    ap (λ r. before ++ r) (append_assoc (bytes_of n (v / 256)) (v % 256 ∷ []) after) in
    let up : number_in n i (before ++ ((bytes_of n (v / 256) ++ (v % 256 ∷ [])) ++ after)) ≡ v / 256 =
    ap (number_in n i) whole ∙ number-there n i (v / 256) before (v % 256 ∷ after) l (omega (arith, h)) in
    let last : get_or (before ++ ((bytes_of n (v / 256) ++ (v % 256 ∷ [])) ++ after)) (i + n) 0 ≡ v % 256 =
    ap (λ r. get_or r (i + n) 0) (whole ∙ sym (append_assoc before (bytes_of n (v / 256)) (v % 256 ∷ after)))
    ∙ get_or_at (before ++ bytes_of n (v / 256)) (v % 256) after 0 (i + n)
    (omega (arith, length-append before (bytes_of n (v / 256)), bytes_of-length n (v / 256))) in
    omega (arith, up, last)

both_below : (a b : List ℕ) → below 256 a ≡ true → below 256 b ≡ true → below 256 (a ++ b) ≡ true
both_below a b e f = below-append 256 a b ∙ and_both (below 256 a) (below 256 b) e f

bytes_below : (n v : ℕ) → below 256 (bytes_of n v) ≡ true
unfolding bytes_of
bytes_below zero v = below-nil 256
bytes_below (suc n) v = both_below (bytes_of n (v / 256)) (v % 256 ∷ []) (bytes_below n (v / 256)) (below_one 256 (v % 256) (omega arith))

-- ---- a margin as two numbers

pub runner-none : runner_of none ≡ 0
unfolding runner_of
runner-none = refl

runner-small : (margin : Option ℕ) → runner_of margin < 256 ^ 1
unfolding runner_of
runner-small none = omega arith
runner-small (some d) = omega arith

amount-le : (margin : Option ℕ) {b : ℕ} → ((d : ℕ) → margin ≡ some d → d ≤ b) → amount_of margin ≤ b
unfolding amount_of
amount-le none h = omega arith
amount-le (some d) h = h d refl

margin-parts : (margin : Option ℕ) → margin_bytes margin ≡ bytes_of 1 (runner_of margin) ++ bytes_of 4 (amount_of margin)
unfolding margin_bytes runner_of amount_of
margin-parts none = refl
margin-parts (some d) = refl

module _ (𝓓 : Model) where
  open 𝓓 use {member, most_doubt, wide, counts_fit, totals_fit, tests_fit}

  -- ---- numbers that fit their bytes

  module _ (total tests pinned changed : ℕ) (margin : Option ℕ) (mark : ℕ) where
    whole : List ℕ
    whole = report_of wide total tests pinned changed margin mark

    -- the last byte
    last : List ℕ
    last = bytes_of 1 mark

    -- the bytes before each count of places, and those before the margin
    front : List ℕ
    front = bytes_of 4 total ++ bytes_of 2 tests

    counts : List ℕ
    counts = (front ++ bytes_of wide pinned) ++ bytes_of wide changed

    front_length : length front ≡ 6
    unfolding front
    front_length = omega (arith, length-append (bytes_of 4 total) (bytes_of 2 tests), bytes_of-length 4 total, bytes_of-length 2 tests)

    pinned-length : length (front ++ bytes_of wide pinned) ≡ 6 + wide
    pinned-length = omega (arith, length-append front (bytes_of wide pinned), front_length, bytes_of-length wide pinned)

    counts-length : length counts ≡ 6 + wide + wide
    unfolding counts
    counts-length =
        omega (arith, length-append (front ++ bytes_of wide pinned) (bytes_of wide changed), pinned-length, bytes_of-length wide changed)

    runner-length : length (counts ++ bytes_of 1 (runner_of margin)) ≡ 7 + wide + wide
    runner-length = omega (arith, length-append counts (bytes_of 1 (runner_of margin)), counts-length, bytes_of-length 1 (runner_of margin))

    from-pinned : whole ≡ front ++ (bytes_of wide pinned ++ (bytes_of wide changed ++ (margin_bytes margin ++ last)))
    unfolding whole front last report_of
    from-pinned = sym (append_assoc (bytes_of 4 total) (bytes_of 2 tests) (bytes_of wide pinned ++ (bytes_of wide changed ++ (margin_bytes margin ++ last))))

    from-changed : whole ≡ (front ++ bytes_of wide pinned) ++ (bytes_of wide changed ++ (margin_bytes margin ++ last))
    from-changed = from-pinned ∙ sym (append_assoc front (bytes_of wide pinned) (bytes_of wide changed ++ (margin_bytes margin ++ last)))

    from-runner : whole ≡ counts ++ (bytes_of 1 (runner_of margin) ++ (bytes_of 4 (amount_of margin) ++ last))
    unfolding counts
    from-runner =
        from-changed ∙ sym (append_assoc (front ++ bytes_of wide pinned) (bytes_of wide changed) (margin_bytes margin ++ last))
        ∙ ap (λ l. counts ++ (l ++ last)) (margin-parts margin)
        ∙ ap (λ l. counts ++ l) (append_assoc (bytes_of 1 (runner_of margin)) (bytes_of 4 (amount_of margin)) last)

    from-margin : whole ≡ (counts ++ bytes_of 1 (runner_of margin)) ++ (bytes_of 4 (amount_of margin) ++ last)
    from-margin = from-runner ∙ sym (append_assoc counts (bytes_of 1 (runner_of margin)) (bytes_of 4 (amount_of margin) ++ last))

    before : List ℕ
    before = (counts ++ bytes_of 1 (runner_of margin)) ++ bytes_of 4 (amount_of margin)

    before-length : length before ≡ 11 + wide + wide
    unfolding before
    before-length =
        omega (arith, length-append (counts ++ bytes_of 1 (runner_of margin)) (bytes_of 4 (amount_of margin)), runner-length, bytes_of-length 4 (amount_of margin))

    from_last : whole ≡ before ++ (bytes_of 1 mark ++ [])
    unfolding before last
    from_last =
        from-margin ∙ sym (append_assoc (counts ++ bytes_of 1 (runner_of margin)) (bytes_of 4 (amount_of margin)) (bytes_of 1 mark))
        ∙ ap (λ l. before ++ l) (sym (append-nil (bytes_of 1 mark)))

    report-below : below 256 whole ≡ true
    unfolding whole report_of
    report-below =
        both_below (bytes_of 4 total) _ (bytes_below 4 total)
        (both_below (bytes_of 2 tests) _ (bytes_below 2 tests)
        (both_below (bytes_of wide pinned) _ (bytes_below wide pinned)
        (both_below (bytes_of wide changed) _ (bytes_below wide changed)
        (both_below (margin_bytes margin) _
        (ap (below 256) (margin-parts margin)
        ∙ both_below (bytes_of 1 (runner_of margin)) _ (bytes_below 1 (runner_of margin)) (bytes_below 4 (amount_of margin)))
        (bytes_below 1 mark)))))

    runner-read : runner_in 𝓓 whole ≡ runner_of margin
    runner-read =
        ap (number_in 1 (6 + wide + wide)) from-runner ∙ number-there 1 (6 + wide + wide) (runner_of margin) counts _ counts-length (runner-small margin)

    pub reads-back : total < 256 ^ 4 → tests < 256 ^ 2 → pinned < 256 ^ wide → changed < 256 ^ wide → amount_of margin < 256 ^ 4
        → mark < 256 ^ 1 → Shows 𝓓 (report_of wide total tests pinned changed margin mark) total tests pinned changed margin mark
    unfolding whole report_of bytes_of
    reads-back a b c d e f =
        let a' : total < 4294967296 = a in
        let b' : tests < 65536 = b in
        record {
          size = report_of-length wide total tests pinned changed margin mark;
          bytes = report-below;
          total_there = omega arith;
          tests_there = omega arith;
          pinned_there = ap (number_in wide 6) from-pinned ∙ number-there wide 6 pinned front _ front_length c;
          changed_there = ap (number_in wide (6 + wide)) from-changed ∙ number-there wide (6 + wide) changed (front ++ bytes_of wide pinned) _ pinned-length d;
          runner_there = runner-read;
          margin_there =
              ap (number_in 4 (7 + wide + wide)) from-margin
              ∙ number-there 4 (7 + wide + wide) (amount_of margin) (counts ++ bytes_of 1 (runner_of margin)) last runner-length e;
          mark_there = ap (number_in 1 (11 + wide + wide)) from_last ∙ number-there 1 (11 + wide + wide) mark before [] before-length f;
        }

  -- ---- the test words: document 02's 'up to 4,096 test words, and the test count still fits its two bytes'

  module _ (columns : ℕ → List ℕ) (doubtful : List ℕ) (few : length doubtful ≤ most_doubt) where
    pub test-words-few : length (test_words (places 𝓓) columns doubtful) ≤ 2 ^ most_doubt
    test-words-few =
        let b : 2 ^ length (unblanked (open_at columns) doubtful) ≤ 2 ^ most_doubt = pow_mono (omega (arith, few, unblanked-length (open_at columns) doubtful)) in
        omega (arith, test_words-count (places 𝓓) columns doubtful)

    pub test-count-fits : (k : ℕ) → (tests_for 𝓓 k columns doubtful ≤ 2 ^ most_doubt) × (tests_for 𝓓 k columns doubtful < 256 ^ 2)
    test-count-fits k =
        let l = tests-le member (open_at columns) (reach_in member k columns) k (test_words (places 𝓓) columns doubtful) in
        (omega (arith, l, test-words-few), omega (arith, l, test-words-few, tests_fit))

  -- ---- the report of a message

  -- whether there is a margin, of all columns
  pub margin-byte : (k : ℕ) (columns : ℕ → List ℕ) (doubtful m : List ℕ)
      → runner_in 𝓓 (report_for 𝓓 k columns doubtful m) ≡ runner_of (margin_for 𝓓 k columns doubtful m)
  unfolding report_for whole
  margin-byte k columns doubtful m =
      runner-read (total_of (places 𝓓) columns (encode_of member k m)) (tests_for 𝓓 k columns doubtful) (pinned_of (places 𝓓) columns (encode_of member k m))
      (changed_of (places 𝓓) columns (encode_of member k m)) (margin_for 𝓓 k columns doubtful m) (bit (marked_of member k columns m))

  pub report-shows : {columns : ℕ → List ℕ} → AreColumns 𝓓 columns → (k : ℕ) (doubtful m : List ℕ) → length doubtful ≤ most_doubt
      → ShowsFor 𝓓 k columns doubtful m (report_for 𝓓 k columns doubtful m)
  unfolding report_for message_cost
  report-shows {columns} c k doubtful m few =
      let word = encode_of member k m in
      let a : (n : List ℕ) → total_of (places 𝓓) columns (encode_of member k n) ≤ places 𝓓 * ceiling =
      λ n. total-bound columns (encode_of member k n) (places 𝓓) ceiling (λ p h. column-cost 𝓓 (c.at p h) (symbol_at (encode_of member k n) p)) in
      let e : amount_of (margin_for 𝓓 k columns doubtful m) ≤ places 𝓓 * ceiling =
      amount-le (margin_for 𝓓 k columns doubtful m)
      (λ d q. margin-le member (open_at columns) (reach_in member k columns) k columns (test_words (places 𝓓) columns doubtful) a m q) in
      reads-back (total_of (places 𝓓) columns word) (tests_for 𝓓 k columns doubtful) (pinned_of (places 𝓓) columns word)
      (changed_of (places 𝓓) columns word) (margin_for 𝓓 k columns doubtful m) (bit (marked_of member k columns m)) (omega (arith, totals_fit, a m))
      (test-count-fits columns doubtful few k).1
      (omega (arith, counts_fit, pinned-le columns word (places 𝓓))) (omega (arith, counts_fit, changed-le columns word (places 𝓓)))
      (omega (arith, totals_fit, e)) (omega (arith, bit_le (marked_of member k columns m)))

  -- ---- closing

  pub closing-shows : (book : Book) (message report : List ℕ) → RowColumns 𝓓 book.row → length book.doubtful ≤ most_doubt
      → (close_of 𝓓 book message report).number ≡ accepted → ReportedIn 𝓓 book (close_of 𝓓 book message report)
  closing-shows book message report all few n =
      subst (ShowsFor 𝓓 book.rate (columns_of 𝓓 book.row) book.doubtful (close_of 𝓓 book message report).message)
      (sym (close-report 𝓓 book message report n))
      (report-shows (row-columns 𝓓 book.row all) book.rate book.doubtful (close_of 𝓓 book message report).message few)

  -- ---- table decoding

  pub table-shows : (rate : ℕ) (table : List ℕ) (doubt : ℕ) (message report : List ℕ) → below 256 table ≡ true
      → (table_of 𝓓 rate table doubt message report).number ≡ accepted
      → Reported 𝓓 rate (table_columns 𝓓 table) (picked_of 𝓓 table doubt) (table_of 𝓓 rate table doubt message report)
  table-shows rate table doubt message report b n =
      let t = table-accepted 𝓓 rate table doubt message report n in
      let few : length (picked_of 𝓓 table doubt) ≤ most_doubt = omega (arith, t.0, picked-most 𝓓 table doubt) in
      subst (Reported 𝓓 rate (table_columns 𝓓 table) (picked_of 𝓓 table doubt)) (sym t.1)
      (subst (ShowsFor 𝓓 rate (table_columns 𝓓 table) (picked_of 𝓓 table doubt) _)
      (sym
      (decode-report 𝓓 rate (table_columns 𝓓 table) (picked_of 𝓓 table doubt) message report (sym (ap (λ (c : Closed). c.number) t.1) ∙ n)))
      (report-shows (table-costs 𝓓 table b) rate (picked_of 𝓓 table doubt) _ few))
