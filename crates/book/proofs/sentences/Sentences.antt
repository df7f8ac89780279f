-- Document 01's sentences about the book of a session, each a theorem of the book of every modem. (What it says of interpolant readings, captures and
-- lists of calls stands in ReadingSentences, Captured and CallLaws.)
--
--   opening_accepts, opening-only   opening accepts every known rate with every doubtful list, and nothing else
--   opening-never-blank  it never gives 12
--   tests-different      no two test words are equal, in every book that opening, deliveries and withdrawals lead to
--   near-found           a codeword that is near is found among those near some test word, by the T of the columns
--   closing-sizes        closing into a buffer of the wrong size is refused with 2, whatever the row
--   closing-early        into buffers of the right sizes it is early exactly when a place is missing
--   closing-too-blank    with none missing it gives 12 exactly when more places are blank than leave a T
--   closing-none-near    where T is the largest number with 2T + b < n − M − g (Reach), it says 'none near' exactly when no codeword is near
--   closing-answer       otherwise it gives the answer
--   closes               the four together (Closes)
--   closing-alike        books that agree close alike
--   margin-alike         and have the same margins: they do not depend on the order of arrival
--   deliver-kept, deliver-held   a refused delivery leaves the book as it was, and none changes its rate or its list
use Rattle.std.specs.Prelude.{Bool, ◌≡◌, ◌↔◌, ◌≢◌, ◌⊎◌, ℕ, ◌<◌, ◌≤◌, length}
use Rattle.std.proofs.Math.Bool.{true, false}
use Rattle.std.proofs.Math.Path.{refl, sym}
use Rattle.std.proofs.Common.{ap, ◌∙◌, subst, inl, inr, ⊎_elim, le→leb}
use mathlib.Core.List.{List}
use Rattle.std.proofs.Math.Option.{Option, none, some}
use Rattle.std.proofs.Math.Nat.{mul-le-mul_left}
use Rattle.std.proofs.Math.Decide.{dec_lt}
use native.Mathlib.Omega.{arith}
use Rattle.std.proofs.Math.Dec.{leb→le}
use Rattle.refusals.specs.Refusal.{accepted, wrong_size, place_missing, none_near, too_blank}
use Rattle.lists.specs.Count.{rising-steps}
use Rattle.lists.specs.Different.{Different, rising-different}
use Rattle.lists.specs.Member.{at-member}
use Rattle.lists.specs.Answers.{Answers, nobody, best, cheaper, earlier, NoWorse, Found}
use Rattle.lists.specs.Margin.{RunnerUp}
use Rattle.soft.specs.Blank.{open_at}
use Rattle.soft.specs.TestWordLaws.{test_words-different}
use Rattle.soft.specs.Total.{differing_in}
use Rattle.family.specs.Encoding.{encode_of}
use Rattle.near.specs.Near.{blank_limit, near_to, near, message_cost, answer_of}
use Rattle.near.specs.Reach.{Reach, reach_in, reach-only, reach-within}
use Rattle.near.specs.Laws.{near-member, member-near, near-answers}
use Rattle.near.specs.Runner.{margin-absent, margin-some}
use Rattle.book.specs.Model.{Model, places, width}
use Rattle.book.specs.Book.{Book, new_book, taken, some_missing, Outcome}
use Rattle.book.specs.opening.Opening.{fit_doubt, refused_opening, open_of}
use Rattle.book.specs.rows.Delivery.{with_entry, deliver_of}
use Rattle.book.specs.Columns.{columns_of, missing-alike, columns-alike, Agree}
use Rattle.book.specs.Entries.{Missing, missing-there, missing-none}
use Rattle.book.specs.closing.Closing.{report_length, Closed, refused_closing, margin_for, decode_of, closing_fits, close_of}
use Rattle.book.specs.closing.ClosingLaws.{Decoded, blank, far, found}
use Rattle.book.proofs.closing.ClosingLaws.{refused-number, fits_both, fits-of, close-size, close-missing, close-decoded, decode-cases, decode-none, decode-some, decode-blank-only}
use Rattle.book.specs.rows.RowLaws.{Proper, columns-wide, deliver-above, deliver-taken, deliver-accepted, open-accepted, open-refused-rate, open-refused-list}
use Rattle.book.specs.opening.OpeningLaws.{Known, DoubtfulList, list-fits, fits-list}
use Rattle.book.specs.sentences.Sentences.{tests_of, blanks_in, total_for, IsNear, Dearer, HasMargin, IsAnswer, Closes}

module _ (𝓓 : Model) where
  open 𝓓 use {member, known}

  -- ---- 'For every rate and every strictly rising list of up to 8 doubtful places, none above 63, opening accepts'; document 02: 'Demand 3 is read
  -- with lists of up to 12 places'

  pub opening_accepts : {rate : ℕ} {list : List ℕ} → Known 𝓓 rate → DoubtfulList 𝓓 list
      → open_of 𝓓 rate list ≡ record { number = accepted; book = new_book rate list }
  opening_accepts {rate} {list} r d = open-accepted 𝓓 rate list r (list-fits 𝓓 d)

  -- and nothing else
  pub opening-only : (rate : ℕ) (list : List ℕ) → (open_of 𝓓 rate list).number ≡ accepted → Known 𝓓 rate × DoubtfulList 𝓓 list
  unfolding refused_opening
  opening-only rate list n = go (known rate) refl (fit_doubt 𝓓 list) refl
    where
      go : (a : Bool) → known rate ≡ a → (b : Bool) → fit_doubt 𝓓 list ≡ b → (known rate ≡ true) × DoubtfulList 𝓓 list
      go false e b f = absurd (omega (arith, sym (ap (λ (o : Outcome). o.number) (open-refused-rate 𝓓 rate list e)) ∙ n))
      go true e false f = absurd (omega (arith, sym (ap (λ (o : Outcome). o.number) (open-refused-list 𝓓 rate list e f)) ∙ n))
      go true e true f = (e, fits-list 𝓓 list f)

  -- 12 is not an opening's number
  pub opening-never-blank : (rate : ℕ) (list : List ℕ) → (open_of 𝓓 rate list).number ≢ too_blank
  unfolding refused_opening
  opening-never-blank rate list n = go (known rate) refl (fit_doubt 𝓓 list) refl
    where
      go : (a : Bool) → known rate ≡ a → (b : Bool) → fit_doubt 𝓓 list ≡ b → ⊥
      go false e b f = omega (arith, sym (ap (λ (o : Outcome). o.number) (open-refused-rate 𝓓 rate list e)) ∙ n)
      go true e false f = omega (arith, sym (ap (λ (o : Outcome). o.number) (open-refused-list 𝓓 rate list e f)) ∙ n)
      go true e true f = omega (arith, sym (ap (λ (o : Outcome). o.number) (open-accepted 𝓓 rate list e f)) ∙ n)

  -- ---- closing

  -- different doubtful places make different test words
  pub tests-different : {book : Book} → Proper 𝓓 book → Different (tests_of 𝓓 book)
  unfolding tests_of
  tests-different {book} proper =
      let d = fits-list 𝓓 book.doubtful proper.list_fit in
      test_words-different (places 𝓓) (columns_of 𝓓 book.row) (rising-different book.doubtful (rising-steps book.doubtful d.rises))
      (λ p m. let s = at-member 0 m in omega (arith, d.in_range s.0 s.1, s.2))
      (λ p m. omega (arith, columns-wide 𝓓 book.row proper.all_wide p, member.square, mul-le-mul_left member.w member.wide))

  -- T by the row's columns, and what is near some test word of the book
  abbrev reach_for : Book → ℕ
  reach_for book = reach_in member book.rate (columns_of 𝓓 book.row)

  abbrev near_in : Book → List ℕ → Bool
  near_in book = near member (open_at (columns_of 𝓓 book.row)) (reach_for book) book.rate (tests_of 𝓓 book)

  abbrev answer_in : Book → Option (List ℕ)
  answer_in book = answer_of member (open_at (columns_of 𝓓 book.row)) (reach_for book) book.rate (columns_of 𝓓 book.row) (tests_of 𝓓 book)

  module _ (book : Book) {T : ℕ} (reach : Reach member book.rate (blanks_in 𝓓 book) T) where
    pub near-found : {m : List ℕ} → IsNear 𝓓 book T m → Found (width 𝓓) book.rate (near_in book) m
    unfolding near_to
    near-found {m} n =
        record {
          word = n.word;
          passed =
              member-near member (open_at (columns_of 𝓓 book.row)) (reach_for book) book.rate (tests_of 𝓓 book) n.test m n.tested
              (le→leb (differing_in (open_at (columns_of 𝓓 book.row)) (places 𝓓) (encode_of member book.rate m) n.test) (reach_for book)
              (omega (arith, n.few, reach-only member reach)));
        }

    found-near : {m : List ℕ} → Found (width 𝓓) book.rate (near_in book) m → IsNear 𝓓 book T m
    unfolding near_to
    found-near {m} f =
        let r = near-member member (open_at (columns_of 𝓓 book.row)) (reach_for book) book.rate (tests_of 𝓓 book) m f.passed in
        record {
          word = f.word;
          test = r.0;
          tested = r.1;
          few =
              omega (
                arith,
                leb→le (differing_in (open_at (columns_of 𝓓 book.row)) (places 𝓓) (encode_of member book.rate m) r.0) (reach_for book) r.2,
                reach-only member reach,
              );
        }

  module _ (book : Book) (message report : List ℕ) where
    pub closing-sizes : (length message ≢ book.rate) ⊎ (length report ≢ (report_length 𝓓))
        → close_of 𝓓 book message report ≡ record { number = wrong_size; message = message; report = report }
    unfolding refused_closing
    closing-sizes w = close-size 𝓓 book message report (go (closing_fits 𝓓 book message report) refl)
      where
        go : (b : Bool) → closing_fits 𝓓 book message report ≡ b → closing_fits 𝓓 book message report ≡ false
        go true e = let f = fits_both 𝓓 book message report e in absurd (⊎_elim (λ n. n f.0) (λ n. n f.1) w)
        go false e = e

    module _ (long : length message ≡ book.rate) (whole_report : length report ≡ report_length 𝓓) where
      fits : closing_fits 𝓓 book message report ≡ true
      fits = fits-of 𝓓 book message report long whole_report

      close : some_missing 𝓓 book.row ≡ false
          → close_of 𝓓 book message report ≡ decode_of 𝓓 book.rate (columns_of 𝓓 book.row) book.doubtful message report
      close e = close-decoded 𝓓 book message report fits e

      -- with none missing it ends as decoding does
      ends : some_missing 𝓓 book.row ≡ false
          → Decoded 𝓓 book.rate (columns_of 𝓓 book.row) book.doubtful message report (close_of 𝓓 book message report)
      ends e =
          subst (Decoded 𝓓 book.rate (columns_of 𝓓 book.row) book.doubtful message report) (sym (close e))
          (decode-cases 𝓓 book.rate (columns_of 𝓓 book.row) book.doubtful message report)

      refused-with : (n : ℕ) → close_of 𝓓 book message report ≡ refused_closing n message report → (close_of 𝓓 book message report).number ≡ n
      refused-with n q = ap (λ (c : Closed). c.number) q ∙ refused-number n message report

      none_number : some_missing 𝓓 book.row ≡ false → (close_of 𝓓 book message report).number ≢ place_missing
      none_number e n = go (ends e)
        where
          go : Decoded 𝓓 book.rate (columns_of 𝓓 book.row) book.doubtful message report (close_of 𝓓 book message report) → ⊥
          go (blank h q) = omega (arith, refused-with too_blank q, n)
          go (far few a q) = omega (arith, refused-with none_near q, n)
          go (found few a word q) = omega (arith, ap (λ (c : Closed). c.number) q, n)

      pub closing-early : ((close_of 𝓓 book message report).number ≡ place_missing) ↔ ((p : ℕ) × Missing 𝓓 book.row p)
      closing-early = go (some_missing 𝓓 book.row) refl
        where
          go : (b : Bool) → some_missing 𝓓 book.row ≡ b → ((close_of 𝓓 book message report).number ≡ place_missing) ↔ ((p : ℕ) × Missing 𝓓 book.row p)
          go true e = (
            λ n. missing-there 𝓓 book.row e,
            λ m. ap (λ (c : Closed). c.number) (close-missing 𝓓 book message report fits e) ∙ refused-number place_missing message report,
          )
          go false e = (λ n. absurd (none_number e n), λ m. absurd (missing-none 𝓓 book.row e m.0 m.1))

      module _ (full : (p : ℕ) → Missing 𝓓 book.row p → ⊥) where
        all-taken : some_missing 𝓓 book.row ≡ false
        all-taken = go (some_missing 𝓓 book.row) refl
          where
            go : (b : Bool) → some_missing 𝓓 book.row ≡ b → some_missing 𝓓 book.row ≡ false
            go true e = let m = missing-there 𝓓 book.row e in absurd (full m.0 m.1)
            go false e = e

        pub closing-too-blank : ((close_of 𝓓 book message report).number ≡ too_blank) ↔ (blank_limit member book.rate < blanks_in 𝓓 book)
        closing-too-blank =
            subst (λ (c : Closed). (c.number ≡ too_blank) ↔ (blank_limit member book.rate < blanks_in 𝓓 book)) (sym (close all-taken))
            (decode-blank-only 𝓓 book.rate (columns_of 𝓓 book.row) book.doubtful message report)

        module _ {T : ℕ} (reach : Reach member book.rate (blanks_in 𝓓 book) T) where
          -- what decoding answers, whether or not a codeword is near
          decoded : (((close_of 𝓓 book message report).number ≡ none_near) × ((m : List ℕ) → IsNear 𝓓 book T m → ⊥))
              ⊎ IsAnswer 𝓓 book T (close_of 𝓓 book message report)
          unfolding tests_of total_for message_cost
          decoded =
              go (answer_in book) refl
              (near-answers member (open_at (columns_of 𝓓 book.row)) (reach_for book) book.rate (columns_of 𝓓 book.row) (tests_of 𝓓 book))
            where
              few : blanks_in 𝓓 book ≤ blank_limit member book.rate
              few = reach-within member reach

              dearer : {m n : List ℕ} → NoWorse (message_cost member book.rate (columns_of 𝓓 book.row)) m n → n ≢ m → Dearer 𝓓 book m n
              dearer (inl q) d = absurd (d q)
              dearer (inr (cheaper l)) d = inl l
              dearer (inr (earlier q l)) d = inr (q, l)

              absent : (m : List ℕ)
                  → (margin_for 𝓓 book.rate (columns_of 𝓓 book.row) book.doubtful m ≡ none) ↔ ((n : List ℕ) → IsNear 𝓓 book T n → n ≡ m)
              absent m =
                  let a =
                  margin-absent member (open_at (columns_of 𝓓 book.row)) (reach_for book) book.rate (columns_of 𝓓 book.row) (tests_of 𝓓 book) m in
                  (λ e n i. a.0 e n (near-found book reach i), λ h. a.1 (λ n g. h n (found-near book reach g)))

              present : {m : List ℕ} → answer_in book ≡ some m → (d : ℕ)
                  → (margin_for 𝓓 book.rate (columns_of 𝓓 book.row) book.doubtful m ≡ some d) ↔ HasMargin 𝓓 book T m d
              present {m} q d =
                  let a =
                  margin-some member (open_at (columns_of 𝓓 book.row)) (reach_for book) book.rate (columns_of 𝓓 book.row) (tests_of 𝓓 book) q d in
                  (λ e. held (a.0 e), λ h. a.1 (runner-up h))
                where
                  held : RunnerUp (message_cost member book.rate (columns_of 𝓓 book.row)) (Found (width 𝓓) book.rate (near_in book)) m d
                      → HasMargin 𝓓 book T m d
                  held r =
                      record {
                        rival = r.rival;
                        near = found-near book reach r.passes;
                        other = r.other;
                        least = λ n i ne. r.least n (near-found book reach i) ne;
                        margin = r.margin;
                      }

                  runner-up : HasMargin 𝓓 book T m d
                      → RunnerUp (message_cost member book.rate (columns_of 𝓓 book.row)) (Found (width 𝓓) book.rate (near_in book)) m d
                  runner-up h =
                      record {
                        rival = h.rival;
                        passes = near-found book reach h.near;
                        other = h.other;
                        least = λ n g ne. h.least n (found-near book reach g) ne;
                        margin = h.margin;
                      }

              go : (o : Option (List ℕ)) → answer_in book ≡ o
                  → Answers (message_cost member book.rate (columns_of 𝓓 book.row)) (Found (width 𝓓) book.rate (near_in book)) o
                  → (((close_of 𝓓 book message report).number ≡ none_near) × ((m : List ℕ) → IsNear 𝓓 book T m → ⊥))
                  ⊎ IsAnswer 𝓓 book T (close_of 𝓓 book message report)
              go none q (nobody f) =
                  inl (
                    ap (λ (c : Closed). c.number)
                        (close all-taken ∙ decode-none 𝓓 book.rate (columns_of 𝓓 book.row) book.doubtful message report few q)
                        ∙ refused-number none_near message report,
                    λ m n. f m (near-found book reach n),
                  )
              go (some m) q (best p f) =
                  inr
                  (subst (IsAnswer 𝓓 book T)
                  (sym (close all-taken ∙ decode-some 𝓓 book.rate (columns_of 𝓓 book.row) book.doubtful message report few q))
                  (record {
                    number = refl;
                    near = found-near book reach p;
                    others = λ n i d. dearer (f n (near-found book reach i)) d;
                    margin = margin_for 𝓓 book.rate (columns_of 𝓓 book.row) book.doubtful m;
                    absent = absent m;
                    present = present q;
                    margin_there = refl;
                    report = refl;
                  }))

          pub closing-none-near : ((close_of 𝓓 book message report).number ≡ none_near) ↔ ((m : List ℕ) → IsNear 𝓓 book T m → ⊥)
          closing-none-near = (
            λ n. ⊎_elim (λ r. r.1) (λ r. absurd (omega (arith, r.number, n))) decoded,
            λ f. ⊎_elim (λ r. r.0) (λ r. absurd (f (close_of 𝓓 book message report).message r.near)) decoded,
          )

          pub closing-answer : (close_of 𝓓 book message report).number ≢ none_near → IsAnswer 𝓓 book T (close_of 𝓓 book message report)
          closing-answer n = ⊎_elim (λ r. absurd (n r.0)) (λ r. r) decoded

  pub closes : {book : Book} (message report : List ℕ) → length message ≡ book.rate → length report ≡ report_length 𝓓
      → Closes 𝓓 book (close_of 𝓓 book message report)
  closes {book} message report long whole_report =
      record {
        early = closing-early book message report long whole_report;
        too-blank = closing-too-blank book message report long whole_report;
        none-near = λ full reach. closing-none-near book message report long whole_report full reach;
        otherwise = λ full reach. closing-answer book message report long whole_report full reach;
      }

  -- ---- 'Two sessions … that agree in rate, doubtful list, places taken and the columns held for these read and close alike.'

  module _ {a b : Book} (same : Agree a b) where
    pub closing-alike : (message report : List ℕ) → close_of 𝓓 a message report ≡ close_of 𝓓 b message report
    unfolding close_of closing_fits
    closing-alike message report =
        let m : some_missing 𝓓 a.row ≡ some_missing 𝓓 b.row = missing-alike 𝓓 a.row b.row same.same_columns in
        let c : columns_of 𝓓 a.row ≡ columns_of 𝓓 b.row = columns-alike 𝓓 a.row b.row same.same_columns in
        cc (m, c, same.same_rate, same.same_list)

    pub margin-alike : (m : List ℕ)
        → margin_for 𝓓 a.rate (columns_of 𝓓 a.row) a.doubtful m ≡ margin_for 𝓓 b.rate (columns_of 𝓓 b.row) b.doubtful m
    margin-alike m =
        ap (λ k. margin_for 𝓓 k (columns_of 𝓓 a.row) a.doubtful m) same.same_rate
        ∙ ap (λ c. margin_for 𝓓 b.rate c a.doubtful m) (columns-alike 𝓓 a.row b.row same.same_columns)
        ∙ ap (λ l. margin_for 𝓓 b.rate (columns_of 𝓓 b.row) l m) same.same_list

  -- ---- a refused delivery leaves the book as it was

  module _ (book : Book) where
    pub deliver-kept : (p : ℕ) (column : List ℕ) → (deliver_of 𝓓 book p column).number ≢ accepted → (deliver_of 𝓓 book p column).book ≡ book
    deliver-kept p column n = go (dec_lt p (places 𝓓)) (taken book.row p) refl
      where
        go : Dec (p < places 𝓓) → (b : Bool) → taken book.row p ≡ b → (deliver_of 𝓓 book p column).book ≡ book
        go (yes h) true e = ap (λ (o : Outcome). o.book) (deliver-taken 𝓓 book p column h e)
        go (yes h) false e = absurd (n (ap (λ (o : Outcome). o.number) (deliver-accepted 𝓓 book p column h e)))
        go (no h) b e = ap (λ (o : Outcome). o.book) (deliver-above 𝓓 book p column (omega arith))

  -- ---- 'It holds the rate and doubtful list given at opening'

  pub deliver-held : (book : Book) (p : ℕ) (column : List ℕ)
      → ((deliver_of 𝓓 book p column).book.rate ≡ book.rate) × ((deliver_of 𝓓 book p column).book.doubtful ≡ book.doubtful)
  unfolding with_entry
  deliver-held book p column = go (dec_lt p (places 𝓓)) (taken book.row p) refl
    where
      Held : Book → Type 0
      Held b = (b.rate ≡ book.rate) × (b.doubtful ≡ book.doubtful)

      go : Dec (p < places 𝓓) → (t : Bool) → taken book.row p ≡ t → Held (deliver_of 𝓓 book p column).book
      go (yes h) true e = rw (deliver-taken 𝓓 book p column h e) (refl, refl)
      go (yes h) false e = rw (deliver-accepted 𝓓 book p column h e) (refl, refl)
      go (no h) t e = rw (deliver-above 𝓓 book p column (omega arith)) (refl, refl)
