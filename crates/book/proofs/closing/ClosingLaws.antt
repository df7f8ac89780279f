-- Closing, case by case.
--
--   fits_both, fits-of   the size check passes exactly if the message buffer has k bytes and the report its length
--   close-size, close-missing, close-decoded   the three cases of closing
--   decode-too-blank, decode-none, decode-some   the three cases of decoding; Decoded, decode-cases: it is one of them
--   decode-blank-only    it gives 12 exactly where more places are blank than leave a T
--   refused-number, not-refused   the number of a refused call; a call that is accepted was not refused
--   decode-report, close-report   an accepted call gives the report of the message that it gives
--   decode-kept, close-kept   a refused call leaves its buffers as they were (Kept)
--   decode-sized, close-sized   no call changes a buffer's length (Sized)
use Rattle.std.specs.Prelude.{Bool, true, false, ◌≡◌, refl, List, ◌↔◌, ℕ, ◌<◌, ◌≤◌, length}
use Rattle.std.proofs.Common.{sym, ap, ◌∙◌, arith}
use Rattle.std.proofs.Math.Option.{Option, none, some}
use Rattle.std.proofs.Math.Decide.{dec_le}
use Rattle.std.proofs.Math.Dec.{eqb}
use borrow.Author.Tests.{eqb-true, eq-eqb, le-leb, lt-leb}
use Rattle.lists.specs.Distinct.{and_left, and_right, and_both}
use Rattle.refusals.specs.Refusal.{accepted, wrong_size, place_missing, none_near, too_blank}
use Rattle.lists.specs.Answers.{Answers, answers-some, Found}
use Rattle.soft.specs.Blank.{open_at, blanks_of}
use Rattle.soft.specs.TestWord.{test_words}
use Rattle.soft.specs.TotalLaws.{report_of-length}
use Rattle.near.specs.Near.{blank_limit, near, message_cost}
use Rattle.near.specs.Reach.{reach_in}
use Rattle.near.specs.Laws.{near-answers}
use Rattle.book.specs.Model.{Model, places, width}
use Rattle.book.specs.Book.{Book, some_missing}
use Rattle.book.specs.Columns.{columns_of}
use Rattle.book.specs.closing.Closing.{report_length, Closed, refused_closing, answer_for, report_for, answered, decode_of, closing_fits, close_of}
use Rattle.book.specs.closing.ClosingLaws.{Kept, Sized, Decoded, blank, far, found}

pub refused-number : (n : ℕ) (message report : List ℕ) → (refused_closing n message report).number ≡ n
unfolding refused_closing
refused-number n message report = refl

pub not-refused : {c : Closed} (message report : List ℕ) → c.number ≡ accepted → (r : ℕ) → c ≡ refused_closing r message report → r ≡ accepted
not-refused message report n r e = sym (refused-number r message report) ∙ sym (ap (λ (c : Closed). c.number) e) ∙ n

pub refused_kept : (n : ℕ) (message report : List ℕ) → Kept message report (refused_closing n message report)
unfolding refused_closing
refused_kept n message report = record { message_kept = refl; report_kept = refl }

pub refused-sized : (n : ℕ) (message report : List ℕ) → Sized message report (refused_closing n message report)
unfolding refused_closing
refused-sized n message report = record { message_sized = refl; report_sized = refl }

module _ (𝓓 : Model) where
  open 𝓓 use {member, wide}

  pub report-length : (k : ℕ) (columns : ℕ → List ℕ) (doubtful m : List ℕ) → length (report_for 𝓓 k columns doubtful m) ≡ report_length 𝓓
  unfolding report_for
  report-length k columns doubtful m = report_of-length wide _ _ _ _ _ _

  module _ (k : ℕ) (columns : ℕ → List ℕ) (doubtful message report : List ℕ) where
    pub decode-too-blank : blank_limit member k < blanks_of (places 𝓓) columns
        → decode_of 𝓓 k columns doubtful message report ≡ refused_closing too_blank message report
    unfolding decode_of
    decode-too-blank h = rw (lt-leb (blanks_of (places 𝓓) columns) (blank_limit member k) h)

    module _ (few : blanks_of (places 𝓓) columns ≤ blank_limit member k) where
      pub decode-none : answer_for 𝓓 k columns doubtful ≡ none
          → decode_of 𝓓 k columns doubtful message report ≡ refused_closing none_near message report
      unfolding decode_of answered
      decode-none e = rw (le-leb (blanks_of (places 𝓓) columns) (blank_limit member k) few, e)

      pub decode-some : {m : List ℕ} → answer_for 𝓓 k columns doubtful ≡ some m
          → decode_of 𝓓 k columns doubtful message report ≡ record { number = accepted; message = m; report = report_for 𝓓 k columns doubtful m }
      unfolding decode_of answered
      decode-some e = rw (le-leb (blanks_of (places 𝓓) columns) (blank_limit member k) few, e)

    -- one of the three
    pub decode-cases : Decoded 𝓓 k columns doubtful message report (decode_of 𝓓 k columns doubtful message report)
    decode-cases =
        go (dec_le (blanks_of (places 𝓓) columns) (blank_limit member k)) (answer_for 𝓓 k columns doubtful) refl
        (near-answers member (open_at columns) (reach_in member k columns) k columns (test_words (places 𝓓) columns doubtful))
      where
        go : Dec (blanks_of (places 𝓓) columns ≤ blank_limit member k) → (o : Option (List ℕ)) → answer_for 𝓓 k columns doubtful ≡ o
            → Answers (message_cost member k columns)
            (Found (width 𝓓) k (near member (open_at columns) (reach_in member k columns) k (test_words (places 𝓓) columns doubtful))) o
            → Decoded 𝓓 k columns doubtful message report (decode_of 𝓓 k columns doubtful message report)
        go (no h) o e a = let l : blank_limit member k < blanks_of (places 𝓓) columns = omega arith in blank l (decode-too-blank l)
        go (yes few) none e a = far few e (decode-none few e)
        go (yes few) (some m) e a = found few e (answers-some a).word (decode-some few e)

    pub decode-blank-only : ((decode_of 𝓓 k columns doubtful message report).number ≡ too_blank) ↔ (blank_limit member k < blanks_of (places 𝓓) columns)
    decode-blank-only = go decode-cases
      where
        refused-with : (r : ℕ) → decode_of 𝓓 k columns doubtful message report ≡ refused_closing r message report
            → (decode_of 𝓓 k columns doubtful message report).number ≡ r
        refused-with r e = ap (λ (c : Closed). c.number) e ∙ refused-number r message report

        go : Decoded 𝓓 k columns doubtful message report (decode_of 𝓓 k columns doubtful message report)
            → ((decode_of 𝓓 k columns doubtful message report).number ≡ too_blank) ↔ (blank_limit member k < blanks_of (places 𝓓) columns)
        go (blank h e) = (λ n. h, λ l. refused-with too_blank e)
        go (far few a e) = (λ n. absurd (omega (arith, refused-with none_near e, n)), λ l. absurd (omega arith))
        go (found few a word e) = (λ n. absurd (omega (arith, ap (λ (c : Closed). c.number) e, n)), λ l. absurd (omega arith))

    pub decode-kept : ((decode_of 𝓓 k columns doubtful message report).number ≡ accepted → ⊥)
        → Kept message report (decode_of 𝓓 k columns doubtful message report)
    decode-kept n = go decode-cases
      where
        go : Decoded 𝓓 k columns doubtful message report (decode_of 𝓓 k columns doubtful message report)
            → Kept message report (decode_of 𝓓 k columns doubtful message report)
        go (blank h e) = rw e (refused_kept too_blank message report)
        go (far few a e) = rw e (refused_kept none_near message report)
        go (found few a word e) = absurd (n (ap (λ (c : Closed). c.number) e))

    pub decode-report : (decode_of 𝓓 k columns doubtful message report).number ≡ accepted
        → (decode_of 𝓓 k columns doubtful message report).report ≡ report_for 𝓓 k columns doubtful (decode_of 𝓓 k columns doubtful message report).message
    decode-report n = go decode-cases
      where
        go : Decoded 𝓓 k columns doubtful message report (decode_of 𝓓 k columns doubtful message report)
            → (decode_of 𝓓 k columns doubtful message report).report ≡ report_for 𝓓 k columns doubtful (decode_of 𝓓 k columns doubtful message report).message
        go (blank h e) = absurd (omega (arith, not-refused message report n too_blank e))
        go (far few a e) = absurd (omega (arith, not-refused message report n none_near e))
        go (found few a word e) = rw e

    pub decode-sized : length message ≡ k → length report ≡ report_length 𝓓 → Sized message report (decode_of 𝓓 k columns doubtful message report)
    decode-sized long whole_report = go decode-cases
      where
        go : Decoded 𝓓 k columns doubtful message report (decode_of 𝓓 k columns doubtful message report)
            → Sized message report (decode_of 𝓓 k columns doubtful message report)
        go (blank h e) = rw e (refused-sized too_blank message report)
        go (far few a e) = rw e (refused-sized none_near message report)
        go (found {m = m} few a word e) =
            rw e
            (record {
              message_sized = word.size ∙ sym long;
              report_sized = report-length k columns doubtful m ∙ sym whole_report;
            })

  module _ (book : Book) (message report : List ℕ) where
    pub fits_both : closing_fits 𝓓 book message report ≡ true → (length message ≡ book.rate) × (length report ≡ report_length 𝓓)
    unfolding closing_fits
    fits_both e =
        let a = eqb (length message) book.rate in
        let b = eqb (length report) (report_length 𝓓) in
        (eqb-true (length message) book.rate (and_left a b e), eqb-true (length report) (report_length 𝓓) (and_right a b e))

    pub fits-of : length message ≡ book.rate → length report ≡ report_length 𝓓 → closing_fits 𝓓 book message report ≡ true
    unfolding closing_fits
    fits-of e f =
        and_both (eqb (length message) book.rate) (eqb (length report) (report_length 𝓓)) (eq-eqb (length message) book.rate e)
        (eq-eqb (length report) (report_length 𝓓) f)

    pub close-size : closing_fits 𝓓 book message report ≡ false → close_of 𝓓 book message report ≡ refused_closing wrong_size message report
    unfolding close_of
    close-size e = rw e

    pub close-missing : closing_fits 𝓓 book message report ≡ true → some_missing 𝓓 book.row ≡ true
        → close_of 𝓓 book message report ≡ refused_closing place_missing message report
    unfolding close_of
    close-missing e m = rw (e, m)

    pub close-decoded : closing_fits 𝓓 book message report ≡ true → some_missing 𝓓 book.row ≡ false
        → close_of 𝓓 book message report ≡ decode_of 𝓓 book.rate (columns_of 𝓓 book.row) book.doubtful message report
    unfolding close_of
    close-decoded e m = rw (e, m)

    pub close-kept : ((close_of 𝓓 book message report).number ≡ accepted → ⊥) → Kept message report (close_of 𝓓 book message report)
    close-kept n = go (closing_fits 𝓓 book message report) refl (some_missing 𝓓 book.row) refl
      where
        go : (a : Bool) → closing_fits 𝓓 book message report ≡ a → (b : Bool) → some_missing 𝓓 book.row ≡ b
            → Kept message report (close_of 𝓓 book message report)
        go false e b m = rw (close-size e) (refused_kept wrong_size message report)
        go true e true m = rw (close-missing e m) (refused_kept place_missing message report)
        go true e false m =
            rw (close-decoded e m)
            (decode-kept book.rate (columns_of 𝓓 book.row) book.doubtful message report
            (λ q. n (ap (λ (c : Closed). c.number) (close-decoded e m) ∙ q)))

    pub close-report : (close_of 𝓓 book message report).number ≡ accepted
        → (close_of 𝓓 book message report).report
        ≡ report_for 𝓓 book.rate (columns_of 𝓓 book.row) book.doubtful (close_of 𝓓 book message report).message
    close-report n = go (closing_fits 𝓓 book message report) refl (some_missing 𝓓 book.row) refl
      where
        go : (a : Bool) → closing_fits 𝓓 book message report ≡ a → (b : Bool) → some_missing 𝓓 book.row ≡ b
            → (close_of 𝓓 book message report).report
            ≡ report_for 𝓓 book.rate (columns_of 𝓓 book.row) book.doubtful (close_of 𝓓 book message report).message
        go false e b m = absurd (omega (arith, not-refused message report n wrong_size (close-size e)))
        go true e true m = absurd (omega (arith, not-refused message report n place_missing (close-missing e m)))
        go true e false m =
            rw (close-decoded e m)
            (decode-report book.rate (columns_of 𝓓 book.row) book.doubtful message report
            (sym (ap (λ (c : Closed). c.number) (close-decoded e m)) ∙ n))

    pub close-sized : Sized message report (close_of 𝓓 book message report)
    close-sized = go (closing_fits 𝓓 book message report) refl (some_missing 𝓓 book.row) refl
      where
        go : (a : Bool) → closing_fits 𝓓 book message report ≡ a → (b : Bool) → some_missing 𝓓 book.row ≡ b
            → Sized message report (close_of 𝓓 book message report)
        go false e b m = rw (close-size e) (refused-sized wrong_size message report)
        go true e true m = rw (close-missing e m) (refused-sized place_missing message report)
        go true e false m =
            let f = fits_both e in
            rw (close-decoded e m) (decode-sized book.rate (columns_of 𝓓 book.row) book.doubtful message report f.0 f.1)
