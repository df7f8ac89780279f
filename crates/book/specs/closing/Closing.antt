-- Closing: buffer sizes, then missing places, then blank places, then nearness.
--
--   Closed               what closing answers: 0 or the refusal's number, and the two lent buffers after the call
--   refused_closing n message report   refused with the number n: the buffers as they were
--   report_length         the report's bytes: four of the total, two of the test words, those of the two counts of places, one that says whether
--                        there is a margin, four of the margin, and one of the mark
--   tests_for, answer_for k columns doubtful   how many test words have a codeword within T, and the answer, if there is one: T by the rate and the
--                        number of blank places, and of the places those count that are not blank
--   margin_for k columns doubtful m    the margin to the runner-up: how much more than that of m the cheapest other near codeword costs, if there is one
--   report_for k columns doubtful m    the report of the message m: total, test words with a codeword within T, pinned and changed places, margin, and
--                        1 if its codeword is marked, so that none of all codewords costs less, else 0
--   decode_of k columns doubtful message report   12 if more places are blank than leave a T, 9 if no codeword is near, the buffers as they were; else 0,
--                        the answer's message and its report
--   close_of book message report   2 if a buffer has the wrong size, 7 if a place is missing; else what decoding by the row's columns and the doubtful list answers
use Rattle.std.specs.Prelude.{Bool, cond, ◌&&◌, List, ℕ, ◌+◌, eqb, leb, length}
use Rattle.std.proofs.Math.Option.{Option, none, some}
use Rattle.lists.specs.Count.{bit}
use Rattle.refusals.specs.Refusal.{accepted, wrong_size, place_missing, none_near, too_blank}
use Rattle.soft.specs.Blank.{open_at, blanks_of}
use Rattle.soft.specs.TestWord.{test_words}
use Rattle.soft.specs.Total.{total_of, pinned_of, changed_of, report_of}
use Rattle.family.specs.Encoding.{encode_of}
use Rattle.near.specs.Near.{blank_limit, tests_near, answer_of}
use Rattle.near.specs.Reach.{reach_in}
use Rattle.near.specs.Runner.{margin_of}
use Rattle.near.specs.Cheapest.{marked_of}
use Rattle.book.specs.Model.{Model, places}
use Rattle.book.specs.Book.{Book, some_missing}
use Rattle.book.specs.Columns.{columns_of}

pub record Closed : Type 0 where
  pub number : ℕ
  pub message : List ℕ
  pub report : List ℕ

unfoldable pub refused_closing : ℕ → List ℕ → List ℕ → Closed
refused_closing n message report = record { number = n; message = message; report = report }

module _ (𝓓 : Model) where
  open 𝓓 use {member, wide}

  abbrev pub report_length : ℕ
  report_length = 12 + wide + wide

  -- T at the rate with so many blank places, and those count that are not blank
  abbrev pub tests_for : ℕ → (ℕ → List ℕ) → List ℕ → ℕ
  tests_for k columns doubtful = tests_near member (open_at columns) (reach_in member k columns) k (test_words (places 𝓓) columns doubtful)

  abbrev pub answer_for : ℕ → (ℕ → List ℕ) → List ℕ → Option (List ℕ)
  answer_for k columns doubtful = answer_of member (open_at columns) (reach_in member k columns) k columns (test_words (places 𝓓) columns doubtful)

  abbrev pub margin_for : ℕ → (ℕ → List ℕ) → List ℕ → List ℕ → Option ℕ
  margin_for k columns doubtful m = margin_of member (open_at columns) (reach_in member k columns) k columns (test_words (places 𝓓) columns doubtful) m

  unfoldable pub report_for : ℕ → (ℕ → List ℕ) → List ℕ → List ℕ → List ℕ
  report_for k columns doubtful m =
      report_of wide (total_of (places 𝓓) columns (encode_of member k m)) (tests_for k columns doubtful)
      (pinned_of (places 𝓓) columns (encode_of member k m)) (changed_of (places 𝓓) columns (encode_of member k m))
      (margin_for k columns doubtful m) (bit (marked_of member k columns m))

  -- by the answer's message, if there is one
  unfoldable pub answered : ℕ → (ℕ → List ℕ) → List ℕ → Option (List ℕ) → List ℕ → List ℕ → Closed
  answered k columns doubtful none message report = refused_closing none_near message report
  answered k columns doubtful (some m) message report =
      record { number = accepted; message = m; report = report_for k columns doubtful m }

  unfoldable pub decode_of : ℕ → (ℕ → List ℕ) → List ℕ → List ℕ → List ℕ → Closed
  decode_of k columns doubtful message report =
      cond (leb (blanks_of (places 𝓓) columns) (blank_limit member k))
      (answered k columns doubtful (answer_for k columns doubtful) message report)
      (refused_closing too_blank message report)

  -- a message of k symbols, where k is the rate, and a report of its length
  unfoldable pub closing_fits : Book → List ℕ → List ℕ → Bool
  closing_fits book message report = eqb (length message) book.rate && eqb (length report) report_length

  unfoldable pub close_of : Book → List ℕ → List ℕ → Closed
  close_of book message report =
      cond (closing_fits book message report)
      (cond (some_missing 𝓓 book.row)
      (refused_closing place_missing message report)
      (decode_of book.rate (columns_of 𝓓 book.row) book.doubtful message report))
      (refused_closing wrong_size message report)
