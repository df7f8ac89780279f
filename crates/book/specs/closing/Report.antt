-- The report's fourteen bytes, high byte first: total (4), test words with a codeword within T (2), pinned places (1), changed places (1), 1 or 0 for a
-- margin that is present or absent (1), margin (4), zero where absent, 1 or 0 for a mark (1). In every modem, with as many bytes for each count of places as it
-- has.
--
--   number_in n i bytes     the number in n bytes from byte i on, high byte first
--   total_in, tests_in, pinned_in, changed_in, runner_in, margin_in, mark_in   the numbers that a report's bytes hold
--   runner_of margin, amount_of margin   1 and the margin where there is one; 0 and 0 where there is none (runner-none)
--   Shows report total tests pinned changed margin mark   the report has its length in bytes, and they hold these numbers: none of them is cut
--   ShowsFor k columns doubtful m report   the report shows the message's total, the test words with a codeword within T, pinned and changed places,
--                          the margin, and the mark
--   Reported k columns doubtful c, ReportedIn book c   the same of the message and the report that a call answers
use Rattle.std.specs.Prelude.{true, ◌≡◌, ℕ, zero, suc, ◌+◌, ◌*◌, length, get_or}
use mathlib.Core.List.{List}
use Rattle.std.proofs.Math.Option.{Option, none, some}
use Rattle.lists.specs.Count.{bit}
use Rattle.lists.specs.Distinct.{below}
use Rattle.soft.specs.Total.{total_of, pinned_of, changed_of}
use Rattle.family.specs.Encoding.{encode_of}
use Rattle.near.specs.Cheapest.{marked_of}
use Rattle.book.specs.Model.{Model, places}
use Rattle.book.specs.Book.{Book}
use Rattle.book.specs.Columns.{columns_of}
use Rattle.book.specs.closing.Closing.{report_length, Closed, tests_for, margin_for}

abbrev pub total_in : List ℕ → ℕ
total_in report = 16777216 * get_or report 0 0 + 65536 * get_or report 1 0 + 256 * get_or report 2 0 + get_or report 3 0

abbrev pub tests_in : List ℕ → ℕ
tests_in report = 256 * get_or report 4 0 + get_or report 5 0

unfoldable pub number_in : ℕ → ℕ → List ℕ → ℕ
number_in zero i bytes = 0
number_in (suc n) i bytes = 256 * number_in n i bytes + get_or bytes (i + n) 0

-- ---- a margin as two numbers

unfoldable pub runner_of : Option ℕ → ℕ
runner_of none = 0
runner_of (some d) = 1

unfoldable pub amount_of : Option ℕ → ℕ
amount_of none = 0
amount_of (some d) = d

module _ (𝓓 : Model) where
  open 𝓓 use {member, wide}

  abbrev pub pinned_in : List ℕ → ℕ
  pinned_in report = number_in wide 6 report

  abbrev pub changed_in : List ℕ → ℕ
  changed_in report = number_in wide (6 + wide) report

  abbrev pub runner_in : List ℕ → ℕ
  runner_in report = number_in 1 (6 + wide + wide) report

  abbrev pub margin_in : List ℕ → ℕ
  margin_in report = number_in 4 (7 + wide + wide) report

  abbrev pub mark_in : List ℕ → ℕ
  mark_in report = number_in 1 (11 + wide + wide) report

  pub record Shows (report : List ℕ) (total tests pinned changed : ℕ) (margin : Option ℕ) (mark : ℕ) : Type 0 where
    pub size : length report ≡ report_length 𝓓
    pub bytes : below 256 report ≡ true
    pub total_there : total_in report ≡ total
    pub tests_there : tests_in report ≡ tests
    pub pinned_there : pinned_in report ≡ pinned
    pub changed_there : changed_in report ≡ changed
    pub runner_there : runner_in report ≡ runner_of margin
    pub margin_there : margin_in report ≡ amount_of margin
    pub mark_there : mark_in report ≡ mark

  -- ---- the report of a message

  abbrev pub ShowsFor : ℕ → (ℕ → List ℕ) → List ℕ → List ℕ → List ℕ → Type 0
  ShowsFor k columns doubtful m report =
      Shows report (total_of (places 𝓓) columns (encode_of member k m)) (tests_for 𝓓 k columns doubtful)
      (pinned_of (places 𝓓) columns (encode_of member k m)) (changed_of (places 𝓓) columns (encode_of member k m)) (margin_for 𝓓 k columns doubtful m)
      (bit (marked_of member k columns m))

  -- ---- closing

  abbrev pub Reported : ℕ → (ℕ → List ℕ) → List ℕ → Closed → Type 0
  Reported k columns doubtful c = ShowsFor k columns doubtful c.message c.report

  abbrev pub ReportedIn : Book → Closed → Type 0
  ReportedIn book c = Reported book.rate (columns_of 𝓓 book.row) book.doubtful c
