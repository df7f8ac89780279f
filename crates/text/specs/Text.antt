-- Text as `show` prints it, in ASCII: numbers in decimal, symbols as hexadecimal digits.
--
--   space, newline, dash 32, 10 and 45
--   decimal_of n          the decimal digits of n, the highest first, as few as hold it
--   hex_of s              a symbol as a lower-case hexadecimal digit
--   number_line n end     a number and the byte that ends it
--   margin_line report    the margin, or a dash where the report's byte 8 says that there is none, and the end of the line
--   margin_shown margin   the same of a margin that may be absent
--   heading_of rate d report   the line `rate d total tests pinned changed margin`, with its last five from the report's bytes
--   margin_text margin, heading-shows   so they are the numbers that the report shows, and a dash stands exactly where it shows no margin
--   message_line m        the message from symbol 0 on, a digit each
--   refused_line n        the line `refused N`
use Rattle.std.specs.Prelude.{cond, ◌≡◌, List, [], ◌∷◌, ◌++◌, map, ℕ, zero, suc, ◌/◌, ◌%◌, ltb, eqb, Option as Maybe, None, Some}
use Rattle.std.proofs.Common.{sym, ap, ◌∙◌}
use Rattle.std.proofs.Math.Option.{Option, none, some}
use Rattle.io.specs.Digits.{hex_digit_ascii}
use Rattle.book.specs.closing.Report.{total_in, tests_in, runner_of, amount_of}
use Rattle.book64.specs.Here.{pinned_in, changed_in, runner_in, margin_in, pinned-byte, changed-byte, runner-byte, margin-bytes, Shows}

abbrev pub space : ℕ
space = 32

abbrev pub newline : ℕ
newline = 10

abbrev pub dash : ℕ
dash = 45

-- of a number below 10 to the power of `most`
unfoldable pub decimal_within : ℕ → ℕ → List ℕ
decimal_within zero n = []
decimal_within (suc most) n = cond (ltb n 10) (hex_digit_ascii n ∷ []) (decimal_within most (n / 10) ++ (hex_digit_ascii (n % 10) ∷ []))

abbrev pub decimal_of : ℕ → List ℕ
decimal_of n = decimal_within 20 n

unfoldable pub hex_of : ℕ → ℕ
hex_of symbol = hex_digit_ascii (symbol % 16)

unfoldable pub number_line : ℕ → ℕ → List ℕ
number_line n end = decimal_of n ++ (end ∷ [])

unfoldable pub margin_line : List ℕ → List ℕ
margin_line report = cond (eqb (runner_in report) 1) (number_line (margin_in report) newline) (dash ∷ newline ∷ [])

unfoldable pub margin_shown : Maybe ℕ → List ℕ
margin_shown None = dash ∷ newline ∷ []
margin_shown (Some d) = number_line d newline

unfoldable pub heading_of : ℕ → ℕ → List ℕ → List ℕ
heading_of rate d report =
    number_line rate space ++ number_line d space ++ number_line (total_in report) space ++ number_line (tests_in report) space
    ++ number_line (pinned_in report) space ++ number_line (changed_in report) space ++ margin_line report

-- a margin, or a dash where there is none
unfoldable pub margin_text : Option ℕ → List ℕ
margin_text none = dash ∷ newline ∷ []
margin_text (some d) = number_line d newline

margin-shows : (report : List ℕ) (margin : Option ℕ) → runner_in report ≡ runner_of margin → margin_in report ≡ amount_of margin
    → margin_line report ≡ margin_text margin
unfolding margin_line margin_text runner_of amount_of
margin-shows report none e f = ap (λ n. cond (eqb n 1) (number_line (margin_in report) newline) (dash ∷ newline ∷ [])) e
margin-shows report (some d) e f =
    ap (λ n. cond (eqb n 1) (number_line (margin_in report) newline) (dash ∷ newline ∷ [])) e ∙ ap (λ n. number_line n newline) f

pub heading-shows : (rate d : ℕ) {report : List ℕ} {total tests pinned changed : ℕ} {margin : Option ℕ}
    → {cheapest : ℕ} → Shows report total tests pinned changed margin cheapest
    → heading_of rate d report
    ≡ number_line rate space ++ number_line d space ++ number_line total space ++ number_line tests space ++ number_line pinned space
    ++ number_line changed space ++ margin_text margin
unfolding heading_of
heading-shows rate d {report} {margin = margin} s =
    cc (
      s.total_there,
      s.tests_there,
      sym (pinned-byte report) ∙ s.pinned_there,
      sym (changed-byte report) ∙ s.changed_there,
      margin-shows report margin (sym (runner-byte report) ∙ s.runner_there) (sym (margin-bytes report) ∙ s.margin_there),
    )

unfoldable pub message_line : List ℕ → List ℕ
message_line m = map hex_of m ++ (newline ∷ [])

-- 'refused ' and a number
unfoldable pub refused_line : ℕ → List ℕ
refused_line n = (114 ∷ 101 ∷ 102 ∷ 117 ∷ 115 ∷ 101 ∷ 100 ∷ space ∷ []) ++ number_line n newline
