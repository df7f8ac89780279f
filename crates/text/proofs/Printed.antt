-- What `{}` and `{:x}` write of numbers, by the definitions of Text.
--
--   decimal-is, line-is   the digits of a number, and with the byte that ends it
--   digit-is              the digit of a symbol
--   heading-is            six numbers with a space behind each, and the margin
use Rattle.std.specs.Prelude.{false, ◌≡◌, List, [], ◌∷◌, ◌++◌, ℕ, ◌%◌, ◌^◌, ◌<◌}
use Rattle.std.proofs.Common.{rules, sym, ap, ◌∙◌, arith, lit<}
use Rattle.std.specs.Fmt.{decimal, digits}
use Rattle.std.proofs.lemmas.Fmt.{AppendsLastDigit, decimal_from_appends, length-decimal-le, hex_one_digit}
use Rattle.std.proofs.lemmas.List.{append_assoc}
use Rattle.book.specs.closing.Report.{total_in, tests_in}
use Rattle.book64.specs.Here.{pinned_in, changed_in}
use Rattle.text.specs.Text.{decimal_within, decimal_of, hex_of, number_line, margin_line, heading_of}

appends : AppendsLastDigit decimal_within
unfolding decimal_within
appends = search rules

pub decimal-is : (n : ℕ) → n < 2 ^ 64 → decimal n ≡ decimal_of n
decimal-is n h = sym (decimal_from_appends decimal_within appends 20 n h (length-decimal-le 20 n (lit< tt) (omega (arith, h)) h))

pub line-is : (n end : ℕ) → n < 2 ^ 64 → decimal n ++ (end ∷ []) ≡ number_line n end
unfolding number_line
line-is n end h = ap (λ (l : List ℕ). l ++ (end ∷ [])) (decimal-is n h)

pub digit-is : (s : ℕ) → digits 16 false (s % 16) ≡ hex_of s ∷ []
unfolding hex_of
digit-is s = hex_one_digit false (s % 16) (omega arith)

-- six texts with a space behind each, and a last one
spaced : (a b c d e f m : List ℕ)
    → (a ++ (32 ∷ (b ++ (32 ∷ (c ++ (32 ∷ (d ++ (32 ∷ (e ++ (32 ∷ (f ++ (32 ∷ [])))))))))))) ++ m
    ≡ (a ++ (32 ∷ [])) ++ (b ++ (32 ∷ [])) ++ (c ++ (32 ∷ [])) ++ (d ++ (32 ∷ [])) ++ (e ++ (32 ∷ [])) ++ (f ++ (32 ∷ [])) ++ m
spaced a b c d e f m = simp append_assoc

pub heading-is : (rate d total tests pinned changed : ℕ) (report margin : List ℕ) → rate < 2 ^ 64 → d < 2 ^ 64 → total < 2 ^ 64 → tests < 2 ^ 64
    → pinned < 2 ^ 64 → changed < 2 ^ 64 → total ≡ total_in report → tests ≡ tests_in report → pinned ≡ pinned_in report → changed ≡ changed_in report
    → margin ≡ margin_line report
    → (decimal rate ++ (32 ∷ (decimal d ++ (32 ∷ (decimal total ++ (32 ∷ (decimal tests ++ (32 ∷ (decimal pinned ++ (32 ∷ (decimal changed ++ (32 ∷ [])))))))))))) ++ margin
    ≡ heading_of rate d report
unfolding heading_of
heading-is rate d total tests pinned changed report margin a b c e f g p q r s t =
    spaced (decimal rate) (decimal d) (decimal total) (decimal tests) (decimal pinned) (decimal changed) margin
    ∙ cc (line-is rate 32 a, line-is d 32 b, line-is total 32 c, line-is tests 32 e, line-is pinned 32 f, line-is changed 32 g, p, q, r, s, t)
