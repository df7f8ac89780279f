-- The text of a report's margin, by its mark.
--
--   absent, present   a dash where the mark says that there is none, and the number where there is one
use mathlib.Core.Path.{◌≡◌, sym, ap, ◌∙◌}
use mathlib.Core.Bool.{cond}
use mathlib.Core.List.{List, [], ◌∷◌}
use Prim.Native.Nat.{ℕ}
use borrow.Author.Tests.{eq-eqb, ne_eqb}
use Rattle.book64.specs.Here.{runner_in, margin_in}
use Rattle.text.specs.Text.{newline, dash, number_line, margin_line}

pub absent : (report : List ℕ) → (runner_in report ≡ 1 → ⊥) → dash ∷ newline ∷ [] ≡ margin_line report
unfolding margin_line
absent report h = sym (ap (λ b. cond b (number_line (margin_in report) newline) (dash ∷ newline ∷ [])) (ne_eqb (runner_in report) 1 h))

pub present : (report : List ℕ) {n : ℕ} → runner_in report ≡ 1 → n ≡ margin_in report → number_line n newline ≡ margin_line report
unfolding margin_line
present report h e =
    ap (λ x. number_line x newline) e
    ∙ sym (ap (λ b. cond b (number_line (margin_in report) newline) (dash ∷ newline ∷ [])) (eq-eqb (runner_in report) 1 h))
