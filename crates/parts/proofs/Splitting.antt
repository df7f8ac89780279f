-- The two parts of a row, by the planes of their values.
use mathlib.Core.Path.{◌≡◌, sym, ap, ◌∙◌}
use mathlib.Core.List.{List}
use Prim.Native.Nat.{ℕ}
use native.Mathlib.Nat.{mod-eq_of_lt}
use Rattle.lists.specs.Listed.{listed-ext}
use Rattle.galois.specs.Gf16.{gf16}
use Rattle.galois.specs.Field16.{value, value-to_f}
use Rattle.family.specs.Member.{m16, places}
use Rattle.lanewise.specs.Rows.{split_by}
use Rattle.planes.specs.Product.{products-16}
use Rattle.planes.specs.Arrays.{element_at, symbol_at, symbol-lt, element-symbol, Carries, symbols_of, sum_of, sum_is, product_of, product_is}
use Rattle.planes.specs.Words.{word_of}
use Rattle.planes.specs.Rows.{whole_of, slope_of, whole_is, slope-is, value-slope}
use Rattle.coefficients.specs.Reading.{coefficients_of}
use Rattle.values.specs.Parts as Values
use Rattle.parts.specs.Parts.{values_of, first_at, second_at, first_of, second_of}

-- the symbol at a lane is the number of its element
symbol-value : (a : List ℕ) (p : ℕ) → symbol_at a p ≡ value (element_at a p)
symbol-value a p = sym (ap value (element-symbol a p) ∙ value-to_f (symbol_at a p) ∙ mod-eq_of_lt (symbol-lt a p))

pub first_read : (word row symbols : List ℕ) {w s m v r : List ℕ} → w ≡ whole_of row → Carries (symbols_of word) symbols → s ≡ slope_of row → m ≡ product_of symbols s
    → v ≡ sum_of w m → r ≡ coefficients_of (word_of v) → r ≡ first_of word row
unfolding Values.first_of Values.first_at values_of word_of
first_read word row symbols {w} {s} {m} {v} {r} ew carried es em ev er =
    er
    ∙ ap coefficients_of
    (listed-ext (places m16) (symbol_at v) (first_at word row)
    (λ p l.
    symbol-value v p
    ∙ ap value
    (split_by gf16 products-16 row symbols (ew ∙ whole_is row) carried (es ∙ slope-is row) (em ∙ product_is symbols s) (ev ∙ sum_is w m) p l)))

pub second-read : (row : List ℕ) {s r : List ℕ} → s ≡ slope_of row → r ≡ coefficients_of (word_of s) → r ≡ second_of row
unfolding Values.second_of Values.second_at values_of word_of
second-read row {s} {r} es er =
    er ∙ ap coefficients_of (listed-ext (places m16) (symbol_at s) (second_at row) (λ p l. symbol-value s p ∙ ap value (ap (λ a. element_at a p) es ∙ value-slope row p)))
