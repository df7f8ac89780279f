-- The rows that `multiples` and `added` return: 0, 1, 2, 3, 0, 4, 8 and 12 times a row, and two of them added to another.
use mathlib.Core.Path.{◌≡◌, refl, ap, ◌∙◌}
use mathlib.Core.List.{List, [], ◌∷◌}
use Prim.Native.Nat.{ℕ, zero, suc, ◌+◌, ◌/◌, ◌%◌, ◌<◌}
use native.Mathlib.Omega.{arith}
use lib.ListN.{get_or}
use Rattle.lists.specs.Listed.{listed}
use Rattle.galois.specs.Binary as Binary
use Rattle.galois.specs.Gf16.{gf16}
use Rattle.galois.specs.Field16.{to_f-zero}
use Rattle.lanewise.specs.Multiples.{Multiple, multiple-none, multiple-own, multiple-twice, multiple-sum, factor, picked, grouped, by-nothing, added_more, added-all}
use Rattle.lanewise.specs.Rows as Rows
use Rattle.planes.specs.Product.{products-16}
use Rattle.planes.specs.Rows.{row_sum, row-sum-is, doubled_row, doubled-is, MultiplesOf, AddedBy}

-- a row of zeros
abbrev pub none : List ℕ
none = 0 ∷ 0 ∷ 0 ∷ 0 ∷ 0 ∷ 0 ∷ 0 ∷ 0 ∷ []

module _ (row two three four eight twelve : List ℕ) (e2 : two ≡ doubled_row row) (e4 : four ≡ doubled_row two) (e8 : eight ≡ doubled_row four)
    (e3 : three ≡ row_sum row two) (e12 : twelve ≡ row_sum four eight) where
  pub multiples-by : MultiplesOf row (none ∷ row ∷ two ∷ three ∷ none ∷ four ∷ eight ∷ twelve ∷ [])
  unfolding factor listed Binary.times Binary.shift_add Binary.xtime
  multiples-by = record { each = go }
    where
      at2 : Multiple gf16 row 2 two
      at2 = multiple-twice gf16 products-16 (e2 ∙ doubled-is row) (multiple-own gf16)

      at4 : Multiple gf16 row 4 four
      at4 = multiple-twice gf16 products-16 (e4 ∙ doubled-is two) at2

      at8 : Multiple gf16 row 8 eight
      at8 = multiple-twice gf16 products-16 (e8 ∙ doubled-is four) at4

      go : (i : ℕ) → i < 8 → Multiple gf16 row (factor 2 i) (get_or (none ∷ row ∷ two ∷ three ∷ none ∷ four ∷ eight ∷ twelve ∷ []) i [])
      go zero l = multiple-none gf16
      go (suc zero) l = multiple-own gf16
      go (suc (suc zero)) l = at2
      go (suc (suc (suc zero))) l = multiple-sum gf16 (e3 ∙ row-sum-is row two) (multiple-own gf16) at2
      go (suc (suc (suc (suc zero)))) l = multiple-none gf16
      go (suc (suc (suc (suc (suc zero))))) l = at4
      go (suc (suc (suc (suc (suc (suc zero)))))) l = at8
      go (suc (suc (suc (suc (suc (suc (suc zero))))))) l = multiple-sum gf16 (e12 ∙ row-sum-is four eight) at4 at8
      go (suc (suc (suc (suc (suc (suc (suc (suc i)))))))) l = absurd (omega arith)

-- two of them, added to a row
pub added-by : (row : List ℕ) (by : ℕ) (ms : List (List ℕ)) {s r : List ℕ} → s ≡ row_sum row (get_or ms (by % 4) []) → r ≡ row_sum s (get_or ms (4 + by / 4 % 4) [])
    → AddedBy row by ms r
unfolding grouped
added-by row by ms {s} {r} e d =
    let low : by % 4 ≡ picked 2 by 0 = omega arith in
    added-all gf16 2 2 refl by
    (added_more gf16 2 2 by 1 (omega arith) (d ∙ row-sum-is s _)
    (added_more gf16 2 2 by 0 (omega arith) (e ∙ row-sum-is row _ ∙ ap (λ i. Rows.row_sum_of gf16 row (get_or ms i [])) low) (by-nothing gf16 2 2 to_f-zero)))
