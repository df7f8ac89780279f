-- The two least numbers of a column, for any number of symbols.
--
--   least-number, next-number   the least number of a column of n costs is the best symbol's, and the next is the second's
--   number_fits            which is below a bound that all are below
use mathlib.Core.Path.{◌≡◌, sym, ap, ◌∙◌}
use mathlib.Core.List.{List}
use Prim.Native.Nat.{ℕ, ◌<◌}
use native.Mathlib.Omega.{arith}
use lib.ListN.{length}
use Rattle.lists.specs.Least.{least_of, next_of}
use Rattle.soft.specs.Column.{best_of, second_of, number_of}
use Rattle.soft.specs.ColumnLaws.{second_below, best-number, second-number}

-- in a column of n costs, n at least two: the least number, and the next
module _ {n : ℕ} (column : List ℕ) (l : length column ≡ n) (two : 1 < n) where
  module _ (above : ℕ) (most : (s : ℕ) → s < n → number_of n column s < above) where
    pub least-number : (r : ℕ) → r ≡ least_of above n (number_of n column) → r ≡ number_of n column (best_of column)
    least-number r e =
        e ∙ ap (λ k. least_of above k (number_of n column)) (sym l)
        ∙ best-number column (omega arith) n (omega arith) above (λ s h. omega (arith, most s (omega arith)))

    pub next-number : (r : ℕ) → r ≡ next_of above n (number_of n column) → r ≡ number_of n column (second_of column)
    next-number r e =
        e ∙ ap (λ k. next_of above k (number_of n column)) (sym l)
        ∙ second-number column (omega arith) n (omega arith) above (λ s h. omega (arith, most s (omega arith)))

    pub number_fits : number_of n column (second_of column) < above
    number_fits = most (second_of column) (omega (arith, second_below column (omega arith)))
