-- The two symbols that are read off a column, by their numbers.
--
--   above                  a number above those of all symbols, with costs up to the ceiling
--   TwoOf column r         r holds the numbers of the best and of the second symbol of a column of costs for the symbols 0 to 15
use Rattle.std.specs.Prelude.{◌≡◌, List, ℕ, ◌+◌, ◌*◌, ◌<◌, ◌≤◌}
use Rattle.soft.specs.Column.{symbols, ceiling, best_of, second_of, number_of}
use Rattle.columns.specs.declared.column.Two.{Two}

abbrev pub above : ℕ
above = (ceiling + 1) * symbols

pub record TwoOf (column : List ℕ) (r : Two) : Type 0 where
  pub best : r.best ≡ number_of symbols column (best_of column)
  pub second : r.second ≡ number_of symbols column (second_of column)
  pub in_order : r.best ≤ r.second
  pub fits : r.second < above
