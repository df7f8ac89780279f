-- A place's column (the soft information of one position): a list of costs, one for each symbol, and what document 01 reads off it.
--
--   places, symbols, ceiling   64 places; 16 symbols; 65535, the largest cost, which reads 'at least' (a saturated cost)
--   cost_of column s        the cost of the symbol s
--   best_of column          the best symbol (hard decision): least cost, equal costs to the smaller symbol
--   second_of column        the second symbol: the best of the others
--   gap_of column           the gap (reliability): second cost minus best cost
--   doubt_gap_of column      the gap as it counts for choosing doubtful places; countedGap: of a best and a second cost
--   is_blank column         the column is blank (an erasure): all its costs are equal
--   best_but column b n     the best of the first n symbols, b left out; step by step, first_but and cheaper_of
--   number_of w column s    the cost of the symbol s times a width, plus the symbol: it puts symbols in order, equal costs to the smaller one
--   pair_at bytes i         the number in two bytes, high first
--   costs_from n bytes      n costs from their bytes, two each: a column, or the columns of a table one after the other
--   column_of q costs p     the column of place p in a list of costs, q to a place, place 0 first
use Rattle.std.specs.Prelude.{Bool, cond, ◌&&◌, List, ℕ, zero, suc, ◌+◌, ◌-◌, ◌*◌, ltb, eqb, length, get_or}
use Rattle.lists.specs.Every.{every}
use Rattle.lists.specs.Listed.{listed}

abbrev pub places : ℕ
places = 64

abbrev pub symbols : ℕ
symbols = 16

abbrev pub ceiling : ℕ
ceiling = 65535

abbrev pub cost_of : List ℕ → ℕ → ℕ
cost_of column s = get_or column s 0

-- the smallest symbol, b left out
unfoldable pub first_but : ℕ → ℕ
first_but b = cond (eqb b 0) 1 0

-- of the symbol held and the next: the next only if it is not b and costs less
unfoldable pub cheaper_of : ℕ → ℕ → ℕ → ℕ → ℕ → ℕ
cheaper_of b held heldCost next nextCost = cond (eqb next b) held (cond (ltb nextCost heldCost) next held)

abbrev pub better_in : List ℕ → ℕ → ℕ → ℕ → ℕ
better_in column b held next = cheaper_of b held (cost_of column held) next (cost_of column next)

unfoldable pub best_but : List ℕ → ℕ → ℕ → ℕ
best_but column b zero = first_but b
best_but column b (suc n) = better_in column b (best_but column b n) n

-- no symbol is left out: none is as large as the number of symbols
unfoldable pub best_of : List ℕ → ℕ
best_of column = best_but column (length column) (length column)

unfoldable pub second_of : List ℕ → ℕ
second_of column = best_but column (best_of column) (length column)

abbrev pub number_of : ℕ → List ℕ → ℕ → ℕ
number_of w column s = cost_of column s * w + s

unfoldable pub gap_of : List ℕ → ℕ
gap_of column = cost_of column (second_of column) - cost_of column (best_of column)

-- a second cost at the ceiling reads 'at least', so that over a lower best cost the difference only bounds the gap: it counts as the ceiling
unfoldable pub counted_gap : ℕ → ℕ → ℕ
counted_gap best second = cond (eqb second ceiling && ltb best ceiling) ceiling (second - best)

unfoldable pub doubt_gap_of : List ℕ → ℕ
doubt_gap_of column = counted_gap (cost_of column (best_of column)) (cost_of column (second_of column))

unfoldable pub is_blank : List ℕ → Bool
is_blank column = every (length column) (λ s. eqb (cost_of column s) (cost_of column 0))

abbrev pub pair_at : List ℕ → ℕ → ℕ
pair_at bytes i = get_or bytes i 0 * 256 + get_or bytes (i + 1) 0

-- the cost number i of those that the bytes hold
abbrev pub cost_from : List ℕ → ℕ → ℕ
cost_from bytes i = pair_at bytes (i * 2)

unfoldable pub costs_from : ℕ → List ℕ → List ℕ
costs_from n bytes = listed n (cost_from bytes)

-- the cost of the symbol s at place p
abbrev pub cost_at : ℕ → List ℕ → ℕ → ℕ → ℕ
cost_at q costs p s = get_or costs (p * q + s) 0

unfoldable pub column_of : ℕ → List ℕ → ℕ → List ℕ
column_of q costs p = listed q (cost_at q costs p)
