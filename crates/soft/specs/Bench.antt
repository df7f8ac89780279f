-- The cases of document 01's bench sheet that speak of a column, each a test that the checker computes; that they pass stands in proofs/.
--
--   case9     cost 0 at symbols 5 and 9, 7 elsewhere: best 5, second 9, gap 0
--   case10    all sixteen 65535: best 0, second 1, gap 0
--   case105   the values 127, −1, 0 and −128 favour 0, 1, neither and 1: symbols 5 and 7 cost nothing, 15 costs 127, 0 costs 129 and 8 costs 256
use Rattle.std.specs.Prelude.{Bool, ◌&&◌, List, [], ◌∷◌, ℕ, eqb, set, replicate}
use Rattle.soft.specs.Column.{symbols, ceiling, cost_of, best_of, second_of, gap_of}
use Rattle.soft.specs.Bits.{bits, bit_column}

-- a column's best symbol, second symbol and gap are these
unfoldable pub reads : List ℕ → ℕ → ℕ → ℕ → Bool
reads column best second gap = eqb (best_of column) best && (eqb (second_of column) second && eqb (gap_of column) gap)

unfoldable pub case9 : Bool
case9 = reads (set (set (replicate symbols 7) 5 0) 9 0) 5 9 0

unfoldable pub case10 : Bool
case10 = reads (replicate symbols ceiling) 0 1 0

unfoldable pub case105 : Bool
case105 =
    let column = bit_column bits (127 ∷ 255 ∷ 0 ∷ 128 ∷ []) in
    eqb (cost_of column 5) 0
    && (eqb (cost_of column 7) 0 && (eqb (cost_of column 15) 127 && (eqb (cost_of column 0) 129 && eqb (cost_of column 8) 256)))
