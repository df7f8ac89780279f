-- Columns from the demapper's bit values (soft bits): a signed byte for each of the b bits of a symbol, highest bit first. A signed byte is the byte that
-- holds it in two's complement: 0 to 127 are themselves, and 128 to 255 are −128 to −1.
--
--   bits                   the modem of 64 places has four bits a symbol
--   is_negative v           v stands for a negative value
--   magnitude v            how far it is from zero; that of −128 is 128
--   favoured v             the bit that v favours: 0 if it is positive, 1 if it is negative, none if it is zero
--   is_other f t            f is a bit, and t is not the one
--   contradicts v t        v favours a bit, and t is not the one
--   bit_of b s i            bit number i of the symbol s, of b bits, where number 0 is the highest
--   bit_cost v t            what v adds to the cost of a symbol that has the bit t there: its magnitude if the bit contradicts it, else nothing
--   added_by b values s i   what the value number i adds to the cost of the symbol s
--   symbol_cost b values s  the cost of a symbol: the sum of these
--   bit_column b values     the column: the cost of every symbol
--   values_at b frame p     the b values of place p, where a frame holds those of place 0 first; what it lacks reads as 0
--   bit_columns b frame p   the column that they make
--   bit_costs b n frame     the columns of n places one after the other
--   bit_table b n frame     the table that the frame makes: two bytes a cost
use Rattle.std.specs.Prelude.{Bool, false, not, cond, List, [], ◌++◌, ℕ, zero, suc, ◌+◌, ◌-◌, ◌*◌, ◌/◌, ◌%◌, ◌^◌, eqb, leb, get_or}
use Rattle.std.proofs.Math.Option.{Option, none, some}
use Rattle.lists.specs.Count.{sum_of}
use Rattle.lists.specs.Listed.{listed}
use Rattle.soft.specs.CostBytes.{cost_bytes}

abbrev pub bits : ℕ
bits = 4

unfoldable pub is_negative : ℕ → Bool
is_negative v = leb 128 v

unfoldable pub magnitude : ℕ → ℕ
magnitude v = cond (is_negative v) (256 - v) v

unfoldable pub favoured : ℕ → Option ℕ
favoured v = cond (eqb v 0) none (some (cond (is_negative v) 1 0))

abbrev pub is_other : Option ℕ → ℕ → Bool
is_other none t = false
is_other (some f) t = not (eqb t f)

unfoldable pub contradicts : ℕ → ℕ → Bool
contradicts v t = is_other (favoured v) t

unfoldable pub bit_cost : ℕ → ℕ → ℕ
bit_cost v t = cond (contradicts v t) (magnitude v) 0

unfoldable pub bit_of : ℕ → ℕ → ℕ → ℕ
bit_of b s i = s / 2 ^ (b - 1 - i) % 2

abbrev pub added_by : ℕ → List ℕ → ℕ → ℕ → ℕ
added_by b values s i = bit_cost (get_or values i 0) (bit_of b s i)

unfoldable pub symbol_cost : ℕ → List ℕ → ℕ → ℕ
symbol_cost b values s = sum_of b (added_by b values s)

unfoldable pub bit_column : ℕ → List ℕ → List ℕ
bit_column b values = listed (2 ^ b) (symbol_cost b values)

unfoldable pub values_at : ℕ → List ℕ → ℕ → List ℕ
values_at b frame p = listed b (λ i. get_or frame (b * p + i) 0)

unfoldable pub bit_columns : ℕ → List ℕ → ℕ → List ℕ
bit_columns b frame p = bit_column b (values_at b frame p)

unfoldable pub bit_costs : ℕ → ℕ → List ℕ → List ℕ
bit_costs b zero frame = []
bit_costs b (suc n) frame = bit_costs b n frame ++ bit_columns b frame n

unfoldable pub bit_table : ℕ → ℕ → List ℕ → List ℕ
bit_table b n frame = cost_bytes (bit_costs b n frame)
