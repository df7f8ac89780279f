-- The interpolant reading (document 01, 'Calls, in the order of their checks', with the bytes of document 02): the least Q = Q0 + Q1 z through the settled
-- places, and its 98 bytes.
--
--   a node (`code`)     a settled place that is taken, with z the best symbol there
--   coefficient q k     a Q is a list of coefficients by key, from the highest key down: that of key k has k others behind it
--   function_at f n p    the value at place p of the function with the n coefficients f, by order
--   value_at_node M q n       the value of Q at a node: Q0's, and z times Q1's
--   is_through M ns q    Q vanishes at every node of ns
--   has_terms M q        Q is zero at every key that is no term's
--   is_nonzero q         Q is not zero
--   is_candidate M ns q  all three
--   keys                129: the key of x^16 + x, which vanishes at every place, is 128
--   least_q M ns         the first such Q of 129 coefficients below 16, the highest key compared first
--   top_plain, top_z      64 and 32: the highest orders of Q0 and of Q1 that have a byte
--   byte_key M i         the key whose coefficient is byte i: bytes 0 to 64 are Q0 by order, 65 to 97 are Q1 by orders 0 to 32
--   bytes_of_q n M q      the first n of them
--   reading_length       98
--   reading_of M ns      the 98 bytes
use Rattle.std.specs.Prelude.{Bool, true, not, cond, List, [], ◌∷◌, ℕ, suc, ◌+◌, ◌-◌, eqb, ltb, length}
use Rattle.std.proofs.Math.Option.{Option, some, none}
use Rattle.std.specs.Int.Bits.{bit_xor}
use Rattle.lists.specs.Every.{both, every}
use Rattle.lists.specs.Listed.{listed}
use Rattle.lists.specs.Falling.{from_end}
use Rattle.lists.specs.XorSum.{xor_sum}
use Rattle.lists.specs.Words.{words}
use Rattle.lists.specs.Answers.{first_that}
use Rattle.algebra.specs.Coefficients.{choose}
use Rattle.galois.specs.Gf16.{times}
use Rattle.hermitian.specs.Keys.{plain, times_z, key, dec_key}
use Rattle.code.specs.Encoding.{monomial}
use Rattle.family.specs.Nodes.{Node}

unfoldable pub coefficient : List ℕ → ℕ → ℕ
coefficient q k = from_end q k

-- the coefficients of Q0 and of Q1, by order
abbrev pub plain_of : ℕ → List ℕ → ℕ → ℕ
plain_of M q o = coefficient q (key M (plain o))

abbrev pub z_of : ℕ → List ℕ → ℕ → ℕ
z_of M q o = coefficient q (key M (times_z o))

unfoldable pub function_at : (ℕ → ℕ) → ℕ → ℕ → ℕ
function_at f n p = xor_sum n (λ o. times (f o) (monomial o p))

-- no order is above its key, so the length of q bounds both sums
unfoldable pub value_at_node : ℕ → List ℕ → Node → ℕ
value_at_node M q n = bit_xor (function_at (plain_of M q) (length q) n.place) (times n.symbol (function_at (z_of M q) (length q) n.place))

unfoldable pub is_through : ℕ → List Node → List ℕ → Bool
is_through M [] q = true
is_through M (n ∷ ns) q = both (eqb (value_at_node M q n) 0) (is_through M ns q)

-- 'missing orders hold 0': where no term stands, neither does a coefficient
unfoldable pub term_or_zero : ℕ → List ℕ → ℕ → Bool
term_or_zero M q k = choose (dec_key 4 M k) true (eqb (coefficient q k) 0)

unfoldable pub has_terms : ℕ → List ℕ → Bool
has_terms M q = every (length q) (term_or_zero M q)

unfoldable pub zero_at : List ℕ → ℕ → Bool
zero_at q k = eqb (coefficient q k) 0

unfoldable pub is_nonzero : List ℕ → Bool
is_nonzero q = not (every (length q) (zero_at q))

unfoldable pub is_candidate : ℕ → List Node → List ℕ → Bool
is_candidate M ns q = both (is_nonzero q) (both (has_terms M q) (is_through M ns q))

abbrev pub keys : ℕ
keys = 129

-- 'the least Q has the smallest highest term, with coefficient 1': the theorem in specs/Least.antt
unfoldable pub least_q : ℕ → List Node → Option (List ℕ)
least_q M ns = first_that (is_candidate M ns) (words 16 keys)

abbrev pub top_plain : ℕ
top_plain = 64

abbrev pub top_z : ℕ
top_z = 32

abbrev pub reading_length : ℕ
reading_length = suc top_plain + suc top_z

unfoldable pub byte_key : ℕ → ℕ → ℕ
byte_key M i = cond (ltb i (suc top_plain)) (key M (plain i)) (key M (times_z (i - suc top_plain)))

unfoldable pub byte_at : ℕ → List ℕ → ℕ → ℕ
byte_at M q i = coefficient q (byte_key M i)

-- there is always a least Q: the theorem in specs/Least.antt
unfoldable pub bytes_of_q : ℕ → ℕ → Option (List ℕ) → List ℕ
bytes_of_q n M none = []
bytes_of_q n M (some q) = listed n (byte_at M q)

unfoldable pub reading_of : ℕ → List Node → List ℕ
reading_of M ns = bytes_of_q reading_length M (least_q M ns)
