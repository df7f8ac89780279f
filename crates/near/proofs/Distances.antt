-- Document 01's code at two rates: the least distance is exactly 20 at rate 39 and exactly 10 at rate 49.
--
--   light-39                   symbol39 is a codeword of twenty symbols that are not zero at rate 39
--   distance-39, distance-49   so, with the zero word and a codeword of so many symbols that are not zero
--
-- The product of x − a over the eleven a with a^5 other than 1 is x + x^6 + x^11: it is x at the four places of each x with x^5 = 1, and 0 elsewhere.
-- Times (y − 2)(y − 3), which is y^2 + y + 6, it is 0 at two of the four as well.
use Rattle.std.specs.Prelude.{cond, ◌≡◌, refl, List, [], ◌∷◌, ℕ, ◌%◌, T, leb}
use Rattle.std.proofs.Common.{arith, lit<, lit≤}
use Rattle.lists.specs.Count.{sum_of, count, kept}
use Rattle.lists.specs.Every.{every}
use Rattle.lists.specs.Listed.{listed}
use Rattle.lists.specs.Words.{all_below}
use Rattle.galois.specs.Binary as Binary
use Rattle.hermitian.specs.Present.{genus}
use Rattle.hermitian.specs.Orders.{order_of, presents, is_present}
use Rattle.soft.specs.Total.{agree, differing_in, differing}
use Rattle.family.specs.Curve as Curve
use Rattle.family.specs.Member.{places, m16}
use Rattle.family.specs.Sparse.{Term, coefficient_in, message_of, terms_of, sum_at, holds}
use Rattle.near.proofs.Here.{workable, m-is}
use Rattle.near.specs.LeastDistance.{Codeword, LeastDistance, zero_word, least-distance, codeword-terms}
use Rattle.near.specs.Distances.{symbol39}

-- x, x^6 and x^11 have the orders 4, 24 and 44
abbrev terms39 : List Term
terms39 = (1, 4) ∷ (1, 24) ∷ (1, 44) ∷ []

-- times y adds 5, and times y^2 adds 10
abbrev terms49 : List Term
terms49 = (6, 4) ∷ (1, 9) ∷ (1, 14) ∷ (6, 24) ∷ (1, 29) ∷ (1, 34) ∷ (6, 44) ∷ (1, 49) ∷ (1, 54) ∷ []

-- the y of these four places are 2, 3, 4 and 5
abbrev symbol49 : ℕ → ℕ
symbol49 p = cond (leb 2 (p % 4)) (symbol39 p) 0

encoded : T (every (places m16) (holds m16 terms39 symbol39)) × T (every (places m16) (holds m16 terms49 symbol49))
unfolding every holds sum_at Curve.y_of Curve.fibre kept Curve.is_on_curve Binary.power Binary.times Binary.shift_add Binary.xtime
encoded = (tt, tt)

codewords : Codeword m16 39 (listed (places m16) symbol39) × Codeword m16 49 (listed (places m16) symbol49)
unfolding message_of coefficient_in listed terms_of order_of presents is_present genus all_below
codewords = (codeword-terms m16 39 terms39 symbol39 tt refl encoded.0, codeword-terms m16 49 terms49 symbol49 tt refl encoded.1)

pub light-39 : Codeword m16 39 (listed (places m16) symbol39)
light-39 = codewords.0

weights : (differing (places m16) (zero_word m16) (listed (places m16) symbol39) ≡ 20)
    × (differing (places m16) (zero_word m16) (listed (places m16) symbol49) ≡ 10)
unfolding differing_in count sum_of agree listed
weights = (refl, refl)

pub distance-39 : LeastDistance m16 39 20
distance-39 = least-distance m16 (workable (lit≤ tt) (lit≤ tt)) (lit< tt) (omega (arith, m-is 39)) light-39 weights.0

pub distance-49 : LeastDistance m16 49 10
distance-49 = least-distance m16 (workable (lit≤ tt) (lit≤ tt)) (lit< tt) (omega (arith, m-is 49)) codewords.1 weights.1
