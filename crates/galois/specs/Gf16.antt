-- Document 01's field: the elements are the numbers 0 to 15, bits are coefficients, α is 2, α ^ 4 = α + 1, which is 3, and
-- addition is exclusive or.
--
--   gf16        its record
--   times a b   a × b: shift and reduce, on a and b below 16
--   alpha n     α ^ n
--   inverse a   the inverse of a, and 0 for 0: a ^ 14
--   powers      the powers α ^ 0 to α ^ 14, as document 01 lists them; alpha-15: the next one is 1 again
--   alpha-4     α ^ 4 = α + 1
use Rattle.std.specs.Prelude.{◌≡◌, refl, [], ◌∷◌, ℕ}
use Rattle.std.proofs.Common.{lit<}
use Rattle.std.specs.Int.Bits.{bit_xor}
use Rattle.lists.specs.Every.{every, every₂, every₃}
use Rattle.lists.specs.Listed.{listed}
use Rattle.galois.specs.Binary as Binary
use Rattle.galois.specs.BinaryField as BinaryField
use Rattle.galois.specs.BinaryField.{Gf}

-- 16 products of two powers of α, 64 of three, 15 inverses
pub cases-16 : Binary.Cases 4 3
unfolding every every₂ every₃ Binary.commutes Binary.associates Binary.inverts Binary.inverse Binary.power Binary.times Binary.shift_add Binary.xtime
cases-16 = record { positive = lit< tt; small = lit< tt; commuting = tt; associating = tt; inverting = tt }

abbrev pub gf16 : Gf
gf16 = record { bits = 4; red = 3; known = cases-16 }

abbrev pub times : ℕ → ℕ → ℕ
times a b = BinaryField.times gf16 a b

unfoldable pub alpha : ℕ → ℕ
alpha n = Binary.power 4 3 2 n

abbrev pub inverse : ℕ → ℕ
inverse a = BinaryField.inverse gf16 a

pub powers : listed 15 alpha ≡ 1 ∷ 2 ∷ 4 ∷ 8 ∷ 3 ∷ 6 ∷ 12 ∷ 11 ∷ 5 ∷ 10 ∷ 7 ∷ 14 ∷ 15 ∷ 13 ∷ 9 ∷ []
unfolding listed alpha Binary.power Binary.times Binary.shift_add Binary.xtime
powers = refl

pub alpha-4 : alpha 4 ≡ bit_xor (alpha 1) 1
unfolding alpha Binary.power Binary.times Binary.shift_add Binary.xtime
alpha-4 = refl

pub alpha-15 : alpha 15 ≡ 1
unfolding alpha Binary.power Binary.times Binary.shift_add Binary.xtime
alpha-15 = refl
