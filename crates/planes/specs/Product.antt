-- The product of four planes by four: what lanewise has for any field, at GF(16), written out.
--
--   ones f g, twos f g, fours f g, eights f g   the planes of the product: those of α ^ 4, α ^ 5 and α ^ 6 come back by α ^ 4 = α + 1
--   products-16        sixteen products of two powers of α, and α times each of sixteen numbers, are computed on single bits; so it is the product in every lane
use Rattle.std.specs.Prelude.{ℕ}
use Rattle.std.specs.Int.Bits.{bit_and, bit_xor}
use Rattle.lists.specs.Every.{every, every₂}
use Rattle.galois.specs.Binary as Binary
use Rattle.galois.specs.Gf16.{gf16}
use Rattle.packing.specs.Bits.{bit_at, from_bits}
use Rattle.lanewise.specs.Lanes.{Planes}
use Rattle.lanewise.specs.Product.{ProductTests, is_product, is_double, crossed, product_of, doubled_of}

module _ (f g : Planes) where
  -- what passes bit 3
  abbrev pub fourth : ℕ
  fourth = bit_xor (bit_xor (bit_and (f 1) (g 3)) (bit_and (f 2) (g 2))) (bit_and (f 3) (g 1))

  abbrev pub fifth : ℕ
  fifth = bit_xor (bit_and (f 2) (g 3)) (bit_and (f 3) (g 2))

  abbrev pub sixth : ℕ
  sixth = bit_and (f 3) (g 3)

  abbrev pub ones : ℕ
  ones = bit_xor (bit_and (f 0) (g 0)) fourth

  abbrev pub twos : ℕ
  twos = bit_xor (bit_xor (bit_xor (bit_and (f 0) (g 1)) (bit_and (f 1) (g 0))) fourth) fifth

  abbrev pub fours : ℕ
  fours = bit_xor (bit_xor (bit_xor (bit_xor (bit_and (f 0) (g 2)) (bit_and (f 1) (g 1))) (bit_and (f 2) (g 0))) fifth) sixth

  abbrev pub eights : ℕ
  eights = bit_xor (bit_xor (bit_xor (bit_xor (bit_and (f 0) (g 3)) (bit_and (f 1) (g 2))) (bit_and (f 2) (g 1))) (bit_and (f 3) (g 0))) sixth

pub products-16 : ProductTests gf16
unfolding every every₂ is_product is_double crossed product_of doubled_of from_bits bit_at Binary.times Binary.shift_add Binary.xtime
products-16 = record { products = tt; doubles = tt }
