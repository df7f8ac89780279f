-- The product in six planes: 36 products of two powers of α, and α times each of 64 numbers, are computed on single bits.
--
--   products-64   so lanewise's product is that of GF(64) in every lane
use Rattle.lists.specs.Every.{every, every₂}
use Rattle.galois.specs.Binary as Binary
use Rattle.packing.specs.Bits.{bit_at, from_bits}
use Rattle.lanewise.specs.Product.{ProductTests, is_product, is_double, crossed, product_of, doubled_of}
use Rattle.member64.specs.Member64.{gf64}

pub products-64 : ProductTests gf64
unfolding every every₂ is_product is_double crossed product_of doubled_of from_bits bit_at Binary.times Binary.shift_add Binary.xtime
products-64 = record { products = tt; doubles = tt }
