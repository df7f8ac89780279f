-- Each sum is that of its multiples by the bits of x.
use mathlib.Core.Path.{refl}
use Rattle.guess.proofs.Guessing.{xor-four, sums-made}
use Rattle.guess.proofs.sums_of.Goals as goal

pub returns : goal.returns
returns c =
    sums-made _ _ _ _ _ _ _ c.sum_with-one.ensures c.sum_with-two.ensures c.sum_with-four.ensures c.sum_with-eight.ensures
    c.sum_of.ensures refl
    (xor-four c.product.ensures c.product-2.ensures c.product-3.ensures c.product-4.ensures)
    (xor-four c.product-5.ensures c.product-6.ensures c.product-7.ensures c.product-8.ensures)
