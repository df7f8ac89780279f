-- The Hermitian curve y^w + y = x^(w + 1) over a field of numbers, and its points by place (document 01, 'The field and the curve').
--
--   is_on_curve x y   the point (x, y) lies on the curve
--   fibre x         the y of the points with this x, rising
--   x_of p, y_of p    place w·X + r is the point with x = X and the r-th smallest y, r from 0 to w − 1
--   fibre-on, fibre-member   a fibre holds the y of the points with its x, and all of them; fibre-rising: they rise
use Rattle.std.specs.Prelude.{Bool, ℕ, suc, ◌/◌, ◌%◌, ◌<◌, T, eqb, get_or}
use mathlib.Core.List.{List, Memᴰ}
use Rattle.std.specs.Int.Bits.{bit_xor}
use Rattle.lists.specs.Count.{kept, kept-passes, kept-member, kept-rising, Rising}
use Rattle.galois.specs.BinaryField.{Gf, size, power}

module _ (gf : Gf) (w : ℕ) where
  unfoldable pub is_on_curve : ℕ → ℕ → Bool
  is_on_curve x y = eqb (bit_xor (power gf y w) y) (power gf x (suc w))

  -- of the elements those that lie on the curve with x
  unfoldable pub fibre : ℕ → List ℕ
  fibre x = kept (size gf) (is_on_curve x)

  unfoldable pub y_of : ℕ → ℕ
  y_of p = get_or (fibre (p / w)) (p % w) 0

  module _ (x : ℕ) where
    pub fibre-on : (y : ℕ) → Memᴰ y (fibre x) → (y < size gf) × T (is_on_curve x y)
    unfolding fibre
    fibre-on = kept-passes (size gf) (is_on_curve x)

    pub fibre-member : (y : ℕ) → y < size gf → T (is_on_curve x y) → Memᴰ y (fibre x)
    unfolding fibre
    fibre-member = kept-member (size gf) (is_on_curve x)

    pub fibre-rising : Rising (fibre x)
    unfolding fibre
    fibre-rising = kept-rising (size gf) (is_on_curve x)

abbrev pub x_of : ℕ → ℕ → ℕ
x_of w p = p / w
