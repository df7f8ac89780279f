-- The curve y^4 + y = x^5 over GF(16), and its points by place (document 01, 'The field and the curve'): the family's, at this member.
--
--   power a n       a multiplied by itself n times
--   is_on_curve x y   the point (x, y) lies on the curve
--   fibre x         the y of the points with this x, rising
--   x_of p, y_of p    place 4X + r is the point with x = X and the r-th smallest y, r from 0 to 3
use Rattle.std.specs.Prelude.{Bool, List, ℕ}
use Rattle.galois.specs.Gf16.{gf16}
use Rattle.galois.specs.BinaryField as BinaryField
use Rattle.family.specs.Curve as Family

abbrev pub power : ℕ → ℕ → ℕ
power a n = BinaryField.power gf16 a n

abbrev pub is_on_curve : ℕ → ℕ → Bool
is_on_curve x y = Family.is_on_curve gf16 4 x y

abbrev pub fibre : ℕ → List ℕ
fibre x = Family.fibre gf16 4 x

abbrev pub x_of : ℕ → ℕ
x_of p = Family.x_of 4 p

abbrev pub y_of : ℕ → ℕ
y_of p = Family.y_of gf16 4 p
