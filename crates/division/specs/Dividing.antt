-- What the division computes, on 64 bytes by order: that of any field of numbers, at GF(16) with w = 4.
--
--   next_at rest at o by   the next coefficient: the rest's at `at` times by, none at an absent order
--   less_at rest by f up o the coefficient o of the rest and by times f moved up by `up` orders
--   y_powers c             c times 1, y, y² and y³
--   Divided q0 q1 m r     r holds symbols, and where q1 has a lead that leaves room, the quotient of q0 by q1 from order m down
use Rattle.std.specs.Prelude.{List, ℕ}
use Rattle.galois.specs.Gf16.{gf16}
use Rattle.coefficients.specs.Bytes.{plain_width, x_order}
use Rattle.functions.specs.Dividing as Dividing

abbrev pub next_at : List ℕ → ℕ → ℕ → ℕ → ℕ
next_at rest at o by = Dividing.next_at gf16 x_order plain_width rest at o by

abbrev pub less_at : List ℕ → ℕ → List ℕ → ℕ → ℕ → ℕ
less_at rest by f up = Dividing.less_at gf16 rest by f up

abbrev pub y_powers : List ℕ → List (List ℕ)
y_powers c = Dividing.y_powers x_order plain_width c

abbrev pub Divided : List ℕ → List ℕ → ℕ → List ℕ → Type 0
Divided q0 q1 m r = Dividing.Divided gf16 x_order plain_width q0 q1 m r
