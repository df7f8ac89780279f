-- The lead of a function, and multiplication by y, on 64 bytes by order: those of any field of numbers, at GF(16) with w = 4.
--
--   y_at c o          the coefficient o of y times c
--   LeadFound c r    r is the lead of c, an order below 64; 0 where c is zero
use Rattle.std.specs.Prelude.{List, ℕ}
use Rattle.galois.specs.Gf16.{gf16}
use Rattle.coefficients.specs.Bytes.{plain_width, x_order}
use Rattle.functions.specs.TimesY as TimesY
use Rattle.functions.specs.Leading as Leading

abbrev pub y_at : List ℕ → ℕ → ℕ
y_at c = TimesY.y_at x_order c

abbrev pub LeadFound : List ℕ → ℕ → Type 0
LeadFound c r = Leading.LeadFound gf16 plain_width c r
