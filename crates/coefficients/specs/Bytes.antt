-- Bytes as coefficients by order at GF(16) with w = 4: those of any field of numbers, at this one.
--
--   plain_width, x_order   64, the coefficients of a function by order, and 4, the order of x
--   coef row             the coefficient function of a list of bytes; zero beyond its end (coef-beyond)
--   value-times-to_f      the byte of a product
use Rattle.std.specs.Prelude.{◌≡◌, List, ℕ, ◌≤◌, length, get_or}
use Rattle.galois.specs.Gf16.{gf16, times}
use Rattle.galois.specs.Field16.{GF, K16, to_f, value}
use Rattle.functions.specs.Bytes as Bytes
open K16 use {◌⊗◌, 𝟘}

abbrev pub plain_width : ℕ
plain_width = 64

abbrev pub x_order : ℕ
x_order = 4

abbrev pub coef : List ℕ → ℕ → GF
coef row = Bytes.coef gf16 row

pub coef-at : (row : List ℕ) (i : ℕ) → coef row i ≡ to_f (get_or row i 0)
coef-at = Bytes.coef-at gf16

pub coef-beyond : (row : List ℕ) (i : ℕ) → length row ≤ i → coef row i ≡ 𝟘
coef-beyond = Bytes.coef-beyond gf16

pub value-times-to_f : (a b : ℕ) → value (to_f a ⊗ to_f b) ≡ times a b
value-times-to_f = Bytes.value-times-to_f gf16
