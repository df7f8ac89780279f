-- Reading coefficients off values, at GF(16) with w = 4, on arrays of four planes.
--
--   met_of j a, repeat_of x a    what is done to each plane: sums of four lanes moved to lane j of each four; the four lanes of x repeated
--   YDuals t, XDuals t         the constant tables
--   Fibre, Entry, FibreSums, Gathered, coefficients_of    the family's, at this member: what one turn adds, and the sums of all
use Rattle.std.specs.Prelude.{List, [], ℕ, ◌-◌, ◌*◌, ◌/◌, ◌%◌, ◌^◌, ◌<◌, get_or}
use Rattle.std.specs.Int.Bits.{bit_and, bit_xor}
use Rattle.algebra.specs.Dual.{dual}
use Rattle.galois.specs.Field16.{GF, K16, to_f}
use Rattle.family.specs.Member.{m16, places, symbols, py}
use Rattle.planes.specs.Arrays.{element_at, Carries}
use Rattle.functions.specs.Duals as Duals
use Rattle.functions.specs.Gathering as Gathering

abbrev pub marks : ℕ
marks = 0x1111111111111111

abbrev pub met_of : ℕ → ℕ → ℕ
met_of j a = bit_and (bit_xor (bit_xor a (a / 2)) (bit_xor a (a / 2) / 4)) marks * 2 ^ j % 2 ^ places m16

abbrev pub repeat_of : ℕ → ℕ → ℕ
repeat_of x a = a / 2 ^ (x * 4) % 16 * marks

abbrev pub Fibre : List ℕ → List ℕ → ℕ → List ℕ → Type 0
Fibre values dual j r = Gathering.Fibre m16 (element_at values) (element_at dual) j (element_at r)

abbrev pub Entry : List ℕ → List ℕ → ℕ → List ℕ → Type 0
Entry sums dual x r = Gathering.Entry m16 (element_at sums) (element_at dual) x (element_at r)

-- ---- tables
abbrev pub y_dual_at : ℕ → ℕ → GF
y_dual_at j p = dual K16 (m16.w - 1) j (py m16 p)

pub record YDuals (t : List (List ℕ)) : Type 0 where
  pub entries : (j : ℕ) → j < m16.w → Carries (y_dual_at j) (get_or t j [])

abbrev pub x_dual_at : ℕ → ℕ → GF
x_dual_at x o = to_f (Duals.x_dual m16 o x)

pub record XDuals (t : List (List ℕ)) : Type 0 where
  pub entries : (x : ℕ) → x < symbols m16 → Carries (x_dual_at x) (get_or t x [])

-- ---- the whole
abbrev pub FibreSums : List ℕ → List ℕ → Type 0
FibreSums a b = Duals.FibreSums m16 (element_at a) (element_at b)

abbrev pub Gathered : List ℕ → List ℕ → Type 0
Gathered a b = Duals.Gathered m16 (element_at a) (element_at b)

abbrev pub coefficients_of : List ℕ → List ℕ
coefficients_of v = Duals.coefficients_of m16 v
