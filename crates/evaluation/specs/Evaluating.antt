-- Values of functions at GF(16) with w = 4, on arrays of four planes.
--
--   XPowers t             the constant table: entry q holds at place p the power of its x in the monomial of order 4q + p % 4
--   PowerSums, FibreValues, Evaluated    the family's, at this member
use Rattle.std.specs.Prelude.{List, [], ℕ, ◌+◌, ◌*◌, ◌%◌, ◌<◌, get_or}
use Rattle.galois.specs.Field16.{GF, to_f}
use Rattle.family.specs.Curve.{x_of}
use Rattle.family.specs.Member.{m16, symbols}
use Rattle.planes.specs.Arrays.{element_at, Carries}
use Rattle.functions.specs.Values as Values

abbrev pub x_power_at : ℕ → ℕ → GF
x_power_at q p = to_f (Values.x_power_at m16 (q * m16.w + p % m16.w) (x_of m16.w p))

pub record XPowers (t : List (List ℕ)) : Type 0 where
  pub entries : (q : ℕ) → q < symbols m16 → Carries (x_power_at q) (get_or t q [])

abbrev pub PowerSums : List ℕ → List ℕ → Type 0
PowerSums a b = Values.PowerSums m16 (element_at a) (element_at b)

abbrev pub FibreValues : List ℕ → List ℕ → Type 0
FibreValues a b = Values.FibreValues m16 (element_at a) (element_at b)

abbrev pub Evaluated : List ℕ → List ℕ → Type 0
Evaluated f h = Values.Evaluated m16 (element_at f) (element_at h)
