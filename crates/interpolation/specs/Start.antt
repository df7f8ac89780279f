-- The rows before the first place.
--
--   YPowers t            the powers of y below the fourth at all places, in planes
--   StartRow M r s row   the row of the first term of class r: a power of y, or with z that power times the symbols s, and the power as slope
--   Started M word before rows   so are all rows, with the word's symbols, laid where as many rows stood
use Rattle.std.specs.Prelude.{List, [], ℕ, ◌<◌, get_or}
use Rattle.family.specs.Member.{m16, places}
use Rattle.planes.specs.Arrays.{element_at, Carries}
use Rattle.planes.specs.Rows.{value_at}
use Rattle.values.specs.Start.{y_power_at}
use Rattle.stepping.specs.Extending as Stepping
use Rattle.stepping.specs.Starting.{FirstTerm}
use Rattle.basis.specs.Step.{row_values}

pub record YPowers (t : List (List ℕ)) : Type 0 where
  pub entries : (j : ℕ) → j < m16.w → Carries (y_power_at m16 j) (get_or t j [])

pub record StartRow (M r : ℕ) (symbols row : List ℕ) : Type 0 where
  pub at : (p : ℕ) → p < places m16 → FirstTerm m16 M r p (element_at symbols p) (value_at 0 row p) (value_at 1 row p)

abbrev pub Started : ℕ → List ℕ → List (List ℕ) → List (List ℕ) → Type 0
Started M word before rows = Stepping.Started m16 row_values M word before rows
