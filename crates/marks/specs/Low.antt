-- The sum of the smallest gaps as the code has it: `weighing` Low at 64 places and sixteen symbols.
--
--   Gaps, Splits, LowSum, clear_of, Markable   mean what they mean there
use Rattle.std.specs.Prelude.{Bool, List, ℕ}
use Rattle.soft.specs.Column.{places, symbols}
use Rattle.weighing.specs.Low as Low

abbrev pub Gaps : (ℕ → List ℕ) → List ℕ → List ℕ → Type 0
Gaps columns flags gaps = Low.Gaps places columns flags gaps

abbrev pub Splits : List ℕ → ℕ → ℕ → Type 0
Splits gaps few t = Low.Splits places gaps few t

abbrev pub LowSum : List ℕ → ℕ → ℕ → Type 0
LowSum gaps few r = Low.LowSum places gaps few r

abbrev pub clear_of : List ℕ → ℕ → ℕ → Bool
clear_of gaps due few = Low.clear_of places gaps due few

abbrev pub Markable : (ℕ → List ℕ) → List ℕ → List ℕ → ℕ → Type 0
Markable columns word flags far = Low.Markable places symbols columns word flags far
