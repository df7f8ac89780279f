-- Functions by order at GF(16) with w = 4: 64 coefficients, that of order o at o; what stands at a missing order counts for nothing.
--
--   value_of f p          the value at place p of the function with coefficients f
--   coefficient_of m o    the coefficient of order o in the function of message m: symbol t at the t-th present order
--   function_of m         all 64 of them
use Rattle.std.specs.Prelude.{List, ℕ}
use Rattle.family.specs.Member.{m16}
use Rattle.family.specs.Evaluation as Family

abbrev pub value_of : List ℕ → ℕ → ℕ
value_of f p = Family.value_of m16 f p

abbrev pub coefficient_of : List ℕ → ℕ → ℕ
coefficient_of m o = Family.coefficient_of m16 m o

abbrev pub function_of : List ℕ → List ℕ
function_of m = Family.function_of m16 m
