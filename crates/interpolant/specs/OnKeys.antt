-- A Q on numbers as a Q on keys over GF(16), and back. That its values are those of the theory stands in proofs/.
--
--   coefficients_of q    the coefficients of q by key, in GF(16)
--   word_of n c          the coefficients of the n lowest keys as numbers, the highest first
use Rattle.std.specs.Prelude.{ℕ}
use mathlib.Core.List.{List}
use Rattle.lists.specs.Falling.{falling}
use Rattle.galois.specs.Field16.{GF, to_f, value}
use Rattle.interpolant.specs.LeastQ.{coefficient}

-- ---- coefficients as numbers and as elements
unfoldable pub word_of : ℕ → (ℕ → GF) → List ℕ
word_of n c = falling n (λ k. value (c k))

unfoldable pub coefficients_of : List ℕ → ℕ → GF
coefficients_of q k = to_f (coefficient q k)
