-- The rows of terms.
--
--   monomial_at o p        the monomial of order o at place p
--   PowerOf base n r      at every place the n-th power of what stands there
--   Tests P b             b tells whether P holds
--   TermRow M key symbols row   the row of the term with this key: its monomial's values, or with z these times the symbols, and they themselves as slope
use Rattle.std.specs.Prelude.{Bool, true, false, ◌≢◌, ◌≡◌, List, ℕ, ◌-◌, ◌/◌, ◌%◌, ◌<◌}
use Rattle.algebra.specs.Power.{pow}
use Rattle.galois.specs.Field16.{GF, K16}
use Rattle.hermitian.specs.Value.{monomial}
use Rattle.family.specs.Member.{m16, places, px, py}
use Rattle.planes.specs.Arrays.{element_at, Carries}
use Rattle.planes.specs.Rows.{value_at}
open K16 use {◌⊗◌, 𝟘}

abbrev pub monomial_at : ℕ → ℕ → GF
monomial_at o p = monomial K16 m16.w (px m16 p) (py m16 p) o

pub record PowerOf (base : List ℕ) (n : ℕ) (r : List ℕ) : Type 0 where
  pub carries : (v : ℕ → GF) → Carries v base → Carries (λ p. pow K16 (v p) n) r

pub record Tests (P : Type 0) (b : Bool) : Type 0 where
  pub holds : b ≡ true → P
  pub fails : b ≡ false → ¬ P

pub record TermRow (M key : ℕ) (symbols row : List ℕ) : Type 0 where
  pub plain_whole : key % 2 ≡ 0 → (p : ℕ) → p < places m16 → value_at 0 row p ≡ monomial_at (key / 2) p
  pub plain_slope : key % 2 ≡ 0 → (p : ℕ) → p < places m16 → value_at 1 row p ≡ 𝟘
  pub z_whole : key % 2 ≢ 0 → (p : ℕ) → p < places m16 → value_at 0 row p ≡ element_at symbols p ⊗ monomial_at (key / 2 - M) p
  pub z_slope : key % 2 ≢ 0 → (p : ℕ) → p < places m16 → value_at 1 row p ≡ monomial_at (key / 2 - M) p
