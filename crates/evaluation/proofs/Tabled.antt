-- The rule of the constant powers of x, from a test that is computed over all lanes.
use mathlib.Core.Bool.{Bool}
use mathlib.Core.List.{List, []}
use Prim.Native.Nat.{ℕ, ◌+◌, ◌*◌, ◌%◌}
use lib.Dec.{T, eqb}
use lib.ListN.{get_or}
use Rattle.lists.specs.Every.{every, every-at}
use Rattle.galois.specs.Gf16.{gf16}
use Rattle.family.specs.Curve.{x_of}
use Rattle.family.specs.Member.{m16, places, symbols}
use Rattle.planes.specs.Lanes.{lane}
use Rattle.planes.specs.Elements.{carries-tested}
use Rattle.planes.specs.Arrays.{planes_in}
use Rattle.functions.specs.Values as Values
use Rattle.evaluation.specs.Evaluating.{XPowers}

module _ (t : List (List ℕ)) where
  abbrev pub power : ℕ → ℕ → ℕ
  power q p = Values.x_power_at m16 (q * m16.w + p % m16.w) (x_of m16.w p)

  -- entry q holds them
  unfoldable pub holds : ℕ → Bool
  holds q = every (places m16) (λ p. eqb (lane gf16.bits (planes_in (get_or t q [])) p) (power q p))

  pub x-powers : T (every (symbols m16) holds) → XPowers t
  unfolding holds
  x-powers test = record { entries = λ q h. carries-tested gf16 (places m16) (power q) (planes_in (get_or t q [])) (every-at (symbols m16) holds test q h) }
