-- The rules of the two tables, from tests that are computed over all their lanes.
use mathlib.Core.Bool.{Bool}
use mathlib.Core.Path.{◌∙◌}
use mathlib.Core.List.{List, []}
use Prim.Native.Nat.{ℕ}
use lib.Dec.{T, eqb}
use lib.ListN.{get_or}
use Rattle.lists.specs.Every.{every, every-at}
use Rattle.galois.specs.Gf16.{gf16}
use Rattle.family.specs.Curve.{y_of}
use Rattle.family.specs.Member.{m16}
use Rattle.planes.specs.Lanes.{lane}
use Rattle.planes.specs.Elements.{carries-tested}
use Rattle.planes.specs.Arrays.{planes_in}
use Rattle.functions.specs.Duals.{dual_number, to_f-dual, x_dual}
use Rattle.coefficients.specs.Reading.{YDuals, XDuals}

module _ (t : List (List ℕ)) where
  -- what lane p of entry i is to hold
  unfoldable pub holds : (ℕ → ℕ → ℕ) → ℕ → Bool
  holds v i = every 64 (λ p. eqb (lane 4 (planes_in (get_or t i [])) p) (v i p))

  abbrev pub y_number : ℕ → ℕ → ℕ
  y_number j p = dual_number m16 3 j (y_of gf16 4 p)

  pub y-duals : T (every 4 (holds y_number)) → YDuals t
  unfolding holds
  y-duals test =
      record {
        entries = λ j h. record {
          lanes = λ p l. (carries-tested gf16 64 (y_number j) (planes_in (get_or t j [])) (every-at 4 (holds y_number) test j h)).lanes p l
              ∙ to_f-dual m16 3 j (y_of gf16 4 p);
        };
      }

  abbrev pub x_number : ℕ → ℕ → ℕ
  x_number x o = x_dual m16 o x

  pub x-duals : T (every 16 (holds x_number)) → XDuals t
  unfolding holds
  x-duals test = record { entries = λ x h. carries-tested gf16 64 (x_number x) (planes_in (get_or t x [])) (every-at 16 (holds x_number) test x h) }
