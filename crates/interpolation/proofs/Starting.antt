-- The start rows by the powers of y, stored one after another.
use mathlib.Core.Path.{◌≡◌, sym, ap, ◌∙◌, subst}
use mathlib.Core.List.{List, [], ◌∷◌}
use mathlib.Core.Logic.{◌≢◌}
use Prim.Native.Nat.{ℕ, zero, suc, ◌+◌, ◌-◌, ◌/◌, ◌%◌, ◌<◌, ◌≤◌}
use native.Mathlib.Omega.{arith}
use lib.ListN.{get_or}
use Rattle.lists.specs.Passed.{Passed}
use Rattle.galois.specs.Gf16.{gf16}
use Rattle.galois.specs.Field16.{K16, to_f}
use Rattle.hermitian.specs.Keys.{z_power}
use Rattle.family.specs.Member.{m16, places, py}
use Rattle.lanewise.specs.Arrays.{power-nil, power-one, power-next}
use Rattle.planes.specs.Product.{products-16}
use Rattle.planes.specs.Arrays.{element_at, Carries, everywhere, none-element, symbols_of, spread_of, spread-carries, product_of, product_is, product-element}
use Rattle.planes.specs.Rows.{value_at, joined_of, whole-joined, slope-joined}
use Rattle.values.specs.Start.{y_power_at}
use Rattle.stepping.specs.Starting.{FirstTerm, first_plain, first-z, rows-started}
use Rattle.basis.specs.Step.{classes, row_values}
use Rattle.interpolation.specs.Start.{YPowers, StartRow, Started}
open K16 use {◌⊗◌}

-- ---- powers of y
pub powers-made : {y s t u : List ℕ} → Carries (py m16) y → s ≡ product_of y y → t ≡ product_of s y → u ≡ spread_of 1 → YPowers (u ∷ y ∷ s ∷ t ∷ [])
powers-made {y} {s} {t} {u} cy es et eu = record { entries = go }
  where
    square : Carries (y_power_at m16 2) s
    square = power-next gf16 (places m16) (py m16) y products-16 y 1 (power-one gf16 (places m16) (py m16) y cy) cy (es ∙ product_is y y)

    go : (j : ℕ) → j < 4 → Carries (y_power_at m16 j) (get_or (u ∷ y ∷ s ∷ t ∷ []) j [])
    go zero h = power-nil gf16 (places m16) (py m16) u (subst (Carries (everywhere (to_f 1))) (sym eu) (spread-carries 1))
    go (suc zero) h = power-one gf16 (places m16) (py m16) y cy
    go (suc (suc zero)) h = square
    go (suc (suc (suc zero))) h = power-next gf16 (places m16) (py m16) s products-16 y 2 square cy (et ∙ product_is s y)
    go (suc (suc (suc (suc j)))) h = absurd (omega arith)

-- ---- one row
-- four planes of zeros
abbrev zeros : List ℕ
zeros = 0 ∷ 0 ∷ 0 ∷ 0 ∷ []

module _ (M r : ℕ) (h : r < classes) (powers : List (List ℕ)) (P : YPowers powers) (symbols : List ℕ) where
  pub row_plain : {row : List ℕ} → r % 2 ≡ 0 → row ≡ joined_of (get_or powers (r / 2) []) zeros → StartRow M r symbols row
  row_plain {row} z e =
      record {
        at = λ p l.
            first_plain m16 z
            (ap (λ v. value_at 0 v p) e ∙ whole-joined (get_or powers (r / 2) []) zeros p ∙ (P.entries (r / 2) (omega arith)).lanes p l)
            (ap (λ v. value_at 1 v p) e ∙ slope-joined (get_or powers (r / 2) []) zeros p ∙ none-element p);
      }

  pub row-z : {y product row : List ℕ} → r % 2 ≢ 0 → y ≡ get_or powers ((r / 2 + (4 - M % 4)) % 4) [] → product ≡ product_of symbols y → row ≡ joined_of product y
      → StartRow M r symbols row
  unfolding z_power
  row-z {y} {product} {row} n ey ep e =
      record {
        at = λ p l.
            first-z m16 n
            (ap (λ v. value_at 0 v p) e ∙ whole-joined product y p ∙ ap (λ v. element_at v p) ep ∙ product-element symbols y p ∙ ap (λ a. element_at symbols p ⊗ a) (power p l))
            (ap (λ v. value_at 1 v p) e ∙ slope-joined product y p ∙ power p l);
      }
    where
      power : (p : ℕ) → p < places m16 → element_at y p ≡ y_power_at m16 ((r / 2 + (4 - M % 4)) % 4) p
      power p l = ap (λ v. element_at v p) ey ∙ (P.entries ((r / 2 + (4 - M % 4)) % 4) (omega arith)).lanes p l

-- ---- all rows
pub record FirstRow (M : ℕ) (symbols : List ℕ) (r : ℕ) (row : List ℕ) : Type 0 where
  pub is : StartRow M r symbols row

pub rows-laid : (M i : ℕ) (word symbols : List ℕ) (before out : List (List ℕ)) → classes ≤ i → Carries (symbols_of word) symbols
    → Passed [] (FirstRow M symbols) 0 i before out → Started M word before out
unfolding row_values
rows-laid M i word symbols before out done carried P =
    record {
      as_long = P.as_long;
      are = rows-started m16 M word (λ r p h l.
          subst (λ s. FirstTerm m16 M r p s (value_at 0 (get_or out r []) p) (value_at 1 (get_or out r []) p)) (carried.lanes p l)
          ((P.stored r (omega arith) (omega arith)).is.at p l));
    }
