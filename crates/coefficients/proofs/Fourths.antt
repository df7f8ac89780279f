-- What one plane's shifts and products come to in the lanes of four.
use mathlib.Core.Path.{◌≡◌, ap, ◌∙◌}
use mathlib.Core.List.{List, [], ◌∷◌}
use Prim.Native.Nat.{ℕ, ◌+◌, ◌*◌, ◌%◌, ◌<◌}
use native.Mathlib.Omega.{arith}
use lib.Dec.{lit<}
use lib.ListN.{get_or}
use Rattle.algebra.specs.Sum.{sum-ext}
use Rattle.algebra.specs.Coefficients.{unit}
use Rattle.galois.specs.Gf16.{gf16}
use Rattle.galois.specs.Field16.{K16}
use Rattle.packing.specs.Bits.{from_bits}
use Rattle.planes.specs.Lanes.{lane}
use Rattle.planes.specs.Elements.{element}
use Rattle.planes.specs.Arrays.{planes_in, element_at, product_of, product-element}
use Rattle.coefficients.specs.Moved.{folded, element-folded, placed_at, element-placed, repeated_at, element-repeated}
use Rattle.coefficients.specs.Fourths.{marks-16, repeats-16}
use Rattle.coefficients.specs.Reading.{marks, met_of, repeat_of, Fibre, Entry}
open K16 use {◌⊗◌}

-- four planes, each by the same rule
four : {a b c d e f g h : ℕ} → a ≡ e → b ≡ f → c ≡ g → d ≡ h → a ∷ b ∷ c ∷ d ∷ [] ≡ e ∷ f ∷ g ∷ h ∷ []
four p q r s = cc (p, q, r, s)

module _ (a : List ℕ) (x : ℕ) where
  abbrev repeat_list : List ℕ
  repeat_list = repeat_of x (get_or a 0 0) ∷ repeat_of x (get_or a 1 0) ∷ repeat_of x (get_or a 2 0) ∷ repeat_of x (get_or a 3 0) ∷ []

  repeat-element : (o : ℕ) → o < 64 → element_at repeat_list o ≡ element_at a (x * 4 + o % 4)
  unfolding element lane from_bits planes_in repeated_at
  repeat-element o h = element-repeated gf16 4 64 marks (lit< tt) repeats-16 (planes_in a) x o h

  abbrev met_list : List ℕ
  met_list = met_of x (get_or a 0 0) ∷ met_of x (get_or a 1 0) ∷ met_of x (get_or a 2 0) ∷ met_of x (get_or a 3 0) ∷ []

  met-element : x < 4 → (y k : ℕ) → k < 4 → y * 4 + k < 64 → element_at met_list (y * 4 + k) ≡ unit K16 x k ⊗ element gf16 (folded gf16 2 (planes_in a)) (y * 4)
  unfolding element lane from_bits planes_in placed_at folded
  met-element s y k l h = element-placed gf16 4 64 marks marks-16 (folded gf16 2 (planes_in a)) x s y k l h

pub fibre-by : (values dual : List ℕ) (j : ℕ) → j < 4 → {terms : List ℕ} {one two four eight : ℕ} → terms ≡ product_of values dual
    → one ≡ met_of j (get_or terms 0 0) → two ≡ met_of j (get_or terms 1 0) → four ≡ met_of j (get_or terms 2 0) → eight ≡ met_of j (get_or terms 3 0)
    → Fibre values dual j (one ∷ two ∷ four ∷ eight ∷ [])
fibre-by values dual j h {terms} e p q r s =
    record {
      lanes = λ x k hx hk.
          ap (λ l. element_at l (x * 4 + k)) (four p q r s)
          ∙ met-element terms j h x k hk (omega arith)
          ∙ ap (λ v. unit K16 j k ⊗ v)
          (element-folded gf16 2 (planes_in terms) (x * 4)
          ∙ sum-ext K16 4 _ _ (λ i l. ap (λ t. element_at t (x * 4 + i)) e ∙ product-element values dual (x * 4 + i)));
    }

pub entry-by : (sums dual : List ℕ) (x : ℕ) {one two four eight : ℕ} {r : List ℕ} → one ≡ repeat_of x (get_or sums 0 0) → two ≡ repeat_of x (get_or sums 1 0)
    → four ≡ repeat_of x (get_or sums 2 0) → eight ≡ repeat_of x (get_or sums 3 0) → r ≡ product_of (one ∷ two ∷ four ∷ eight ∷ []) dual → Entry sums dual x r
entry-by sums dual x p q s t e =
    record {
      lanes = λ o h. ap (λ l. element_at l o) e ∙ product-element _ dual o
          ∙ ap (λ v. v ⊗ element_at dual o) (ap (λ l. element_at l o) (four p q s t) ∙ repeat-element sums x o h);
    }
