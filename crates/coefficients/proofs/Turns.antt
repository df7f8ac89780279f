-- The loops over the powers of y and over x on arrays of four planes: each turn adds a term of the family's sums.
use mathlib.Core.Path.{◌≡◌, ap, ◌∙◌, subst}
use mathlib.Core.List.{List, [], ◌∷◌}
use Prim.Native.Nat.{ℕ, ◌+◌, ◌<◌}
use native.Mathlib.Numerals.{add-one}
use Rattle.galois.specs.Field16.{K16}
use Rattle.family.specs.Member.{m16, places, symbols}
use Rattle.planes.specs.Arrays.{element_at, none-element, Carries, sum_of, sum-element, symbol_at, symbol-lt, element-symbol}
use Rattle.planes.specs.Words.{word_of, word_of-element}
use Rattle.functions.specs.Gathering as Gathering
use Rattle.coefficients.specs.Reading.{Fibre, Entry, y_dual_at, x_dual_at, FibreSums, Gathered, coefficients_of}
open K16 use {◌⊕◌}

-- the lanes of a sum
summed : (out add : List ℕ) {next : List ℕ} → next ≡ sum_of out add → (p : ℕ) → p < places m16 → element_at next p ≡ element_at out p ⊕ element_at add p
summed out add e p h = ap (λ l. element_at l p) e ∙ sum-element out add p

-- ---- over the powers of y
module _ (values : List ℕ) where
  abbrev pub FibresTo : ℕ → List ℕ → Type 0
  FibresTo n out = Gathering.FibresTo m16 (element_at values) n (element_at out)

  pub fibres-start : FibresTo 0 (0 ∷ 0 ∷ 0 ∷ 0 ∷ [])
  fibres-start = Gathering.fibres-start m16 (element_at values) _ (λ p h. none-element p)

  pub fibres-turn : (j : ℕ) (out dual add : List ℕ) {next : List ℕ} → FibresTo j out → Carries (y_dual_at j) dual → Fibre values dual j add → next ≡ sum_of out add
      → FibresTo (j + 1) next
  fibres-turn j out dual add t d f e =
      rw add-one (Gathering.fibres-turn m16 (element_at values) j (element_at out) (element_at dual) (element_at add) _ t d.lanes f (summed out add e))

  pub fibres-end : (j : ℕ) (out : List ℕ) → j ≡ m16.w → FibresTo j out → FibreSums values out
  fibres-end j out e t = Gathering.fibres-end m16 (element_at values) (element_at out) (subst (λ n. FibresTo n out) e t)

-- ---- over x
module _ (sums : List ℕ) where
  abbrev pub GatheredTo : ℕ → List ℕ → Type 0
  GatheredTo n out = Gathering.GatheredTo m16 (element_at sums) n (element_at out)

  pub gathered-start : GatheredTo 0 (0 ∷ 0 ∷ 0 ∷ 0 ∷ [])
  gathered-start = Gathering.gathered-start m16 (element_at sums) _ (λ o h. none-element o)

  pub gathered-turn : (x : ℕ) (out dual add : List ℕ) {next : List ℕ} → GatheredTo x out → Carries (x_dual_at x) dual → Entry sums dual x add → next ≡ sum_of out add
      → GatheredTo (x + 1) next
  gathered-turn x out dual add t d f e =
      rw add-one (Gathering.gathered-turn m16 (element_at sums) x (element_at out) (element_at dual) (element_at add) _ t d.lanes f (summed out add e))

  pub gathered-end : (x : ℕ) (out : List ℕ) → x ≡ symbols m16 → GatheredTo x out → Gathered sums out
  gathered-end x out e t = Gathering.gathered-end m16 (element_at sums) (element_at out) (subst (λ n. GatheredTo n out) e t)

-- ---- the whole
pub coefficients-by : (values sums out : List ℕ) {r : List ℕ} → FibreSums values sums → Gathered sums out → r ≡ word_of out → r ≡ coefficients_of (word_of values)
unfolding word_of
coefficients-by values sums out f g e =
    e
    ∙ Gathering.coefficients-by m16 (element_at values) (element_at sums) (element_at out) (word_of values) (symbol_at out) f g (word_of-element values)
    (λ o h. element-symbol out o) (symbol-lt out)
