-- The sum over the powers of x, four orders a turn, and Horner's rule in y, on arrays of four planes: the family's loops, and what both come to.
use mathlib.Core.Path.{◌≡◌, sym, ap, ◌∙◌, subst}
use mathlib.Core.List.{List, [], ◌∷◌}
use Prim.Native.Nat.{ℕ, suc, ◌<◌}
use Rattle.lists.specs.Listed.{listed}
use Rattle.galois.specs.Field16.{K16}
use Rattle.family.specs.Member.{m16, places, symbols, py}
use Rattle.family.specs.Evaluation as Evaluation
use Rattle.planes.specs.Arrays.{element_at, none-element, Carries, symbols_of, sum_of, sum-element, product_of, product-element, symbol_at, symbol-lt, element-symbol}
use Rattle.planes.specs.Words.{word_of}
use Rattle.functions.specs.Values as Values
use Rattle.coefficients.specs.Reading.{Entry}
use Rattle.evaluation.specs.Broad.{Broad}
use Rattle.evaluation.specs.Evaluating.{x_power_at, PowerSums, FibreValues, Evaluated}
open K16 use {◌⊕◌, ◌⊗◌}

-- the lanes of a sum
summed : (out add : List ℕ) {next : List ℕ} → next ≡ sum_of out add → (p : ℕ) → p < places m16 → element_at next p ≡ element_at out p ⊕ element_at add p
summed out add e p h = ap (λ l. element_at l p) e ∙ sum-element out add p

-- ---- over the powers of x
module _ (function : List ℕ) where
  abbrev pub PowersTo : ℕ → List ℕ → Type 0
  PowersTo n out = Values.PowersTo m16 (element_at function) n (element_at out)

  pub powers-start : PowersTo 0 (0 ∷ 0 ∷ 0 ∷ 0 ∷ [])
  powers-start = Values.powers-start m16 (element_at function) _ (λ p h. none-element p)

  pub powers-turn : (q n : ℕ) (out power add : List ℕ) {next : List ℕ} → n ≡ suc q → PowersTo q out → Carries (x_power_at q) power → Entry function power q add
      → next ≡ sum_of out add → PowersTo n next
  powers-turn q n out power add {next} e t d f s =
      subst (λ k. PowersTo k next) (sym e)
      (Values.powers-turn m16 (element_at function) q (element_at out) (element_at power) (element_at add) _ t d.lanes f (summed out add s))

  pub powers-end : (n : ℕ) (out : List ℕ) → n ≡ symbols m16 → PowersTo n out → PowerSums function out
  powers-end n out e t = Values.powers-end m16 (element_at function) (element_at out) (subst (λ n. PowersTo n out) e t)

-- ---- over those of y, from the highest down
module _ (a : List ℕ) where
  abbrev pub FibreTo : ℕ → List ℕ → Type 0
  FibreTo j b = Values.FibreTo m16 (element_at a) j (element_at b)

  pub fibre-last : (j : ℕ) (b : List ℕ) → suc j ≡ m16.w → Broad a j b → FibreTo j b
  fibre-last j b last f = Values.fibre-last m16 (element_at a) j (element_at b) last f

  pub fibre-turn : (j : ℕ) (b product broad y : List ℕ) {next : List ℕ} → j < m16.w → Carries (py m16) y → FibreTo (suc j) b → product ≡ product_of b y → Broad a j broad
      → next ≡ sum_of product broad → FibreTo j next
  fibre-turn j b product broad y l points t e f s =
      Values.fibre-turn m16 (element_at a) j (element_at b) (element_at y) (element_at broad) _ l t points.lanes f (λ p h.
      summed product broad s p h ∙ ap (λ u. u ⊕ element_at broad p) (ap (λ l. element_at l p) e ∙ product-element b y p))

  pub fibre-end : (b : List ℕ) → FibreTo 0 b → FibreValues a b
  fibre-end b t = Values.fibre-end m16 (element_at a) (element_at b) t

-- ---- the whole
pub evaluated-by : (function sums values : List ℕ) → PowerSums function sums → FibreValues sums values → Evaluated function values
evaluated-by function sums values s v = Values.evaluated-by m16 (element_at function) (element_at sums) (element_at values) s v

pub codeword-by : (c function values : List ℕ) {r : List ℕ} → Carries (symbols_of c) function → Evaluated function values → r ≡ word_of values
    → r ≡ listed (places m16) (Evaluation.value_of m16 c)
unfolding word_of
codeword-by c function values held v e =
    e ∙ Values.codeword-by m16 c (element_at function) (element_at values) (symbol_at values) held.lanes v (λ p h. element-symbol values p) (symbol-lt values)
