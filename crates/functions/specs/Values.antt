-- The values of a function at the places, from its coefficients by order, for every member: sums over the powers of x, then, on each fibre, over
-- those of y. Coefficients, sums and values are functions of a lane or a place, however they are kept.
--
--   x_power_at o x         the power of x in the monomial of order o, as a number, and 0 for a missing order
--   PowerSums f g        g holds at lane p, with the x of place p, the sum over all q of lane q·w + p % w of f times that power of order q·w + p % w
--   FibreValues g h      h holds at lane p, with the y of place p, the sum over j below w of lane j of the same fibre times y^j
--   values-read          so h holds the values by place of the function whose coefficients f holds
--   Evaluated f h        whatever function's coefficients f holds by order, h holds its values by place
--   Broad g j r          r holds at each place lane j of its fibre
--   PowersTo, powers-start, powers-turn, powers-end    a loop over the powers of x: the sums over those passed
--   FibreTo, fibre-last, fibre-turn, fibre-end         Horner's rule in y on each fibre, from the highest power down
--   evaluated-by, codeword-by    both together; where the values are kept as numbers, these are the codeword
use Rattle.std.specs.Prelude.{◌≡◌, List, get_or}
use Rattle.std.proofs.Math.Path.{sym, ap, ap₂}
use Rattle.std.proofs.Common.{◌∙◌}
use Prim.Native.Nat.{ℕ, suc, ◌+◌, ◌*◌, ◌%◌, ◌<◌}
use Rattle.lists.specs.Listed.{listed, listed_at, listed-ext}
use Rattle.algebra.specs.Field.{zero-mul, mul_assoc}
use Rattle.algebra.specs.Sum.{sum, sum-nil, sum-suc, sum-ext, sum-scale-right, sum-swap, sum-blocks}
use Rattle.algebra.specs.Power.{pow}
use Rattle.galois.specs.BinaryField.{GF, K, size, power, to_f, to_f-injective, to_f-zero, to_f-times, to_f-power, to_f-xor_sum}
use Rattle.hermitian.specs.Present.{Present, dec_present}
use Rattle.hermitian.specs.Orders.{x_power, is_present}
use Rattle.hermitian.specs.Value as Value
use Rattle.family.specs.Curve.{x_of}
use Rattle.family.specs.Member.{Member, places, py}
use Rattle.family.specs.Points.{x_below, place_of, place-below}
use Rattle.family.specs.Encoding.{to_f-monomial}
use Rattle.family.specs.Evaluation.{if_present, present-yes, present-no, monomial_at, value_by, value_by-below, value_term, value_of}
use Rattle.functions.specs.Horner.{HornerTo, horner-last, horner-turn, horner-end}
use Rattle.functions.specs.Gathering.{Entry}

module _ (𝓜 : Member) where
  open 𝓜 use {gf, w, wide}
  open K gf use {◌⊕◌, ◌⊗◌, 𝟘}

  unfoldable pub x_power_at : ℕ → ℕ → ℕ
  x_power_at o x = if_present (is_present w o) (power gf x (x_power w o))

  pub record PowerSums (f g : ℕ → GF gf) : Type 0 where
    pub lanes : (p : ℕ) → p < places 𝓜
        → g p ≡ sum (K gf) (size gf) (λ q. f (q * w + p % w) ⊗ to_f gf (x_power_at (q * w + p % w) (x_of w p)))

  pub record FibreValues (g h : ℕ → GF gf) : Type 0 where
    pub lanes : (p : ℕ) → p < places 𝓜 → h p ≡ sum (K gf) w (λ j. g (x_of w p * w + j) ⊗ pow (K gf) (py 𝓜 p) j)

  pub record Evaluated (f h : ℕ → GF gf) : Type 0 where
    pub values : (c : List ℕ) → ((o : ℕ) → o < places 𝓜 → f o ≡ to_f gf (get_or c o 0)) → (p : ℕ) → p < places 𝓜 → h p ≡ to_f gf (value_of 𝓜 c p)

  pub record Broad (g : ℕ → GF gf) (j : ℕ) (r : ℕ → GF gf) : Type 0 where
    pub lanes : (p : ℕ) → p < places 𝓜 → r p ≡ g (x_of w p * w + j)

  -- both powers of a monomial are its value
  powers-value : (p o : ℕ) → to_f gf (x_power_at o (x_of w p)) ⊗ pow (K gf) (py 𝓜 p) (o % w) ≡ to_f gf (monomial_at 𝓜 p o)
  unfolding x_power_at monomial_at Value.monomial
  powers-value p o = go (dec_present w o)
    where
      go : Dec (Present w o) → to_f gf (x_power_at o (x_of w p)) ⊗ pow (K gf) (py 𝓜 p) (o % w) ≡ to_f gf (monomial_at 𝓜 p o)
      go (yes a) =
          ap (λ u. u ⊗ pow (K gf) (py 𝓜 p) (o % w)) (ap (to_f gf) (present-yes 𝓜 o _ a) ∙ to_f-power gf (x_of w p) (x_power w o))
          ∙ sym (ap (to_f gf) (present-yes 𝓜 o _ a) ∙ to_f-monomial 𝓜 o p)
      go (no a) =
          ap (λ u. u ⊗ pow (K gf) (py 𝓜 p) (o % w)) (ap (to_f gf) (present-no 𝓜 o _ a) ∙ to_f-zero gf) ∙ zero-mul (K gf) _
          ∙ sym (ap (to_f gf) (present-no 𝓜 o _ a) ∙ to_f-zero gf)

  module _ (f g h : ℕ → GF gf) (sums : PowerSums f g) (fibres : FibreValues g h) (c : List ℕ)
      (held : (o : ℕ) → o < places 𝓜 → f o ≡ to_f gf (get_or c o 0)) (p : ℕ) (there : p < places 𝓜) where
    -- what order o adds
    added : ℕ → ℕ
    added o = value_term 𝓜 c (listed (places 𝓜) (monomial_at 𝓜 p)) o

    one : (q j : ℕ) → q < size gf → j < w
        → (f (q * w + j) ⊗ to_f gf (x_power_at (q * w + j) (x_of w p))) ⊗ pow (K gf) (py 𝓜 p) j ≡ to_f gf (added (q * w + j))
    unfolding added value_term
    one q j hq hj =
        let o : ℕ = q * w + j in
        let l : o < places 𝓜 = place-below 𝓜 q j hq hj in
        mul_assoc (K gf) _ _ _
        ∙ ap₂ (λ a b. a ⊗ b) (held o l)
        (ap (λ k. to_f gf (x_power_at o (x_of w p)) ⊗ pow (K gf) (py 𝓜 p) k) (sym (place_of 𝓜 q j hj).1) ∙ powers-value p o)
        ∙ sym (to_f-times gf _ _ ∙ ap (λ m. to_f gf (get_or c o 0) ⊗ to_f gf m) (listed_at (places 𝓜) o (monomial_at 𝓜 p) 0 l))

    -- the sum over the powers of x, for one power of y
    column : (j : ℕ) → j < w → g (x_of w p * w + j) ⊗ pow (K gf) (py 𝓜 p) j ≡ sum (K gf) (size gf) (λ q. to_f gf (added (q * w + j)))
    column j hj =
        let e = place_of 𝓜 (x_of w p) j hj in
        ap (λ s. s ⊗ pow (K gf) (py 𝓜 p) j)
        (sums.lanes (x_of w p * w + j) (place-below 𝓜 (x_of w p) j (x_below 𝓜 p there) hj)
        ∙ sum-ext (K gf) (size gf) _ _ (λ q hq. ap₂ (λ x k. f (q * w + k) ⊗ to_f gf (x_power_at (q * w + k) x)) e.0 e.1))
        ∙ sym (sum-scale-right (K gf) (size gf) (pow (K gf) (py 𝓜 p) j) _)
        ∙ sum-ext (K gf) (size gf) _ _ (λ q hq. one q j hq hj)

    pub values-read : h p ≡ to_f gf (value_of 𝓜 c p)
    unfolding value_of value_by added
    values-read =
        fibres.lanes p there
        ∙ sum-ext (K gf) w _ _ (λ j hj. column j hj)
        ∙ sum-swap (K gf) w (size gf) (λ j q. to_f gf (added (q * w + j)))
        ∙ sym (sum-blocks (K gf) (size gf) w (λ o. to_f gf (added o)))
        ∙ sym (to_f-xor_sum gf (places 𝓜) added)

  -- ---- over the powers of x
  module _ (f : ℕ → GF gf) where
    pub record PowersTo (n : ℕ) (out : ℕ → GF gf) : Type 0 where
      pub lanes : (p : ℕ) → p < places 𝓜 → out p ≡ sum (K gf) n (λ q. f (q * w + p % w) ⊗ to_f gf (x_power_at (q * w + p % w) (x_of w p)))

    pub powers-start : (out : ℕ → GF gf) → ((p : ℕ) → p < places 𝓜 → out p ≡ 𝟘) → PowersTo 0 out
    powers-start out z = record { lanes = λ p h. z p h ∙ sym (sum-nil (K gf) _) }

    pub powers-turn : (q : ℕ) (out power add next : ℕ → GF gf) → PowersTo q out
        → ((p : ℕ) → p < places 𝓜 → power p ≡ to_f gf (x_power_at (q * w + p % w) (x_of w p))) → Entry 𝓜 f power q add
        → ((p : ℕ) → p < places 𝓜 → next p ≡ out p ⊕ add p) → PowersTo (suc q) next
    powers-turn q out power add next t d a e =
        record {
          lanes = λ p h.
              e p h ∙ ap₂ (λ u v. u ⊕ v) (t.lanes p h) (a.lanes p h ∙ ap (λ v. f (q * w + p % w) ⊗ v) (d p h)) ∙ sym (sum-suc (K gf) q _);
        }

    pub powers-end : (out : ℕ → GF gf) → PowersTo (size gf) out → PowerSums f out
    powers-end out t = record { lanes = t.lanes }

  -- ---- over those of y, from the highest down
  module _ (g : ℕ → GF gf) where
    -- the coefficient of y^j with the x of a place
    abbrev pub coefficient : ℕ → ℕ → GF gf
    coefficient p j = g (x_of w p * w + j)

    abbrev pub FibreTo : ℕ → (ℕ → GF gf) → Type 0
    FibreTo j b = HornerTo (K gf) (places 𝓜) coefficient (py 𝓜) w j b

    pub fibre-last : (j : ℕ) (b : ℕ → GF gf) → suc j ≡ w → Broad g j b → FibreTo j b
    fibre-last j b last f = horner-last (K gf) (places 𝓜) coefficient (py 𝓜) w j b last f.lanes

    pub fibre-turn : (j : ℕ) (b y broad next : ℕ → GF gf) → j < w → FibreTo (suc j) b → ((p : ℕ) → p < places 𝓜 → y p ≡ py 𝓜 p) → Broad g j broad
        → ((p : ℕ) → p < places 𝓜 → next p ≡ b p ⊗ y p ⊕ broad p) → FibreTo j next
    fibre-turn j b y broad next l t points f e =
        horner-turn (K gf) (places 𝓜) coefficient (py 𝓜) w j b next l t (λ p h.
        e p h ∙ ap₂ (λ u v. b p ⊗ u ⊕ v) (points p h) (f.lanes p h))

    pub fibre-end : (b : ℕ → GF gf) → FibreTo 0 b → FibreValues g b
    fibre-end b t = record { lanes = horner-end (K gf) (places 𝓜) coefficient (py 𝓜) w b t }

  -- ---- the whole
  pub evaluated-by : (f g h : ℕ → GF gf) → PowerSums f g → FibreValues g h → Evaluated f h
  evaluated-by f g h s v = record { values = λ c held p l. values-read f g h s v c held p l }

  pub codeword-by : (c : List ℕ) (f h : ℕ → GF gf) (number : ℕ → ℕ) → ((o : ℕ) → o < places 𝓜 → f o ≡ to_f gf (get_or c o 0)) → Evaluated f h
      → ((p : ℕ) → p < places 𝓜 → h p ≡ to_f gf (number p)) → ((p : ℕ) → number p < size gf) → listed (places 𝓜) number ≡ listed (places 𝓜) (value_of 𝓜 c)
  unfolding value_of
  codeword-by c f h number held v shown small =
      listed-ext (places 𝓜) number (value_of 𝓜 c) (λ p l.
      to_f-injective gf _ _ (small p) (value_by-below 𝓜 c _) (sym (shown p l) ∙ v.values c held p l))
