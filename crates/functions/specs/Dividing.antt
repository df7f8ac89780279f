-- What the division computes: hermitian's quotient, on so many bytes by order, for any field of numbers, any w and any width.
--
--   next_at rest at o by   the next coefficient: the rest's at `at` times by, none at an absent order
--   less_at rest by f up o the coefficient o of the rest and by times f moved up by `up` orders; coef-less: as a coefficient function
--   y_once c, y_times j c   c times y, and c times y^j
--   y_powers c             c times 1, y, …, y^(w − 1)
--   Roomy c l m           c has the lead l, and c times each monomial of order up to m ends within the width
--   Divided q0 q1 m r     r holds symbols, and where q1 has a lead that leaves room, the quotient of q0 by q1 from order m down
--   powers-at             a power of y is exact where its order is at most m
--   next-is, step_is      one turn of the loop is one step of the division
--   next-lt               each coefficient is a symbol
use Rattle.std.specs.Prelude.{Bool, true, false, ◌≡◌, T, ltb, length, get_or}
use Rattle.std.proofs.Math.Bool.{cond}
use Rattle.std.proofs.Math.Path.{refl, sym, ap, ap₂, fun_ext}
use Rattle.std.proofs.Common.{◌∙◌, subst, div-add-mod', mul-le-mul_right, lt-ltb, le-ltb}
use mathlib.Core.List.{List, []}
use Prim.Native.Nat.{ℕ, zero, suc, ◌+◌, ◌-◌, ◌*◌, ◌/◌, ◌%◌, ◌<◌, ◌≤◌}
use Rattle.std.proofs.Math.Decide.{dec_lt}
use native.Mathlib.Omega.{arith}
use Rattle.std.specs.Int.Bits.{bit_xor}
use Rattle.lists.specs.Listed.{listed, listed_at}
use Rattle.lists.specs.Words.{all_below}
use Rattle.algebra.specs.Field.{zero-mul, mul-zero, add-zero}
use Rattle.algebra.specs.Coefficients.{choose, choose_yes, choose_no, plus, scale, shift, shift-high, shift-low, Below, Lead, below-mono, below-plus, below-scale}
use Rattle.galois.specs.BinaryField.{Gf, GF, K, size, times, inverse, to_f, to_f-add, to_f-times, to_f-inverse, to_f-zero, times-lt, one-lt}
use Rattle.hermitian.specs.Present.{Present, dec_present, mod_below}
use Rattle.hermitian.specs.Ring.{times_y, pow_y, pow_y-nil, pow_y-suc, below-pow_y, times_monomial, below-times_monomial}
use Rattle.hermitian.specs.Division.{quotient_at, divide_step, quotient}
use Rattle.functions.specs.Bytes.{coef, coef-at, coef-beyond, cut, cut_below, coef-cut}
use Rattle.functions.specs.TimesY.{y_at, coef-y}

unfoldable pub next_at : Gf → ℕ → ℕ → List ℕ → ℕ → ℕ → ℕ → ℕ
next_at gf w width rest at o by = cond (ltb (o / w) (o % w)) 0 (cond (ltb (width - 1) at) 0 (times gf (get_or rest at 0) by))

unfoldable pub less_at : Gf → List ℕ → ℕ → List ℕ → ℕ → ℕ → ℕ
less_at gf rest by f up o = cond (ltb o up) (get_or rest o 0) (bit_xor (get_or rest o 0) (times gf by (get_or f (o - up) 0)))

module _ (w width : ℕ) where
  unfoldable pub y_once : List ℕ → List ℕ
  y_once c = listed width (y_at w c)

  unfoldable pub y_times : List ℕ → ℕ → List ℕ
  y_times c zero = c
  y_times c (suc j) = y_once (y_times c j)

  unfoldable pub y_powers : List ℕ → List (List ℕ)
  y_powers c = listed w (y_times c)

  pub y_times-nil : (c : List ℕ) → y_times c 0 ≡ c
  unfolding y_times
  y_times-nil c = refl

  pub y_powers-at : (c : List ℕ) (j : ℕ) → j < w → get_or (y_powers c) j [] ≡ y_times c j
  unfolding y_powers
  y_powers-at c j h = listed_at w j (y_times c) [] h

pub record Roomy (gf : Gf) (width : ℕ) (c : List ℕ) (l m : ℕ) : Type 0 where
  pub leads : Lead (K gf) (coef gf c) l
  pub terms_fit : l + m < width

pub record Divided (gf : Gf) (w width : ℕ) (q0 q1 : List ℕ) (m : ℕ) (r : List ℕ) : Type 0 where
  pub symbols : T (all_below (size gf) r)
  pub exact : (l : ℕ) → Roomy gf width q1 l m → coef gf r ≡ quotient (K gf) w l (coef gf q1) m (coef gf q0)

pub next-lt : (gf : Gf) (w width : ℕ) (rest : List ℕ) (at o by : ℕ) → next_at gf w width rest at o by < size gf
unfolding next_at
next-lt gf w width rest at o by = go (ltb (o / w) (o % w)) (ltb (width - 1) at)
  where
    go : (a b : Bool) → cond a 0 (cond b 0 (times gf (get_or rest at 0) by)) < size gf
    go true b = omega (arith, one-lt gf)
    go false true = omega (arith, one-lt gf)
    go false false = times-lt gf _ _

-- ---- the rest and a multiple of a function moved up
module _ (gf : Gf) (rest : List ℕ) (by : ℕ) (f : List ℕ) (up o : ℕ) where
  open K gf use {◌⊕◌, ◌⊗◌}

  pub less_at-low : o < up → less_at gf rest by f up o ≡ get_or rest o 0
  unfolding less_at
  less_at-low h = simp (lt-ltb o up h)

  pub less_at-high : up ≤ o → less_at gf rest by f up o ≡ bit_xor (get_or rest o 0) (times gf by (get_or f (o - up) 0))
  unfolding less_at
  less_at-high h = simp (le-ltb o up h)

  less-is : Dec (o < up) → to_f gf (less_at gf rest by f up o) ≡ coef gf rest o ⊕ to_f gf by ⊗ shift (K gf) up (coef gf f) o
  less-is (yes h) =
      ap (to_f gf) (less_at-low h) ∙ sym (coef-at gf rest o)
      ∙ sym (ap (λ x. coef gf rest o ⊕ to_f gf by ⊗ x) (shift-low (K gf) up o (coef gf f) h) ∙ ap (λ x. coef gf rest o ⊕ x) (mul-zero (K gf) (to_f gf by)) ∙ add-zero (K gf) (coef gf rest o))
  less-is (no h) =
      let l : up ≤ o = omega arith in
      ap (to_f gf) (less_at-high l) ∙ to_f-add gf _ _
      ∙ ap₂ (λ x y. x ⊕ y) (sym (coef-at gf rest o))
      (to_f-times gf by _ ∙ ap (λ x. to_f gf by ⊗ x) (sym (coef-at gf f (o - up)) ∙ sym (shift-high (K gf) up o (coef gf f) l)))

pub coef-less : (gf : Gf) (width : ℕ) (rest : List ℕ) (by : ℕ) (f : List ℕ) (up : ℕ) {r : List ℕ} → r ≡ listed width (less_at gf rest by f up)
    → coef gf r ≡ cut gf width (plus (K gf) (coef gf rest) (scale (K gf) (to_f gf by) (shift (K gf) up (coef gf f))))
coef-less gf width rest by f up e = ap (coef gf) e ∙ coef-cut gf width _ (less_at gf rest by f up) (λ o l. less-is gf rest by f up o (dec_lt o up))

-- ---- powers of y
module _ (gf : Gf) (w width : ℕ) (wide : 2 ≤ w) where
  open K gf use {◌⊗◌, 𝟘, inv}

  coef-once : (c : List ℕ) (j : ℕ) (f : ℕ → GF gf) → coef gf c ≡ pow_y (K gf) w j f → Below (K gf) (pow_y (K gf) w (suc j) f) width
      → coef gf (y_once w width c) ≡ pow_y (K gf) w (suc j) f
  unfolding y_once
  coef-once c j f e b =
      coef-y gf w wide c width ∙ ap (λ g. cut gf width (times_y (K gf) w g)) e ∙ ap (cut gf width) (sym (pow_y-suc (K gf) w j f))
      ∙ cut_below gf width (pow_y (K gf) w (suc j) f) b

  module _ (c : List ℕ) (l m : ℕ) (room : Roomy gf width c l m) where
    fits : (j : ℕ) → j * suc w ≤ m → Below (K gf) (pow_y (K gf) w j (coef gf c)) width
    fits j h = below-mono (K gf) (omega (arith, room.terms_fit)) (below-pow_y (K gf) w j room.leads.above)

    times-at : (j : ℕ) → j * suc w ≤ m → coef gf (y_times w width c j) ≡ pow_y (K gf) w j (coef gf c)
    unfolding y_times
    times-at zero h = sym (pow_y-nil (K gf) w (coef gf c))
    times-at (suc j) h = coef-once (y_times w width c j) j (coef gf c) (times-at j (omega arith)) (fits (suc j) h)

    pub powers-at : (j : ℕ) → j < w → j * suc w ≤ m → coef gf (get_or (y_powers w width c) j []) ≡ pow_y (K gf) w j (coef gf c)
    powers-at j h f = ap (coef gf) (y_powers-at w width c j h) ∙ times-at j f

    -- ---- one turn
    module _ (o : ℕ) (small : o ≤ m) where
      moved : Present w o → coef gf (get_or (y_powers w width c) (o % w) []) ≡ pow_y (K gf) w (o % w) (coef gf c)
      moved h =
          powers-at (o % w) (mod_below w wide o) (omega (arith, div-add-mod' o w, mul-le-mul_right {m = o % w} {n = o / w} w h))

      -- the next coefficient
      pub next-is : (rest : List ℕ) → to_f gf (next_at gf w width rest (l + o) o (inverse gf (get_or c l 0))) ≡ quotient_at (K gf) w l (coef gf c) o (coef gf rest)
      unfolding next_at quotient_at
      next-is rest = go (dec_present w o)
        where
          go : (d : Dec (Present w o)) → to_f gf (next_at gf w width rest (l + o) o (inverse gf (get_or c l 0))) ≡ choose d (coef gf rest (l + o) ⊗ inv (coef gf c l)) 𝟘
          go (yes h) =
              ap (to_f gf)
              (ap (λ b. cond b 0 (cond (ltb (width - 1) (l + o)) 0 (times gf (get_or rest (l + o) 0) (inverse gf (get_or c l 0))))) (le-ltb (o / w) (o % w) h)
              ∙ ap (λ b. cond b 0 (times gf (get_or rest (l + o) 0) (inverse gf (get_or c l 0)))) (le-ltb (width - 1) (l + o) (omega (arith, room.terms_fit))))
              ∙ to_f-times gf _ _
              ∙ ap₂ (λ x y. x ⊗ y) (sym (coef-at gf rest (l + o))) (to_f-inverse gf (get_or c l 0) ∙ ap inv (sym (coef-at gf c l)))
              ∙ sym (choose_yes (yes h) _ _ h)
          go (no h) =
              let n : o / w < o % w = omega arith in
              ap (to_f gf) (ap (λ b. cond b 0 (cond (ltb (width - 1) (l + o)) 0 (times gf (get_or rest (l + o) 0) (inverse gf (get_or c l 0))))) (lt-ltb (o / w) (o % w) n))
              ∙ to_f-zero gf ∙ sym (choose_no (no h) _ _ h)

      -- no coefficient at an absent order
      absent_none : (R : ℕ → GF gf) → (Present w o → ⊥) → quotient_at (K gf) w l (coef gf c) o R ≡ 𝟘
      unfolding quotient_at
      absent_none R h = choose_no (dec_present w o) _ _ h

      -- the multiple that is taken away ends within the width
      ends : (R : ℕ → GF gf) → Below (K gf) (scale (K gf) (quotient_at (K gf) w l (coef gf c) o R) (times_monomial (K gf) w o (coef gf c))) width
      unfolding quotient_at
      ends R = go (dec_present w o)
        where
          go : (d : Dec (Present w o))
              → Below (K gf) (scale (K gf) (choose d (R (l + o) ⊗ inv (coef gf c l)) 𝟘) (times_monomial (K gf) w o (coef gf c))) width
          go (yes h) =
              below-scale (K gf) _ (below-mono (K gf) (omega (arith, room.terms_fit)) (below-times_monomial (K gf) w o h room.leads.above))
          go (no h) =
              record { zero_from = λ k b. ap (λ x. x ⊗ times_monomial (K gf) w o (coef gf c) k) (choose_no (no h) (R (l + o) ⊗ inv (coef gf c l)) 𝟘 h) ∙ zero-mul (K gf) _ }

      pub step_is : (rest : List ℕ) (a : ℕ) (R : ℕ → GF gf) → length rest ≡ width → coef gf rest ≡ R → to_f gf a ≡ quotient_at (K gf) w l (coef gf c) o (coef gf rest)
          → cut gf width (plus (K gf) (coef gf rest) (scale (K gf) (to_f gf a) (shift (K gf) ((o / w - o % w) * w) (coef gf (get_or (y_powers w width c) (o % w) [])))))
          ≡ divide_step (K gf) w l (coef gf c) o R
      unfolding divide_step times_monomial
      step_is rest a R n e q =
          ap (λ x. cut gf width (plus (K gf) (coef gf rest) (scale (K gf) x (shift (K gf) ((o / w - o % w) * w) (coef gf (get_or (y_powers w width c) (o % w) [])))))) q
          ∙ ap (λ g. cut gf width (plus (K gf) (coef gf rest) g)) (taken (coef gf rest) (dec_present w o))
          ∙ cut_below gf width _ (below-plus (K gf) (record { zero_from = λ k b. coef-beyond gf rest k (omega arith) }) (whole (coef gf rest)))
          ∙ ap (λ f. plus (K gf) f (scale (K gf) (quotient_at (K gf) w l (coef gf c) o f) same)) e
          ∙ monomial R
        where
          same : ℕ → GF gf
          same = shift (K gf) ((o / w - o % w) * w) (pow_y (K gf) w (o % w) (coef gf c))

          -- an absent order takes nothing away, so that its power of y does not matter
          taken : (f : ℕ → GF gf) → Dec (Present w o)
              → scale (K gf) (quotient_at (K gf) w l (coef gf c) o f) (shift (K gf) ((o / w - o % w) * w) (coef gf (get_or (y_powers w width c) (o % w) [])))
              ≡ scale (K gf) (quotient_at (K gf) w l (coef gf c) o f) same
          taken f (yes h) = ap (λ g. scale (K gf) (quotient_at (K gf) w l (coef gf c) o f) (shift (K gf) ((o / w - o % w) * w) g)) (moved h)
          taken f (no h) = nothing _ ∙ sym (nothing same)
            where
              nothing : (g : ℕ → GF gf) → scale (K gf) (quotient_at (K gf) w l (coef gf c) o f) g ≡ (λ k. 𝟘)
              nothing g = ap (λ x. scale (K gf) x g) (absent_none f h) ∙ fun_ext (λ k. zero-mul (K gf) (g k))

          same-is : times_monomial (K gf) w o (coef gf c) ≡ same
          same-is = refl

          whole : (f : ℕ → GF gf) → Below (K gf) (scale (K gf) (quotient_at (K gf) w l (coef gf c) o f) same) width
          whole f = subst (λ g. Below (K gf) (scale (K gf) (quotient_at (K gf) w l (coef gf c) o f) g) width) same-is (ends f)

          monomial : (f : ℕ → GF gf) → plus (K gf) f (scale (K gf) (quotient_at (K gf) w l (coef gf c) o f) same)
              ≡ plus (K gf) f (scale (K gf) (quotient_at (K gf) w l (coef gf c) o f) (times_monomial (K gf) w o (coef gf c)))
          monomial f = ap (λ g. plus (K gf) f (scale (K gf) (quotient_at (K gf) w l (coef gf c) o f) g)) (sym same-is)
