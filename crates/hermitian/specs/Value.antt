-- Points of the curve, and the value of a function at a point.
--
--   Curve K w px py        the point (px, py) lies on y^w + y = x^(w+1)
--   monomial K w px py o   the value there of the monomial of order o
--   Val K w px py c v      the function c has the value v at (px, py); its laws are those of `Weighted` in algebra
--   val-unit, val-one      monomials have their values, and 1 has the value 𝟙
--   val_shift, val-times_x, val-times_y, val-pow_y, val-times_monomial   a function times x^i, x, y, y^j or a monomial
use Rattle.std.specs.Prelude.{◌≡◌, ◌≢◌}
use Rattle.std.proofs.Common.{sym, ◌∙◌, subst, subst₂}
use Rattle.std.proofs.Math.Path.{ap, ap₂}
use Prim.Native.Nat.{ℕ, zero, suc, ◌+◌, ◌-◌, ◌*◌, ◌/◌, ◌%◌, ◌<◌, ◌≤◌}
use Rattle.std.proofs.Math.Nat.{div-add-mod'}
use Rattle.std.proofs.Math.Nat as Nat
use Rattle.std.proofs.Math.Decide.{ℕ_discrete}
use native.Mathlib.Omega.{arith}
use Rattle.algebra.specs.Field.{Field, add-zero, zero-mul, mul-one, one-mul, mul-add, mul_assoc, mul_comm, mul_left_comm, ring}
use Rattle.algebra.specs.Power.{pow, pow-nil, pow-suc, pow-one, pow-plus}
use Rattle.algebra.specs.Sum.{sum-ext, sum-plus, sum-scale, sum-single}
use Rattle.algebra.specs.Coefficients.{unit, unit-at, unit-off, lead-unit, shift}
use Rattle.algebra.specs.Weighted.{Weighted, weighted-total, weighted-plus, weighted-ext, weighted-factor, weighted-shift, weighted-down, weighted-is}
use Rattle.hermitian.specs.Present.{Present, dec_present, divided, mod_below}
use Rattle.hermitian.specs.Ring.{Fn, times_x, times_y, descent, top, top-at, top-off, below_top, pow_y, pow_y-nil, pow_y-suc, times_monomial, fn-pow_y}

module _ {F : Type 0} (K : Field F) (w : ℕ) (px py : F) where
  open K use {◌⊕◌, ◌⊗◌}

  abbrev pub Curve : Type 0
  Curve = pow K py w ⊕ py ≡ pow K px (suc w)

  unfoldable pub monomial : ℕ → F
  monomial o = pow K px (o / w - o % w) ⊗ pow K py (o % w)

  abbrev pub Val : (ℕ → F) → F → Type 0
  Val = Weighted K monomial

module _ {F : Type 0} (K : Field F) (w : ℕ) (two : 2 ≤ w) (px py : F) where
  open K use {◌⊕◌, ◌⊗◌, 𝟘, 𝟙}

  -- the monomial of order o has its value
  pub val-unit : (o : ℕ) → Val K w px py (unit K o) (monomial K w px py o)
  val-unit o =
      record {
        bound = suc o;
        ends = (lead-unit K o).above;
        total =
            sum-single K (suc o) o _ (omega arith) (λ k l h. ap (λ x. x ⊗ monomial K w px py k) (unit-off K o k h) ∙ zero-mul K _)
            ∙ ap (λ x. x ⊗ monomial K w px py o) (unit-at K o)
            ∙ one-mul K _;
      }

  pub val-one : Val K w px py (unit K 0) 𝟙
  unfolding monomial
  val-one =
      let d = divided {w = w} {o = 0} 0 0 (omega arith) (omega arith) in
      weighted-is K (ap₂ (λ i j. pow K px (i - j) ⊗ pow K py j) d.0 d.1 ∙ ap₂ (λ a b. a ⊗ b) (pow-nil K px) (pow-nil K py) ∙ mul-one K 𝟙) (val-unit 0)

module _ {F : Type 0} (K : Field F) (w : ℕ) (two : 2 ≤ w) (px py : F) (on : Curve K w px py) where
  open K use {◌⊕◌, ◌⊗◌, 𝟘, 𝟙}

  -- the monomial of order q·w + r
  monomial-at : {o : ℕ} (q r : ℕ) → r < w → o ≡ q * w + r → monomial K w px py o ≡ pow K px (q - r) ⊗ pow K py r
  unfolding monomial
  monomial-at q r l e =
      let d = divided q r l e in
      ap₂ (λ i j. pow K px (i - j) ⊗ pow K py j) d.0 d.1

  monomial-shift : (i o : ℕ) → Present w o → monomial K w px py (o + i * w) ≡ pow K px i ⊗ monomial K w px py o
  unfolding monomial
  monomial-shift i o p =
      monomial-at (o / w + i) (o % w) (mod_below w two o) (omega (arith, div-add-mod' o w))
      ∙ ap (λ k. pow K px k ⊗ pow K py (o % w)) (omega arith)
      ∙ ap (λ x. x ⊗ pow K py (o % w)) (pow-plus K px i (o / w - o % w))
      ∙ mul_assoc K _ _ _

  monomial-next : (o : ℕ) → Present w o → suc (o % w) ≢ w → monomial K w px py (o + suc w) ≡ py ⊗ monomial K w px py o
  unfolding monomial
  monomial-next o p h =
      let i : suc (o / w) - suc (o % w) ≡ o / w - o % w = omega arith in
      monomial-at (suc (o / w)) (suc (o % w)) (omega (arith, mod_below w two o)) (omega (arith, div-add-mod' o w))
      ∙ ap₂ (λ k x. pow K px k ⊗ x) i (pow-suc K py (o % w))
      ∙ simp (mul_assoc, mul_comm, K)

  -- y^w = x^(w+1) + y, times a power of x
  power-wrap : (i : ℕ) → pow K px (i + suc w) ⊕ pow K px i ⊗ py ≡ pow K px i ⊗ pow K py w
  power-wrap i =
      ap (λ x. x ⊕ pow K px i ⊗ py) (pow-plus K px i (suc w) ∙ ap (λ x. pow K px i ⊗ x) (sym on))
      ∙ simp (ring, K)

  monomial-wrap : (o : ℕ) → Present w o → suc (o % w) ≡ w
      → monomial K w px py (o + suc w) ⊕ monomial K w px py (o - descent w) ≡ py ⊗ monomial K w px py o
  unfolding monomial descent
  monomial-wrap o p h =
      let i : ℕ = o / w - o % w in
      let e : o / w ≡ suc i + (w - 2) = omega arith in
      let q : o ≡ suc i * w + (w - 2) * w + o % w = omega (arith, div-add-mod' o w, ap (λ x. x * w) e) in
      let a : suc (suc (o / w)) - 0 ≡ i + suc w = omega arith in
      let b : suc i - 1 ≡ i = omega arith in
      ap₂ (λ x y. x ⊕ y)
      (monomial-at (suc (suc (o / w))) 0 (omega arith) (omega (arith, div-add-mod' o w))
      ∙ ap₂ (λ k x. pow K px k ⊗ x) a (pow-nil K py) ∙ mul-one K _)
      (monomial-at (suc i) 1 (omega arith) (omega arith) ∙ ap₂ (λ k x. pow K px k ⊗ x) b (pow-one K py))
      ∙ power-wrap i
      ∙ ap (λ x. pow K px i ⊗ x) (ap (λ k. pow K py k) (sym h) ∙ pow-suc K py (o % w))
      ∙ simp (mul_assoc, mul_comm, K)

  -- a monomial of a higher order is met only where a coefficient is
  on-present : {c : ℕ → F} → Fn K w c → (o : ℕ) (a b : F) → (Present w o → a ≡ b) → c o ⊗ a ≡ c o ⊗ b
  on-present {c} f o a b h = go (dec_present w o)
    where
      go : Dec (Present w o) → c o ⊗ a ≡ c o ⊗ b
      go (yes p) = ap (λ x. c o ⊗ x) (h p)
      go (no p) =
          ap (λ x. x ⊗ a) (f.absent o p) ∙ zero-mul K a ∙ sym (ap (λ x. x ⊗ b) (f.absent o p) ∙ zero-mul K b)

  pub val_shift : (i : ℕ) {c : ℕ → F} {v : F} → Fn K w c → Val K w px py c v → Val K w px py (shift K (i * w) c) (pow K px i ⊗ v)
  val_shift i {c} f h =
      weighted-shift K (i * w)
      (weighted-ext K (λ o. on-present f o _ _ (λ p. sym (monomial-shift i o p))) (weighted-factor K (pow K px i) h))

  pub val-times_x : {c : ℕ → F} {v : F} → Fn K w c → Val K w px py c v → Val K w px py (times_x K w c) (px ⊗ v)
  val-times_x {c} {v} f h =
      subst₂ (λ s x. Val K w px py (shift K s c) (x ⊗ v)) (Nat.one-mul w) (pow-one K px) (val_shift 1 f h)

  -- the terms with y^(w − 1) have high orders
  top-low : {c : ℕ → F} → Fn K w c → (o : ℕ) → o < descent w → top K w c o ≡ 𝟘
  unfolding descent
  top-low {c} f o l = go (ℕ_discrete (suc (o % w)) w) (dec_present w o)
    where
      go : Dec (suc (o % w) ≡ w) → Dec (Present w o) → top K w c o ≡ 𝟘
      go (no h) d = top-off K w c o h
      go (yes h) (no p) = top-at K w c o h ∙ f.absent o p
      go (yes h) (yes p) =
          let e : o / w ≡ (o / w - (w - 2)) + (w - 2) = omega arith in
          absurd (omega (arith, div-add-mod' o w, ap (λ x. x * w) e))

  term : {c : ℕ → F} → Fn K w c → (o : ℕ)
      → c o ⊗ monomial K w px py (o + suc w) ⊕ top K w c o ⊗ monomial K w px py (o - descent w) ≡ py ⊗ (c o ⊗ monomial K w px py o)
  term {c} f o = go (ℕ_discrete (suc (o % w)) w)
    where
      up : F
      up = monomial K w px py (o + suc w)

      down : F
      down = monomial K w px py (o - descent w)

      go : Dec (suc (o % w) ≡ w) → c o ⊗ up ⊕ top K w c o ⊗ down ≡ py ⊗ (c o ⊗ monomial K w px py o)
      go (yes h) =
          ap (λ x. c o ⊗ up ⊕ x ⊗ down) (top-at K w c o h)
          ∙ sym (mul-add K (c o) up down)
          ∙ on-present f o _ _ (λ p. monomial-wrap o p h)
          ∙ mul_left_comm K (c o) py _
      go (no h) =
          ap (λ x. c o ⊗ up ⊕ x ⊗ down) (top-off K w c o h)
          ∙ ap (λ x. c o ⊗ up ⊕ x) (zero-mul K down)
          ∙ add-zero K _
          ∙ on-present f o _ _ (λ p. monomial-next o p h)
          ∙ mul_left_comm K (c o) py _

  pub val-times_y : {c : ℕ → F} {v : F} → Fn K w c → Val K w px py c v → Val K w px py (times_y K w c) (py ⊗ v)
  unfolding times_y
  val-times_y {c} {v} f h =
      let n : ℕ = h.bound in
      weighted-is K
      (sym (sum-plus K n _ _) ∙ sum-ext K n _ _ (λ o l. term f o) ∙ sum-scale K n py _ ∙ ap (λ x. py ⊗ x) h.total)
      (weighted-plus K
      (weighted-shift K (suc w) (weighted-total K (λ o. monomial K w px py (o + suc w)) n h.ends))
      (weighted-down K (descent w) (top-low f)
      (weighted-total K (λ o. monomial K w px py (o - descent w)) n (below_top K w h.ends))))

  pub val-pow_y : {c : ℕ → F} {v : F} (j : ℕ) → Fn K w c → Val K w px py c v → Val K w px py (pow_y K w j c) (pow K py j ⊗ v)
  val-pow_y {c} {v} zero f h =
      subst (λ d. Val K w px py d (pow K py 0 ⊗ v)) (sym (pow_y-nil K w c))
      (weighted-is K (sym (ap (λ x. x ⊗ v) (pow-nil K py) ∙ one-mul K v)) h)
  val-pow_y {c} {v} (suc j) f h =
      subst (λ d. Val K w px py d (pow K py (suc j) ⊗ v)) (sym (pow_y-suc K w j c))
      (weighted-is K (sym (ap (λ x. x ⊗ v) (pow-suc K py j) ∙ mul_assoc K _ _ _ ∙ mul_left_comm K _ _ _)) (val-times_y (fn-pow_y K w two j f) (val-pow_y j f h)))

  pub val-times_monomial : {c : ℕ → F} {v : F} (o : ℕ) → Fn K w c → Val K w px py c v
      → Val K w px py (times_monomial K w o c) (monomial K w px py o ⊗ v)
  unfolding times_monomial monomial
  val-times_monomial {c} {v} o f h =
      weighted-is K (sym (mul_assoc K _ _ _)) (val_shift (o / w - o % w) (fn-pow_y K w two (o % w) f) (val-pow_y (o % w) f h))
