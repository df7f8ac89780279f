-- Functions on the curve y^w + y = x^(w+1), as coefficient functions by order, and multiplication by x and by y.
--
--   Fn K w c         c is a function on the curve: zero at absent orders, and from some order on
--   times_x, times_y   multiplication by x and by y; `descent` and `top` are its second term
--   times_monomial o  multiplication by the monomial of order o: y as often as it has y, then one shift for all its x
--   fn-plus, fn-scale, fn-zero, fn-unit, fn-shift, fn-times_x, fn-times_y, fn-times_monomial   they keep to Fn
--   lead-times_y          the lead goes up by w + 1
--   times_y-lead, times_monomial-lead    … and keeps its coefficient
use Rattle.std.specs.Prelude.{◌≡◌, ◌≢◌}
use Rattle.std.proofs.Math.Path.{refl, ap, ap₂}
use Rattle.std.proofs.Common.{sym, ◌∙◌, subst, sub-add_cancel}
use Prim.Native.Nat.{ℕ, zero, suc, ◌+◌, ◌-◌, ◌*◌, ◌/◌, ◌%◌, ◌≤◌}
use Rattle.std.proofs.Math.Nat.{div-add-mod'}
use Rattle.std.proofs.Math.Decide.{dec_le, ℕ_discrete}
use native.Mathlib.Omega.{arith}
use Rattle.algebra.specs.Field.{Field, add-zero, mul-zero}
use Rattle.algebra.specs.Coefficients.{choose, choose_yes, choose_no, plus, scale, unit, unit-off, lead-unit, shift, shift-at, shift-high, shift-low, Below, Lead, below-mono, below-plus, below-scale, below-shift}
use Rattle.hermitian.specs.Present.{Present, present-at, present-plus}

-- y^w = x^(w+1) + y: as far as this below its source stands the second term of a product with y
unfoldable pub descent : ℕ → ℕ
descent w = suc w * (w - 2)

module _ {F : Type 0} (K : Field F) (w : ℕ) where
  open K use {◌⊕◌, ◌⊗◌, 𝟘}

  pub record Fn (c : ℕ → F) : Type 0 where
    pub bound : ℕ
    pub ends : Below K c bound
    pub absent : (o : ℕ) → ¬ Present w o → c o ≡ 𝟘

  abbrev pub times_x : (ℕ → F) → ℕ → F
  times_x = shift K w

  -- the terms with y^(w − 1), which a further y takes to y^w
  unfoldable pub top : (ℕ → F) → ℕ → F
  top c o = choose (ℕ_discrete (suc (o % w)) w) (c o) 𝟘

  -- order o goes to o + w + 1, and what has y^(w − 1) also to o − (w + 1)(w − 2)
  unfoldable pub times_y : (ℕ → F) → ℕ → F
  times_y c o = shift K (suc w) c o ⊕ top c (o + descent w)

  unfoldable pub pow_y : ℕ → (ℕ → F) → ℕ → F
  pow_y zero c = c
  pow_y (suc j) c = times_y (pow_y j c)

  unfoldable pub times_monomial : ℕ → (ℕ → F) → ℕ → F
  times_monomial o c = shift K ((o / w - o % w) * w) (pow_y (o % w) c)

  pub pow_y-nil : (c : ℕ → F) → pow_y 0 c ≡ c
  unfolding pow_y
  pow_y-nil c = refl

  pub pow_y-suc : (j : ℕ) (c : ℕ → F) → pow_y (suc j) c ≡ times_y (pow_y j c)
  unfolding pow_y
  pow_y-suc j c = refl

  pub top-at : (c : ℕ → F) (o : ℕ) → suc (o % w) ≡ w → top c o ≡ c o
  unfolding top
  top-at c o h = choose_yes (ℕ_discrete (suc (o % w)) w) (c o) 𝟘 h

  pub top-off : (c : ℕ → F) (o : ℕ) → suc (o % w) ≢ w → top c o ≡ 𝟘
  unfolding top
  top-off c o h = choose_no (ℕ_discrete (suc (o % w)) w) (c o) 𝟘 h

  top-zero : (c : ℕ → F) (o : ℕ) → c o ≡ 𝟘 → top c o ≡ 𝟘
  top-zero c o e = go (ℕ_discrete (suc (o % w)) w)
    where
      go : Dec (suc (o % w) ≡ w) → top c o ≡ 𝟘
      go (yes h) = top-at c o h ∙ e
      go (no h) = top-off c o h

  pub below_top : {c : ℕ → F} {n : ℕ} → Below K c n → Below K (top c) n
  below_top {c} b = record { zero_from = λ k l. top-zero c k (b.zero_from k l) }

  pub fn-zero : Fn (λ o. 𝟘)
  fn-zero = record { bound = 0; ends = record { zero_from = λ k l. refl }; absent = λ o h. refl }

  -- the monomial of a present order
  pub fn-unit : (o : ℕ) → Present w o → Fn (unit K o)
  fn-unit o p =
      record {
        bound = suc o;
        ends = (lead-unit K o).above;
        absent = λ k h. unit-off K o k (λ e. h (subst (λ j. Present w j) (sym e) p));
      }

  pub fn-plus : {c d : ℕ → F} → Fn c → Fn d → Fn (plus K c d)
  fn-plus f g =
      record {
        bound = f.bound + g.bound;
        ends = below-plus K (below-mono K (omega arith) f.ends) (below-mono K (omega arith) g.ends);
        absent = λ o h. ap₂ (λ x y. x ⊕ y) (f.absent o h) (g.absent o h) ∙ add-zero K 𝟘;
      }

  pub fn-scale : (a : F) {c : ℕ → F} → Fn c → Fn (scale K a c)
  fn-scale a f =
      record {
        bound = f.bound;
        ends = below-scale K a f.ends;
        absent = λ o h. ap (λ x. a ⊗ x) (f.absent o h) ∙ mul-zero K a;
      }

  pub below-times_y : {c : ℕ → F} {n : ℕ} → Below K c n → Below K (times_y c) (n + suc w)
  unfolding times_y
  below-times_y {c} {n} b =
      record {
        zero_from = λ k l.
            ap₂ (λ x y. x ⊕ y) ((below-shift K (suc w) b).zero_from k l)
            (top-zero c (k + descent w) (b.zero_from (k + descent w) (omega arith)))
            ∙ add-zero K 𝟘;
      }

  pub times_y-lead : {c : ℕ → F} (l : ℕ) → Below K c (suc l) → times_y c (l + suc w) ≡ c l
  unfolding times_y
  times_y-lead {c} l b =
      ap₂ (λ x y. x ⊕ y) (shift-at K (suc w) l c)
      (top-zero c (l + suc w + descent w) (b.zero_from (l + suc w + descent w) (omega arith)))
      ∙ add-zero K (c l)

  pub lead-times_y : {c : ℕ → F} {l : ℕ} → Lead K c l → Lead K (times_y c) (l + suc w)
  lead-times_y {c} {l} h =
      record { ne = λ e. h.ne (sym (times_y-lead l h.above) ∙ e); above = below-mono K (omega arith) (below-times_y h.above) }

  pub below-pow_y : {c : ℕ → F} {n : ℕ} (j : ℕ) → Below K c n → Below K (pow_y j c) (n + j * suc w)
  below-pow_y zero b = rw pow_y-nil (below-mono K (omega arith) b)
  below-pow_y (suc j) b = rw pow_y-suc (below-mono K (omega arith) (below-times_y (below-pow_y j b)))

  pub pow_y-lead : {c : ℕ → F} (l j : ℕ) → Below K c (suc l) → pow_y j c (l + j * suc w) ≡ c l
  pow_y-lead {c} l zero b = ap₂ (λ f k. f k) (pow_y-nil c) (omega arith)
  pow_y-lead {c} l (suc j) b =
      ap₂ (λ f k. f k) (pow_y-suc j c) (omega arith)
      ∙ times_y-lead (l + j * suc w) (below-mono K (omega arith) (below-pow_y j b))
      ∙ pow_y-lead l j b

  -- the order of x^i y^j
  monomial-order : (o : ℕ) → Present w o → (o % w) * suc w + (o / w - o % w) * w ≡ o
  monomial-order o p =
      let i : o / w ≡ (o / w - o % w) + o % w = omega arith in
      omega (arith, div-add-mod' o w, ap (λ x. x * w) i)

  pub below-times_monomial : {c : ℕ → F} {n : ℕ} (o : ℕ) → Present w o → Below K c n → Below K (times_monomial o c) (n + o)
  unfolding times_monomial
  below-times_monomial {c} {n} o p b =
      below-mono K (omega (arith, monomial-order o p)) (below-shift K ((o / w - o % w) * w) (below-pow_y (o % w) b))

  pub times_monomial-lead : {c : ℕ → F} (l o : ℕ) → Present w o → Below K c (suc l) → times_monomial o c (l + o) ≡ c l
  unfolding times_monomial
  times_monomial-lead {c} l o p b =
      let e : l + o ≡ l + o % w * suc w + (o / w - o % w) * w = omega (arith, monomial-order o p) in
      ap (λ k. shift K ((o / w - o % w) * w) (pow_y (o % w) c) k) e
      ∙ shift-at K ((o / w - o % w) * w) (l + o % w * suc w) (pow_y (o % w) c)
      ∙ pow_y-lead l (o % w) b

  module _ (two : 2 ≤ w) where
    pub fn-shift : (s : ℕ) → Present w s → {c : ℕ → F} → Fn c → Fn (shift K s c)
    fn-shift s p {c} f =
        record { bound = f.bound + s; ends = below-shift K s f.ends; absent = λ o h. go o h (dec_le s o) }
      where
        go : (o : ℕ) → ¬ Present w o → Dec (s ≤ o) → shift K s c o ≡ 𝟘
        go o h (yes l) =
            shift-high K s o c l
            ∙ f.absent (o - s) (λ q. h (subst (λ k. Present w k) (sub-add_cancel l) (present-plus w two (o - s) s q p)))
        go o h (no l) = shift-low K s o c (omega arith)

    pub fn-times_x : {c : ℕ → F} → Fn c → Fn (times_x c)
    fn-times_x = fn-shift w (present-at 1 0 (omega arith) (omega arith) (omega arith))

    -- the second term of a present order is present
    present-second : (o : ℕ) → suc ((o + descent w) % w) ≡ w → Present w (o + descent w) → Present w o
    unfolding descent
    present-second o h p =
        let s : ℕ = o + descent w in
        let i : s / w ≡ (s / w - (w - 2)) + (w - 2) = omega arith in
        present-at (s / w - (w - 2)) 1 (omega arith) (omega arith) (omega (arith, div-add-mod' s w, ap (λ x. x * w) i))

    pub fn-times_y : {c : ℕ → F} → Fn c → Fn (times_y c)
    unfolding times_y
    fn-times_y {c} f =
        record {
          bound = f.bound + suc w;
          ends = below-times_y f.ends;
          absent = λ o h.
              ap₂ (λ x y. x ⊕ y) ((fn-shift (suc w) (present-at 1 1 (omega arith) (omega arith) (omega arith)) f).absent o h)
              (second o h (ℕ_discrete (suc ((o + descent w) % w)) w))
              ∙ add-zero K 𝟘;
        }
      where
        second : (o : ℕ) → ¬ Present w o → Dec (suc ((o + descent w) % w) ≡ w) → top c (o + descent w) ≡ 𝟘
        second o h (yes e) = top-zero c _ (f.absent (o + descent w) (λ p. h (present-second o e p)))
        second o h (no e) = top-off c _ e

    pub fn-pow_y : {c : ℕ → F} (j : ℕ) → Fn c → Fn (pow_y j c)
    fn-pow_y zero f = rw pow_y-nil f
    fn-pow_y (suc j) f = rw pow_y-suc (fn-times_y (fn-pow_y j f))

    pub fn-times_monomial : {c : ℕ → F} (o : ℕ) → Fn c → Fn (times_monomial o c)
    unfolding times_monomial
    fn-times_monomial o f =
        fn-shift ((o / w - o % w) * w) (present-at (o / w - o % w) 0 (omega arith) (omega arith) (omega arith)) (fn-pow_y (o % w) f)
