-- A function on the curve by the powers of x and y: for each power of y a sum over the powers of x. Over any field and any w; then for every
-- member, with the coefficient of x^i y^j at lane i·w + j.
--
--   by_powers n f         the sum over j below w of (the sum over i below n of f's coefficient of x^i y^j times x^i) times y^j
--   by-powers            it is the value of f, where f has no power of x from n on
--   by-powers-sum        so it is the sum over the orders below any N beyond which f is zero
--   power_lane o, power_order l   the lane of an order, and the order of a lane: lane-at, order-at; order-again
--   value-by-powers      the value at a place of the function with bytes c by order
--   PowerLanes c f       f holds at each lane the coefficient of its order in c
--   XSums f g            g holds at each place, with its x, the sum over i of lane i·w + p % w of f times x^i; xsums-by: by Horner's rule
--   values-by-powers     with Horner's rule in y on each fibre (`FibreValues`) these are the values by place
use Rattle.std.specs.Prelude.{◌≡◌, List, ℕ, ◌+◌, ◌-◌, ◌*◌, ◌/◌, ◌%◌, ◌<◌, ◌≤◌, length, get_or}
use Rattle.std.proofs.Math.Path.{sym, ap, ap₂}
use Rattle.std.proofs.Common.{◌∙◌, le-div_iff_mul-le, arith}
use Rattle.std.proofs.Math.Nat.{mul_comm, mul-le-mul_left}
use Rattle.lists.specs.Listed.{listed, listed_at}
use Rattle.algebra.specs.Field.{Field, add-zero, zero-add, mul-zero, zero-mul, mul_assoc}
use Rattle.algebra.specs.Sum.{sum, sum-ext, sum-zero, sum-swap, sum-append, sum-blocks, sum-scale-right}
use Rattle.algebra.specs.Power.{pow}
use Rattle.algebra.specs.Coefficients.{choose, choose_yes, choose_no, Below}
use Rattle.algebra.specs.Weighted.{weighted-of}
use Rattle.galois.specs.BinaryField.{GF, K, size, to_f, to_f-times, to_f-zero, to_f-xor_sum}
use Rattle.hermitian.specs.Present.{Present, dec_present, divided, mod_below}
use Rattle.hermitian.specs.Orders.{order, x_power, y_power, order-x, order-y, order-of}
use Rattle.hermitian.specs.Value.{Val, monomial}
use Rattle.family.specs.Curve.{x_of}
use Rattle.family.specs.Member.{Member, places, px, py}
use Rattle.family.specs.Points.{x_below, place_of, place-below}
use Rattle.family.specs.Encoding.{to_f-monomial}
use Rattle.family.specs.Evaluation.{present-yes, present-no, monomial_at, value_by, value_term, value_of}
use Rattle.functions.specs.Bytes.{coef, coef-at, coef-beyond}
use Rattle.functions.specs.Horner.{HornerTo, horner-end}
use Rattle.functions.specs.Values.{FibreValues}

module _ {F : Type 0} (K : Field F) (w : ℕ) (px py : F) where
  open K use {◌⊕◌, ◌⊗◌, 𝟘}

  unfoldable pub by_powers : ℕ → (ℕ → F) → F
  by_powers n f = sum K w (λ j. sum K n (λ i. f (order w i j) ⊗ pow K px i) ⊗ pow K py j)

  -- only the coefficients at orders of monomials count
  pub by_powers-ext : (n : ℕ) (f g : ℕ → F) → ((i j : ℕ) → i < n → j < w → f (order w i j) ≡ g (order w i j)) → by_powers n f ≡ by_powers n g
  unfolding by_powers
  by_powers-ext n f g h =
      sum-ext K w _ _ (λ j l. ap (λ s. s ⊗ pow K py j) (sum-ext K n _ _ (λ i b. ap (λ c. c ⊗ pow K px i) (h i j b l))))

  module _ (wide : 2 ≤ w) (n : ℕ) {f : ℕ → F} (absent : (o : ℕ) → ¬ Present w o → f o ≡ 𝟘)
      (high : (i j : ℕ) → n ≤ i → j < w → f (order w i j) ≡ 𝟘) where
    -- what an order adds
    term : ℕ → F
    term o = f o ⊗ monomial K w px py o

    nothing : (o : ℕ) → f o ≡ 𝟘 → term o ≡ 𝟘
    unfolding term
    nothing o e = ap (λ c. c ⊗ monomial K w px py o) e ∙ zero-mul K _

    ends : Below K f ((n + w) * w)
    ends = record { zero_from = λ o l. go o l (dec_present w o) }
      where
        go : (o : ℕ) → (n + w) * w ≤ o → Dec (Present w o) → f o ≡ 𝟘
        go o l (no a) = absent o a
        go o l (yes a) =
            let b : n + w ≤ o / w = (le-div_iff_mul-le {k = w} {x = n + w} {y = o} (omega arith)).1 l in
            ap f (sym (order-of w o a)) ∙ high (x_power w o) (y_power w o) (omega (arith, mod_below w wide o)) (mod_below w wide o)

    -- the order of x^i y^j, by its row
    row-order : (i j : ℕ) → (j + i) * w + j ≡ order w i j
    row-order i j = omega arith

    at-order : (i j : ℕ) → j < w → term ((j + i) * w + j) ≡ f (order w i j) ⊗ pow K px i ⊗ pow K py j
    unfolding term monomial
    at-order i j h =
        ap term (row-order i j)
        ∙ ap₂ (λ a b. f (order w i j) ⊗ (pow K px a ⊗ pow K py b)) (order-x w i j h) (order-y w i j h)
        ∙ sym (mul_assoc K _ _ _)

    early : (q j : ℕ) → q < j → j < w → term (q * w + j) ≡ 𝟘
    early q j h l =
        let d = divided {w = w} {o = q * w + j} q j l (omega arith) in
        nothing (q * w + j) (absent (q * w + j) (λ (p : Present w (q * w + j)). absurd (omega (arith, d))))

    -- the rows of one power of y
    column : (j : ℕ) → j < w → sum K (n + w) (λ q. term (q * w + j)) ≡ sum K n (λ i. f (order w i j) ⊗ pow K px i) ⊗ pow K py j
    column j h =
        let e : n + w ≡ j + (n + (w - j)) = omega arith in
        ap (λ k. sum K k (λ q. term (q * w + j))) e
        ∙ sum-append K j (n + (w - j)) _
        ∙ ap₂ (λ a b. a ⊕ b) (sum-zero K j _ (λ q l. early q j l h)) (sum-append K n (w - j) _)
        ∙ zero-add K _
        ∙ ap₂ (λ a b. a ⊕ b)
        (sum-ext K n _ _ (λ i l. at-order i j h))
        (sum-zero K (w - j) _ (λ i l. nothing _ (ap f (row-order (n + i) j) ∙ high (n + i) j (omega arith) h)))
        ∙ add-zero K _
        ∙ sum-scale-right K n (pow K py j) _

    pub by-powers : Val K w px py f (by_powers n f)
    unfolding by_powers term
    by-powers =
        record {
          bound = (n + w) * w;
          ends = ends;
          total = sum-blocks K (n + w) w term ∙ sum-swap K (n + w) w _ ∙ sum-ext K w _ _ (λ j h. column j h);
        }

    pub by-powers-sum : (N : ℕ) → Below K f N → by_powers n f ≡ sum K N (λ o. f o ⊗ monomial K w px py o)
    by-powers-sum N b = sym (weighted-of K N b by-powers)

-- ---- lanes: that of x^i y^j is i·w + j
abbrev pub power_lane : ℕ → ℕ → ℕ
power_lane w o = o - w * (o % w)

abbrev pub power_order : ℕ → ℕ → ℕ
power_order w l = l + w * (l % w)

pub lane-at : (w i j : ℕ) → j < w → power_lane w (order w i j) ≡ i * w + j
lane-at w i j h = ap (λ r. order w i j - w * r) (order-y w i j h) ∙ omega (arith, mul_comm w i)

pub order-at : (w i j : ℕ) → j < w → power_order w (i * w + j) ≡ order w i j
order-at w i j h = ap (λ r. i * w + j + w * r) (divided {w = w} i j h (omega arith)).1 ∙ omega (arith, mul_comm w i)

pub order-again : (w o : ℕ) → 2 ≤ w → Present w o → power_order w (power_lane w o) ≡ o
order-again w o wide p =
    ap (λ k. power_order w (power_lane w k)) (sym (order-of w o p))
    ∙ ap (power_order w) (lane-at w (x_power w o) (y_power w o) (mod_below w wide o))
    ∙ order-at w (x_power w o) (y_power w o) (mod_below w wide o) ∙ order-of w o p

-- ---- for every member
module _ (𝓜 : Member) where
  open 𝓜 use {gf, w, wide}
  open K gf use {◌⊗◌, 𝟘}

  module _ (c : List ℕ) (short : length c ≤ places 𝓜) where
    -- what stands at a missing order left out
    on_curve : ℕ → GF gf
    on_curve o = choose (dec_present w o) (coef gf c o) 𝟘

    there : (o : ℕ) → Present w o → on_curve o ≡ coef gf c o
    unfolding on_curve
    there o a = choose_yes (dec_present w o) _ _ a

    missing : (o : ℕ) → ¬ Present w o → on_curve o ≡ 𝟘
    unfolding on_curve
    missing o a = choose_no (dec_present w o) _ _ a

    beyond : (o : ℕ) → places 𝓜 ≤ o → on_curve o ≡ 𝟘
    beyond o l = go (dec_present w o)
      where
        go : Dec (Present w o) → on_curve o ≡ 𝟘
        go (yes a) = there o a ∙ coef-beyond gf c o (omega arith)
        go (no a) = missing o a

    -- the order of x^i y^j is that of a monomial
    present : (i j : ℕ) → j < w → Present w (order w i j)
    present i j h =
        let d = divided {w = w} {o = order w i j} (i + j) j h (omega arith) in
        omega (arith, d)

    one : (p o : ℕ) → to_f gf (value_term 𝓜 c (listed (places 𝓜) (monomial_at 𝓜 p)) o) ≡ coef gf c o ⊗ to_f gf (get_or (listed (places 𝓜) (monomial_at 𝓜 p)) o 0)
    unfolding value_term
    one p o = to_f-times gf _ _ ∙ ap (λ a. a ⊗ to_f gf (get_or (listed (places 𝓜) (monomial_at 𝓜 p)) o 0)) (sym (coef-at gf c o))

    counts : (p o : ℕ) → coef gf c o ⊗ to_f gf (monomial_at 𝓜 p o) ≡ on_curve o ⊗ monomial (K gf) w (px 𝓜 p) (py 𝓜 p) o
    unfolding monomial_at
    counts p o = go (dec_present w o)
      where
        go : Dec (Present w o) → coef gf c o ⊗ to_f gf (monomial_at 𝓜 p o) ≡ on_curve o ⊗ monomial (K gf) w (px 𝓜 p) (py 𝓜 p) o
        go (yes a) = ap₂ (λ x y. x ⊗ y) (sym (there o a)) (ap (to_f gf) (present-yes 𝓜 o _ a) ∙ to_f-monomial 𝓜 o p)
        go (no a) =
            ap (λ y. coef gf c o ⊗ y) (ap (to_f gf) (present-no 𝓜 o _ a) ∙ to_f-zero gf) ∙ mul-zero (K gf) _
            ∙ sym (ap (λ x. x ⊗ monomial (K gf) w (px 𝓜 p) (py 𝓜 p) o) (missing o a) ∙ zero-mul (K gf) _)

    pub value-by-powers : (p : ℕ) → to_f gf (value_of 𝓜 c p) ≡ by_powers (K gf) w (px 𝓜 p) (py 𝓜 p) (size gf) (coef gf c)
    unfolding value_of value_by
    value-by-powers p =
        to_f-xor_sum gf (places 𝓜) _
        ∙ sum-ext (K gf) (places 𝓜) _ _ (λ o l. one p o ∙ ap (λ a. coef gf c o ⊗ to_f gf a) (listed_at (places 𝓜) o (monomial_at 𝓜 p) 0 l) ∙ counts p o)
        ∙ sym (by-powers-sum (K gf) w (px 𝓜 p) (py 𝓜 p) wide (size gf) missing high (places 𝓜) (record { zero_from = beyond }))
        ∙ by_powers-ext (K gf) w (px 𝓜 p) (py 𝓜 p) (size gf) on_curve (coef gf c) (λ i j l h. there (order w i j) (present i j h))
      where
        high : (i j : ℕ) → size gf ≤ i → j < w → on_curve (order w i j) ≡ 𝟘
        high i j l h =
            let b : w * size gf ≤ w * i = mul-le-mul_left w l in
            beyond (order w i j) (omega (arith, mul_comm w (size gf)))

  pub record PowerLanes (c : List ℕ) (f : ℕ → GF gf) : Type 0 where
    pub lanes : (l : ℕ) → l < places 𝓜 → f l ≡ coef gf c (power_order w l)

  pub record XSums (f g : ℕ → GF gf) : Type 0 where
    pub lanes : (p : ℕ) → p < places 𝓜 → g p ≡ sum (K gf) (size gf) (λ i. f (i * w + p % w) ⊗ pow (K gf) (px 𝓜 p) i)

  pub xsums-by : (f g : ℕ → GF gf) → HornerTo (K gf) (places 𝓜) (λ p i. f (i * w + p % w)) (px 𝓜) (size gf) 0 g → XSums f g
  xsums-by f g t = record { lanes = horner-end (K gf) (places 𝓜) (λ p i. f (i * w + p % w)) (px 𝓜) (size gf) g t }

  module _ (c : List ℕ) (short : length c ≤ places 𝓜) (f g h : ℕ → GF gf) (held : PowerLanes c f) (sums : XSums f g) (fibres : FibreValues 𝓜 g h) where
    pub values-by-powers : (p : ℕ) → p < places 𝓜 → h p ≡ to_f gf (value_of 𝓜 c p)
    unfolding by_powers
    values-by-powers p l =
        fibres.lanes p l
        ∙ sum-ext (K gf) w _ _ (λ j hj. ap (λ s. s ⊗ pow (K gf) (py 𝓜 p) j) (inner j hj))
        ∙ sym (value-by-powers c short p)
      where
        inner : (j : ℕ) → j < w → g (x_of w p * w + j) ≡ sum (K gf) (size gf) (λ i. coef gf c (order w i j) ⊗ pow (K gf) (px 𝓜 p) i)
        inner j hj =
            let e = place_of 𝓜 (x_of w p) j hj in
            sums.lanes (x_of w p * w + j) (place-below 𝓜 (x_of w p) j (x_below 𝓜 p l) hj)
            ∙ sum-ext (K gf) (size gf) _ _ (λ i hi.
            ap₂ (λ r x. f (i * w + r) ⊗ pow (K gf) (to_f gf x) i) e.1 e.0
            ∙ ap (λ s. s ⊗ pow (K gf) (px 𝓜 p) i)
            (held.lanes (i * w + j) (place-below 𝓜 i j hi hj) ∙ ap (coef gf c) (order-at w i j hj)))
