-- The places are the affine points of the curve, each once.
--
--   x_below, rest_below   a place's x is an element, and its rest below w
--   place_of         the place of x and r: its x is x, and its rest r
--   places-more      there are at least twice the genus of places
--   y_of-below        every y is an element
--   on-curve         every place is a point of the curve
--   every-point      every point of the curve is that of a place
--   places-distinct  different places are different points
--   on-curve-at      in the field, whatever the place's number: a place counts modulo their number
--   points           the points of the places, as the theory asks for them
use Rattle.std.specs.Prelude.{◌≡◌, refl, ℕ, suc, ◌+◌, ◌*◌, ◌-◌, ◌%◌, ◌<◌, ◌≤◌, T, eqb}
use Rattle.std.proofs.Math.Path.{sym, ap, ap₂}
use Rattle.std.proofs.Common.{◌∙◌, subst₂, mod-lt, div-lt_iff_lt-mul, mul-le-mul_left, mul-le-mul_right, arith, eqb→eq}
use mathlib.Core.List.{Memᴰ}
use Rattle.std.proofs.Math.Nat.{div-add-mod'}
use Rattle.std.proofs.Math.Arith.{mod-mul}
use Rattle.std.specs.Int.Bits.{bit_xor}
use Rattle.std.proofs.Math.ListN.{length, get_or}
use Rattle.lists.specs.Count.{kept-ext}
use Rattle.lists.specs.Different.{different-at, rising-different}
use Rattle.lists.specs.Member.{member-at, at-member}
use Rattle.galois.specs.BinaryField.{K, size, power, to_f, to_f-add, to_f-mod, to_f-power, to_f-injective, power-mod, one-lt}
use Rattle.hermitian.specs.Present.{genus, genus-double, divided}
use Rattle.hermitian.specs.Value.{Curve}
use Rattle.hermitian.specs.Points.{Points}
use Rattle.family.specs.Curve.{is_on_curve, fibre, x_of, y_of, fibre-on, fibre-member, fibre-rising}
use Rattle.family.specs.Member.{Member, places, px, py}

module _ (𝓜 : Member) where
  open 𝓜 use {gf, w, wide, square, fibres}
  open K gf use {◌⊕◌}

  module _ (p : ℕ) where
    pub x_below : p < places 𝓜 → x_of w p < size gf
    x_below h = (div-lt_iff_lt-mul {k = w} (omega arith)).1 h

    pub rest_below : p % w < w
    rest_below = mod-lt p (omega arith)

  pub place_of : (x r : ℕ) → r < w → (x_of w (x * w + r) ≡ x) × ((x * w + r) % w ≡ r)
  place_of x r h = divided x r h refl

  pub place-below : (x r : ℕ) → x < size gf → r < w → x * w + r < places 𝓜
  place-below x r hx hr = omega (arith, mul-le-mul_right w hx)

  pub places-more : 2 * genus w ≤ places 𝓜
  places-more =
      let a : w * (w - 1) ≤ w * w = mul-le-mul_left w (omega arith) in
      let b : size gf * 1 ≤ size gf * w = mul-le-mul_left (size gf) (omega arith) in
      omega (arith, genus-double w, square)

  module _ (p : ℕ) (h : p < places 𝓜) where
    -- the y of a place stands in the fibre of its x
    in-fibre : Memᴰ (y_of gf w p) (fibre gf w (x_of w p))
    unfolding y_of
    in-fibre = member-at (fibre gf w (x_of w p)) 0 (p % w) (omega (arith, fibres (x_of w p) (x_below p h), rest_below p))

    pub y_of-below : y_of gf w p < size gf
    y_of-below = (fibre-on gf w (x_of w p) (y_of gf w p) in-fibre).0

    pub on-curve : T (is_on_curve gf w (x_of w p) (y_of gf w p))
    on-curve = (fibre-on gf w (x_of w p) (y_of gf w p) in-fibre).1

  pub every-point : (x y : ℕ) → x < size gf → y < size gf → T (is_on_curve gf w x y)
      → (p : ℕ) × (p < places 𝓜) × (x_of w p ≡ x) × (y_of gf w p ≡ y)
  unfolding y_of
  every-point x y hx hy t =
      let s = at-member 0 (fibre-member gf w x y hy t) in
      let l : s.0 < w = omega (arith, s.1, fibres x hx) in
      let e = place_of x s.0 l in
      (x * w + s.0, place-below x s.0 hx l, e.0, ap₂ (λ u r. get_or (fibre gf w u) r 0) e.0 e.1 ∙ s.2)

  pub places-distinct : (p q : ℕ) → p < places 𝓜 → q < places 𝓜 → x_of w p ≡ x_of w q → y_of gf w p ≡ y_of gf w q → p ≡ q
  unfolding y_of
  places-distinct p q hp hq ex ey =
      let n : length (fibre gf w (x_of w p)) ≡ w = fibres (x_of w p) (x_below p hp) in
      let r : p % w ≡ q % w =
      different-at (rising-different (fibre gf w (x_of w p)) (fibre-rising gf w (x_of w p))) 0 (p % w) (q % w)
      (omega (arith, rest_below p)) (omega (arith, rest_below q)) (ey ∙ ap (λ x. get_or (fibre gf w x) (q % w) 0) (sym ex)) in
      sym (div-add-mod' p w) ∙ ap₂ (λ a b. a * w + b) ex r ∙ div-add-mod' q w

  -- ---- in the field
  fibre-mod : (x : ℕ) → fibre gf w (x % size gf) ≡ fibre gf w x
  unfolding fibre is_on_curve
  fibre-mod x = kept-ext (size gf) (is_on_curve gf w (x % size gf)) (is_on_curve gf w x) (λ y l. ap (eqb (bit_xor (power gf y w) y)) (power-mod gf x (suc w)))

  place-mod : (p : ℕ) → p % places 𝓜 ≡ x_of w p % size gf * w + p % w
  place-mod p = mod-mul p (omega (arith, one-lt gf)) (omega arith)

  x_of-mod : (p : ℕ) → x_of w (p % places 𝓜) ≡ x_of w p % size gf
  x_of-mod p = ap (x_of w) (place-mod p) ∙ (place_of (x_of w p % size gf) (p % w) (rest_below p)).0

  rest-mod : (p : ℕ) → p % places 𝓜 % w ≡ p % w
  rest-mod p = ap (λ q. q % w) (place-mod p) ∙ (place_of (x_of w p % size gf) (p % w) (rest_below p)).1

  px-mod : (p : ℕ) → px 𝓜 (p % places 𝓜) ≡ px 𝓜 p
  px-mod p = ap (to_f gf) (x_of-mod p) ∙ to_f-mod gf (x_of w p)

  py-mod : (p : ℕ) → py 𝓜 (p % places 𝓜) ≡ py 𝓜 p
  unfolding y_of
  py-mod p =
      ap₂ (λ x r. to_f gf (get_or (fibre gf w x) r 0)) (x_of-mod p) (rest-mod p) ∙ ap (λ l. to_f gf (get_or l (p % w) 0)) (fibre-mod (x_of w p))

  curve-below : (p : ℕ) → p < places 𝓜 → Curve (K gf) w (px 𝓜 p) (py 𝓜 p)
  unfolding is_on_curve
  curve-below p h =
      ap (λ x. x ⊕ py 𝓜 p) (sym (to_f-power gf (y_of gf w p) w))
      ∙ sym (to_f-add gf (power gf (y_of gf w p) w) (y_of gf w p))
      ∙ ap (to_f gf) (eqb→eq _ _ (on-curve p h))
      ∙ to_f-power gf (x_of w p) (suc w)

  places-positive : 0 < places 𝓜
  places-positive =
      let b : size gf * 1 ≤ size gf * w = mul-le-mul_left (size gf) (omega arith) in
      omega (arith, one-lt gf)

  pub on-curve-at : (p : ℕ) → Curve (K gf) w (px 𝓜 p) (py 𝓜 p)
  on-curve-at p = subst₂ (λ x y. Curve (K gf) w x y) (px-mod p) (py-mod p) (curve-below (p % places 𝓜) (mod-lt p places-positive))

  pub points : Points (K gf) w (places 𝓜) (px 𝓜) (py 𝓜)
  points =
      record {
        on = λ i h. on-curve-at i;
        distinct = λ i j l h ex ey.
            let hi : i < places 𝓜 = omega arith in
            let x : x_of w i ≡ x_of w j = to_f-injective gf (x_of w i) (x_of w j) (x_below i hi) (x_below j h) ex in
            let y : y_of gf w i ≡ y_of gf w j = to_f-injective gf (y_of gf w i) (y_of gf w j) (y_of-below i hi) (y_of-below j h) ey in
            let e : i ≡ j = places-distinct i j hi h x y in
            omega arith;
      }
