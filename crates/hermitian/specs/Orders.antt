-- Monomials by order, and the t-th present order, for any w ≥ 2.
--
--   order w i j         the order of x^i y^j: w·i + (w + 1)·j
--   x_power, y_power      the powers of x and of y in the monomial of a present order
--   order-x, order-y, order-injective, order-of   monomials with j < w and present orders are one to one
--   rank w n            how many present orders lie below n
--   rank-present        in row q, orders q·w to q·w + w − 1, the rank of a present one is genus (q + 1) and its rest
--   rank-large          from w(w − 1) on every order is present: exactly genus w of those below n are absent
--   rank-least          at most genus w orders below n are absent, for every n
--   order_of w t         the t-th present order, counted from 0: message symbol t multiplies its monomial
--   order_of-present, order_of-rising, order_of-injective, rank-order_of, order_of-rank   it lists the present orders, and each once, upwards
--   order_of-mono        it does not fall
--   order_of-below       order_of w t is below n exactly if t is below rank w n
--   order_of-up-to       for M ≥ 2g − 1: order_of w t ≤ M exactly if t < M + 1 − g
--   order_of-most        it is at most t + g,
--   order_of-large       and from t = g on it is t + g
use Rattle.std.specs.Prelude.{◌≡◌, Bool, List, [], ◌∷◌, ◌++◌, ◌↔◌, leb}
use Rattle.std.proofs.Math.Path.{refl, ap}
use Rattle.std.proofs.Common.{sym, ◌∙◌, subst, ⊎_elim, add-zero, add-suc, zero-mul, suc-mul, mul_comm, add-sub_of_le, div-add-mod', eq-or-lt_of_le, le_of_suc-le-suc, le-leb}
use Rattle.std.proofs.Math.Bool.{true, false}
use Prim.Native.Nat.{ℕ, zero, suc, min, ◌+◌, ◌-◌, ◌*◌, ◌/◌, ◌%◌, ◌<◌, ◌≤◌}
use Rattle.std.proofs.Math.Decide.{dec_le}
use native.Mathlib.Omega.{arith}
use Rattle.std.proofs.Math.ListN.{length, get_or, length-append, get_or-append}
use Rattle.std.proofs.lemmas.List.{get_or_at}
use Rattle.std.proofs.lemmas.Bool.{lt-leb}
use Rattle.hermitian.specs.Present.{Present, dec_present, divided, present-large, genus, genus-zero, genus-suc, genus-double}

abbrev pub order : ℕ → ℕ → ℕ → ℕ
order w i j = w * i + (w + 1) * j

abbrev pub x_power : ℕ → ℕ → ℕ
x_power w o = o / w - o % w

abbrev pub y_power : ℕ → ℕ → ℕ
y_power w o = o % w

-- the order as a quotient and a rest by w
order_row : (w i j : ℕ) → order w i j ≡ (i + j) * w + j
order_row w i j = omega (arith, mul_comm w i, mul_comm w j)

pub order-y : (w i j : ℕ) → j < w → y_power w (order w i j) ≡ j
order-y w i j h = (divided (i + j) j h (order_row w i j)).1

pub order-x : (w i j : ℕ) → j < w → x_power w (order w i j) ≡ i
order-x w i j h = omega (arith, divided (i + j) j h (order_row w i j))

-- no two monomials share an order
pub order-injective : (w i j k l : ℕ) → j < w → l < w → order w i j ≡ order w k l → (i ≡ k) × (j ≡ l)
order-injective w i j k l hj hl e = (
  sym (order-x w i j hj) ∙ ap (x_power w) e ∙ order-x w k l hl,
  sym (order-y w i j hj) ∙ ap (y_power w) e ∙ order-y w k l hl,
)

pub order-of : (w o : ℕ) → Present w o → order w (x_power w o) (y_power w o) ≡ o
order-of w o h =
    let i : ℕ = x_power w o in
    let j : ℕ = y_power w o in
    let q : o / w ≡ i + j = omega arith in
    order_row w i j ∙ ap (λ x. x * w + j) (sym q) ∙ div-add-mod' o w

unfoldable pub is_present : ℕ → ℕ → Bool
is_present w o = leb (o % w) (o / w)

-- one more if the test passes
abbrev counted : Bool → ℕ → ℕ
counted true r = suc r
counted false r = r

-- the list with one more entry if the test passes
abbrev kept : Bool → ℕ → List ℕ → List ℕ
kept true o l = l ++ (o ∷ [])
kept false o l = l

unfoldable pub rank : ℕ → ℕ → ℕ
rank w zero = 0
rank w (suc n) = counted (is_present w n) (rank w n)

-- the present orders below n, rising
unfoldable pub presents : ℕ → ℕ → List ℕ
presents w zero = []
presents w (suc n) = kept (is_present w n) n (presents w n)

unfoldable pub order_of : ℕ → ℕ → ℕ
order_of w t = get_or (presents w (t + genus w + 1)) t 0

pub rank-nil : (w : ℕ) → rank w 0 ≡ 0
unfolding rank
rank-nil w = refl

pub rank-yes : (w n : ℕ) → Present w n → rank w (suc n) ≡ suc (rank w n)
unfolding rank is_present
rank-yes w n h = ap (λ b. counted b (rank w n)) (le-leb (n % w) (n / w) h)

pub rank-no : (w n : ℕ) → ¬ Present w n → rank w (suc n) ≡ rank w n
unfolding rank is_present
rank-no w n h = ap (λ b. counted b (rank w n)) (lt-leb (n % w) (n / w) (omega arith))

-- the rank does not fall, and rises by at most one an order
pub rank-gap : (w m n : ℕ) → m ≤ n → (rank w m ≤ rank w n) × (rank w n + m ≤ rank w m + n)
rank-gap w m n h = rw (← add-sub_of_le h) (up (n - m))
  where
    up : (d : ℕ) → (rank w m ≤ rank w (m + d)) × (rank w (m + d) + m ≤ rank w m + (m + d))
    up zero = rw add-zero (omega arith)
    up (suc d) = rw add-suc (go (up d) (dec_present w (m + d)))
      where
        go : (rank w m ≤ rank w (m + d)) × (rank w (m + d) + m ≤ rank w m + (m + d)) → Dec (Present w (m + d))
            → (rank w m ≤ rank w (suc (m + d))) × (rank w (suc (m + d)) + m ≤ rank w m + suc (m + d))
        go ih (yes p) = omega (arith, rank-yes w (m + d) p)
        go ih (no p) = omega (arith, rank-no w (m + d) p)

pub rank-past : (w m n : ℕ) → Present w m → m < n → rank w m < rank w n
rank-past w m n p h = omega (arith, rank-yes w m p, rank-gap w (suc m) n h)

-- row q has q + 1 present orders, the first ones, until it is full
rank-row : (w q r : ℕ) → q < w → r ≤ w → rank w (q * w + r) ≡ rank w (q * w) + min r (suc q)
rank-row w q zero h l = rw add-zero (omega arith)
rank-row w q (suc r) h l = rw add-suc (go (rank-row w q r h (omega arith)) (dec_le r q))
  where
    at : (q * w + r) / w ≡ q × ((q * w + r) % w ≡ r)
    at = divided q r l refl

    go : rank w (q * w + r) ≡ rank w (q * w) + min r (suc q) → Dec (r ≤ q)
        → rank w (suc (q * w + r)) ≡ rank w (q * w) + min (suc r) (suc q)
    go ih (yes p) = omega (arith, rank-yes w (q * w + r) (omega (arith, at)))
    go ih (no p) = omega (arith, rank-no w (q * w + r) (omega (arith, at)))

-- so that q rows hold 1 + 2 + … + q of them
rank-rows : (w q : ℕ) → q ≤ w → rank w (q * w) ≡ genus (suc q)
rank-rows w zero h = ap (rank w) (zero-mul w) ∙ rank-nil w ∙ omega (arith, genus-suc 0, genus-zero)
rank-rows w (suc q) h =
    ap (rank w) (suc-mul q w) ∙ rank-row w q w h (omega arith) ∙ omega (arith, rank-rows w q (omega arith), genus-suc (suc q))

-- a present order in row q has the present orders of q rows below it, and its rest
pub rank-present : (w q o : ℕ) → Present w o → q < w → o / w ≡ q → rank w o ≡ genus (suc q) + (o - q * w)
rank-present w q o p h e =
    let f : o / w * w ≡ q * w = ap (λ x. x * w) e in
    let g : q * w + o % w ≡ o = omega (arith, div-add-mod' o w) in
    let m : min (o % w) (suc q) ≡ o % w = omega arith in
    ap (rank w) (sym g) ∙ rank-row w q (o % w) h (omega arith) ∙ omega (arith, rank-rows w q (omega arith))

module _ (w : ℕ) (two : 2 ≤ w) where
  rank-start : rank w (w * (w - 1)) ≡ genus w
  rank-start =
      let e : suc (w - 1) ≡ w = omega arith in
      ap (rank w) (mul_comm w (w - 1)) ∙ rank-rows w (w - 1) (omega arith) ∙ ap genus e

  -- from w(w − 1) on every order is present, so that exactly genus w of the orders below n are absent
  pub rank-large : (n : ℕ) → w * (w - 1) ≤ n → rank w n + genus w ≡ n
  rank-large n h = rw (← add-sub_of_le h) (up (n - w * (w - 1)))
    where
      up : (d : ℕ) → rank w (w * (w - 1) + d) + genus w ≡ w * (w - 1) + d
      up zero = rw add-zero (omega (arith, rank-start, genus-double w))
      up (suc d) = rw add-suc (omega (arith, up d, rank-yes w (w * (w - 1) + d) (present-large w two (w * (w - 1) + d) (omega arith))))

  pub rank-least : (n : ℕ) → n ≤ rank w n + genus w
  rank-least n = go (dec_le (w * (w - 1)) n)
    where
      go : Dec (w * (w - 1) ≤ n) → n ≤ rank w n + genus w
      go (yes h) = omega (arith, rank-large n h)
      go (no h) = omega (arith, rank-gap w n (w * (w - 1)) (omega arith), rank-start, genus-double w)

  -- the rank of a present order is its place in the list
  presents-length : (n : ℕ) → length (presents w n) ≡ rank w n
  unfolding presents rank
  presents-length zero = refl
  presents-length (suc n) = go (is_present w n) (presents-length n)
    where
      go : (b : Bool) → length (presents w n) ≡ rank w n → length (kept b n (presents w n)) ≡ counted b (rank w n)
      go true ih = length-append (presents w n) (n ∷ []) ∙ omega arith
      go false ih = ih

  presents-yes : (n : ℕ) → Present w n → presents w (suc n) ≡ presents w n ++ (n ∷ [])
  unfolding presents is_present
  presents-yes n h = ap (λ b. kept b n (presents w n)) (le-leb (n % w) (n / w) h)

  presents-no : (n : ℕ) → ¬ Present w n → presents w (suc n) ≡ presents w n
  unfolding presents is_present
  presents-no n h = ap (λ b. kept b n (presents w n)) (lt-leb (n % w) (n / w) (omega arith))

  presents-at : (n m : ℕ) → Present w m → m < n → get_or (presents w n) (rank w m) 0 ≡ m
  presents-at zero m p h = absurd (omega arith)
  presents-at (suc n) m p h = ⊎_elim (last (presents-length n)) (λ l. earlier l (presents-at n m p l) (dec_present w n)) (eq-or-lt_of_le (le_of_suc-le-suc h))
    where
      last : length (presents w n) ≡ rank w n → m ≡ n → get_or (presents w (suc n)) (rank w m) 0 ≡ m
      last l e =
          ap (λ x. get_or x (rank w m) 0) (presents-yes n (subst (Present w) e p)) ∙ get_or_at (presents w n) n [] 0 (rank w m) (l ∙ ap (rank w) (sym e)) ∙ sym e

      earlier : m < n → get_or (presents w n) (rank w m) 0 ≡ m → Dec (Present w n) → get_or (presents w (suc n)) (rank w m) 0 ≡ m
      earlier l ih (yes q) =
          ap (λ x. get_or x (rank w m) 0) (presents-yes n q) ∙ get_or-append (presents w n) (n ∷ []) 0 (rank w m) (rw presents-length (rank-past w m n p l)) ∙ ih
      earlier l ih (no q) = ap (λ x. get_or x (rank w m) 0) (presents-no n q) ∙ ih

  -- every number below the rank of n is the rank of a present order below n
  presents-hit : (n t : ℕ) → t < rank w n → (m : ℕ) × (m < n) × Present w m × (rank w m ≡ t)
  presents-hit zero t h = absurd (omega (arith, rank-nil w))
  presents-hit (suc n) t h = go (dec_present w n) (dec_le (rank w n) t) (presents-hit n t)
    where
      go : Dec (Present w n) → Dec (rank w n ≤ t) → (t < rank w n → (m : ℕ) × (m < n) × Present w m × (rank w m ≡ t))
          → (m : ℕ) × (m < suc n) × Present w m × (rank w m ≡ t)
      go (yes p) (yes l) ih = (n, omega arith, p, omega (arith, rank-yes w n p))
      go (no p) (yes l) ih = absurd (omega (arith, rank-no w n p))
      go d (no l) ih =
          let f : (m : ℕ) × (m < n) × Present w m × (rank w m ≡ t) = ih (omega arith) in
          (f.0, omega (arith, f.1), f.2, f.3)

  order_of-found : (t : ℕ) → (m : ℕ) × Present w m × (rank w m ≡ t) × (order_of w t ≡ m)
  unfolding order_of
  order_of-found t = go (presents-hit (t + genus w + 1) t (omega (arith, rank-least (t + genus w + 1))))
    where
      go : (m : ℕ) × (m < t + genus w + 1) × Present w m × (rank w m ≡ t) → (m : ℕ) × Present w m × (rank w m ≡ t) × (order_of w t ≡ m)
      go f =
          (f.0, f.2, f.3, ap (λ k. get_or (presents w (t + genus w + 1)) k 0) (sym f.3) ∙ presents-at (t + genus w + 1) f.0 f.2 f.1)

  pub order_of-present : (t : ℕ) → Present w (order_of w t)
  order_of-present t = subst (Present w) (sym (order_of-found t).3) (order_of-found t).1

  pub rank-order_of : (t : ℕ) → rank w (order_of w t) ≡ t
  rank-order_of t = ap (rank w) (order_of-found t).3 ∙ (order_of-found t).2

  pub order_of-injective : (s t : ℕ) → order_of w s ≡ order_of w t → s ≡ t
  order_of-injective s t e = sym (rank-order_of s) ∙ ap (rank w) e ∙ rank-order_of t

  pub order_of-rank : (o : ℕ) → Present w o → order_of w (rank w o) ≡ o
  unfolding order_of
  order_of-rank o p = presents-at (rank w o + genus w + 1) o p (omega (arith, rank-least o))

  pub order_of-below : (t n : ℕ) → (order_of w t < n) ↔ (t < rank w n)
  order_of-below t n = (
    λ h. subst (λ x. x < rank w n) (rank-order_of t) (rank-past w (order_of w t) n (order_of-present t) h),
    λ h. go h (dec_le n (order_of w t)),
  )
    where
      go : t < rank w n → Dec (n ≤ order_of w t) → order_of w t < n
      go h (yes l) = absurd (omega (arith, rank-gap w n (order_of w t) l, rank-order_of t))
      go h (no l) = omega arith

  pub order_of-rising : (s t : ℕ) → s < t → order_of w s < order_of w t
  order_of-rising s t h = (order_of-below s (order_of w t)).1 (rw rank-order_of h)

  pub order_of-mono : {s t : ℕ} → s ≤ t → order_of w s ≤ order_of w t
  order_of-mono {s} {t} h = ⊎_elim (λ e. omega (arith, ap (order_of w) e)) (λ l. omega (arith, order_of-rising s t l)) (eq-or-lt_of_le h)

  -- k = M + 1 − g present orders up to M, once M ≥ 2g − 1
  pub order_of-up-to : (M t : ℕ) → 2 * genus w ≤ M + 1 → (order_of w t ≤ M) ↔ (t < M + 1 - genus w)
  order_of-up-to M t h = (
    λ l. omega (arith, (order_of-below t (M + 1)).0 (omega arith), all),
    λ l. omega (arith, (order_of-below t (M + 1)).1 (omega (arith, all))),
  )
    where
      all : rank w (M + 1) + genus w ≡ M + 1
      all = rank-large (M + 1) (omega (arith, genus-double w))

  pub order_of-most : (t : ℕ) → order_of w t ≤ t + genus w
  order_of-most t = omega (arith, rank-least (order_of w t), rank-order_of t)

  pub order_of-large : (t : ℕ) → genus w ≤ t → order_of w t ≡ t + genus w
  order_of-large t h =
      let large : w * (w - 1) ≤ t + genus w = omega (arith, genus-double w) in
      let r : rank w (t + genus w) ≡ t = omega (arith, rank-large (t + genus w) large) in
      ap (order_of w) (sym r) ∙ order_of-rank (t + genus w) (present-large w two (t + genus w) large)

-- document 01: '1, 2, 3, 6, 7 and 11 are missing'
pub orders-below-12 : presents 4 12 ≡ 0 ∷ 4 ∷ 5 ∷ 8 ∷ 9 ∷ 10 ∷ []
unfolding presents is_present
orders-below-12 = refl
