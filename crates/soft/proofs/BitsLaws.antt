-- Laws of the columns that bit values make.
--
--   magnitude-positive, magnitude-negative   a byte below 128 is its own magnitude; 128 to 255 have 128 to 1
--   magnitude-128          so the magnitude of −128 is 128,
--   magnitude-most         and there is no larger one
--   contradicts-zero, contradicts-positive, contradicts-negative   no bit contradicts zero, the bits but 0 a positive value, the bits but 1 a negative one
--   bit-cost-zero          zero adds nothing
--   bit-cost-positive      a positive value adds nothing to the bit 0 and itself to the bit 1,
--   bit-cost-negative      and a negative one its magnitude to the bit 0 and nothing to the bit 1
--   bit-cost-low, bit-cost-high   the two as products with the bit
--   bit-cost-most          no value adds more than 128
--   symbol-bits            the bits of a symbol, highest first, make up the symbol
--   bit-column-length, cost-bits   a column has a cost for each symbol: the sum of what the values add
--   bit-cost-512           with four bits no cost exceeds 512; bit-column-most: with b bits, 128 b
--   blank-bits             the column is blank exactly if all values are zero
--   bit-costs-suc          the costs of one place more
--   bit-costs-length, bit-table-length   a frame of n places makes n costs for each symbol, and two bytes for each cost;
--   bit-table-bytes        they are bytes,
--   costs-bits             and from them the costs are read
--   values-at              the values of place p are those from number b p to b p + b − 1
--   bit-columns            the table's column of place p is the one that they make
--   columns-bits           so the columns of the costs are those of the frame, at every place
use Rattle.std.specs.Prelude.{Bool, true, false, not, cond, ◌≡◌, ◌↔◌, ◌≢◌, eqb}
use Rattle.std.proofs.Math.Path.{refl, sym, ap, ap₂, fun_ext}
use Rattle.std.proofs.Common.{◌∙◌, subst, mul-zero, pow-suc, mul-div_cancel, suc-mul, mul-le-mul_left, eq-or-lt_of_le, le_of_suc-le-suc, pow_pos, pow-add, le-leb, ne_eqb}
use mathlib.Core.List.{List, ◌++◌}
use Rattle.std.proofs.Math.Logic.{⊎_elim}
use Prim.Native.Nat.{ℕ, zero, suc, ◌+◌, ◌-◌, ◌*◌, ◌/◌, ◌%◌, ◌^◌, ◌<◌, ◌≤◌}
use Rattle.std.proofs.Math.Nat.{pow-succ', div-div-eq-div-mul, zero-div, div_self, div-eq_of_lt, mul-mod_left, mul-le-mul_right}
use Rattle.std.proofs.Math.Decide.{dec_lt, ℕ_discrete}
use native.Mathlib.Omega.{arith}
use Rattle.std.proofs.Math.ListN.{length, get_or, length-append, get_or-append, get_or-eq_default}
use Rattle.std.proofs.Math.Pow.{pow-lt}
use Rattle.std.proofs.Math.Seq.{get_or-append-add}
use Rattle.std.proofs.lemmas.Bool.{lt-leb}
use Rattle.lists.specs.Count.{sum_of, sum_of-nil, sum_of-suc, sum_of-ext, sum_of-plus, sum_of-bound, sum_of-strict}
use Rattle.lists.specs.Distinct.{below}
use Rattle.lists.specs.Listed.{listed, listed-length, listed_at, listed-ext}
use Rattle.soft.specs.Column.{ceiling, cost_of, cost_at, costs_from, column_of, is_blank}
use Rattle.soft.specs.BlankLaws.{blank-same}
use Rattle.soft.specs.CostBytes.{cost_bytes, cost-bytes-length, cost-bytes-below, costs-written}
use Rattle.soft.specs.Bits.{bits, is_negative, magnitude, favoured, contradicts, bit_cost, bit_of, added_by, symbol_cost, bit_column, values_at, bit_columns, bit_costs, bit_table}

-- ---- one value

pub magnitude-positive : {v : ℕ} → v < 128 → magnitude v ≡ v
unfolding magnitude is_negative
magnitude-positive {v} h = ap (λ b. cond b (256 - v) v) (lt-leb 128 v h)

pub magnitude-negative : {v : ℕ} → 128 ≤ v → magnitude v ≡ 256 - v
unfolding magnitude is_negative
magnitude-negative {v} h = ap (λ b. cond b (256 - v) v) (le-leb 128 v h)

pub magnitude-128 : magnitude 128 ≡ 128
unfolding magnitude is_negative
magnitude-128 = refl

pub magnitude-most : (v : ℕ) → magnitude v ≤ 128
magnitude-most v = go (dec_lt v 128)
  where
    go : Dec (v < 128) → magnitude v ≤ 128
    go (yes h) = omega (arith, magnitude-positive h)
    go (no h) = let l : 128 ≤ v = omega arith in omega (arith, magnitude-negative l)

pub contradicts-zero : (t : ℕ) → contradicts 0 t ≡ false
unfolding contradicts favoured
contradicts-zero t = refl

pub contradicts-positive : {v : ℕ} → 0 < v → v < 128 → (t : ℕ) → contradicts v t ≡ not (eqb t 0)
unfolding contradicts favoured is_negative
contradicts-positive {v} p h t = rw (ne_eqb v 0 (λ e. omega arith), lt-leb 128 v h)

pub contradicts-negative : {v : ℕ} → 128 ≤ v → (t : ℕ) → contradicts v t ≡ not (eqb t 1)
unfolding contradicts favoured is_negative
contradicts-negative {v} h t = rw (ne_eqb v 0 (λ e. omega arith), le-leb 128 v h)

pub bit-cost-zero : (t : ℕ) → bit_cost 0 t ≡ 0
unfolding bit_cost
bit-cost-zero t = ap (λ b. cond b (magnitude 0) 0) (contradicts-zero t)

pub bit-cost-positive : {v : ℕ} → 0 < v → v < 128 → (bit_cost v 0 ≡ 0) × (bit_cost v 1 ≡ v)
unfolding bit_cost
bit-cost-positive {v} p h = (
  ap (λ b. cond b (magnitude v) 0) (contradicts-positive p h 0),
  ap (λ b. cond b (magnitude v) 0) (contradicts-positive p h 1) ∙ magnitude-positive h,
)

pub bit-cost-negative : {v : ℕ} → 128 ≤ v → (bit_cost v 0 ≡ 256 - v) × (bit_cost v 1 ≡ 0)
unfolding bit_cost
bit-cost-negative {v} h = (
  ap (λ b. cond b (magnitude v) 0) (contradicts-negative h 0) ∙ magnitude-negative h,
  ap (λ b. cond b (magnitude v) 0) (contradicts-negative h 1),
)

-- the same as products with the bit; zero is among the first
pub bit-cost-low : {v t : ℕ} → v < 128 → t < 2 → t * v ≡ bit_cost v t
bit-cost-low {v} {t} h two = go (ℕ_discrete v 0) (ℕ_discrete t 0)
  where
    go : Dec (v ≡ 0) → Dec (t ≡ 0) → t * v ≡ bit_cost v t
    go (yes z) e = ap (λ x. t * x) z ∙ mul-zero t ∙ sym (ap (λ x. bit_cost x t) z ∙ bit-cost-zero t)
    go (no z) (yes e) =
        let p : 0 < v = omega arith in
        subst (λ x. x * v ≡ bit_cost v x) (sym e) (omega (arith, (bit-cost-positive p h).0))
    go (no z) (no e) =
        let p : 0 < v = omega arith in
        let one : 1 ≡ t = omega arith in
        subst (λ x. x * v ≡ bit_cost v x) one (omega (arith, (bit-cost-positive p h).1))

pub bit-cost-high : {v t : ℕ} → 128 ≤ v → t < 2 → (1 - t) * (256 - v) ≡ bit_cost v t
bit-cost-high {v} {t} h two = go (ℕ_discrete t 0)
  where
    go : Dec (t ≡ 0) → (1 - t) * (256 - v) ≡ bit_cost v t
    go (yes e) = subst (λ x. (1 - x) * (256 - v) ≡ bit_cost v x) (sym e) (omega (arith, (bit-cost-negative h).0))
    go (no e) =
        let one : 1 ≡ t = omega arith in
        subst (λ x. (1 - x) * (256 - v) ≡ bit_cost v x) one (omega (arith, (bit-cost-negative h).1))

pub bit-cost-most : (v t : ℕ) {r : ℕ} → r ≡ bit_cost v t → r ≤ 128
unfolding bit_cost
bit-cost-most v t e = subst (λ x. x ≤ 128) (sym e) (go (contradicts v t))
  where
    go : (b : Bool) → cond b (magnitude v) 0 ≤ 128
    go true = magnitude-most v
    go false = omega arith

-- ---- the bits of a symbol

-- what bit number i counts for
abbrev weighed : ℕ → ℕ → ℕ → ℕ
weighed b s i = bit_of b s i * 2 ^ (b - 1 - i)

-- one bit more: the bits but the last are those of half the symbol
weighed-half : (b s i : ℕ) → i < b → weighed (suc b) s i ≡ weighed b (s / 2) i + weighed b (s / 2) i
unfolding bit_of
weighed-half b s i h =
    let k : ℕ = b - 1 - i in
    let e : suc b - 1 - i ≡ suc k = omega arith in
    ap (λ n. s / 2 ^ n % 2 * 2 ^ n) e ∙ ap₂ (λ x y. x % 2 * y) (ap (λ x. s / x) (pow-succ' 2 k) ∙ sym (div-div-eq-div-mul s 2 (2 ^ k))) (pow-suc 2 k)
    ∙ omega arith

last_bit : (b s : ℕ) → weighed (suc b) s b ≡ s % 2
unfolding bit_of
last_bit b s =
    let e : suc b - 1 - b ≡ 0 = omega arith in
    ap (λ n. s / 2 ^ n % 2 * 2 ^ n) e ∙ omega arith

pub symbol-bits : (b s : ℕ) → s < 2 ^ b → sum_of b (λ i. bit_of b s i * 2 ^ (b - 1 - i)) ≡ s
symbol-bits zero s h = sum_of-nil (weighed 0 s) ∙ omega arith
symbol-bits (suc b) s h =
    let half : s / 2 < 2 ^ b = omega (arith, pow-suc 2 b) in
    let ih : sum_of b (weighed b (s / 2)) ≡ s / 2 = symbol-bits b (s / 2) half in
    let front : sum_of b (weighed (suc b) s) ≡ sum_of b (weighed b (s / 2)) + sum_of b (weighed b (s / 2)) =
    sum_of-ext b (weighed (suc b) s) (λ i. weighed b (s / 2) i + weighed b (s / 2) i) (λ i l. weighed-half b s i l)
    ∙ sum_of-plus b (weighed b (s / 2)) (weighed b (s / 2)) in
    sum_of-suc b (weighed (suc b) s) ∙ omega (arith, last_bit b s)

bit-none : (b j : ℕ) → bit_of b 0 j ≡ 0
unfolding bit_of
bit-none b j = ap (λ x. x % 2) (zero-div (2 ^ (b - 1 - j)))

-- of a power of two one bit is set
power-same : (m : ℕ) → 2 ^ m / 2 ^ m % 2 ≡ 1
power-same m = ap (λ x. x % 2) (div_self (pow_pos m))

power-other : (m n : ℕ) → m ≢ n → 2 ^ m / 2 ^ n % 2 ≡ 0
power-other m n d = go (dec_lt m n)
  where
    go : Dec (m < n) → 2 ^ m / 2 ^ n % 2 ≡ 0
    go (yes l) = ap (λ x. x % 2) (div-eq_of_lt (pow-lt l))
    go (no l) =
        let e : m ≡ suc (m - n - 1) + n = omega arith in
        ap (λ k. 2 ^ k / 2 ^ n % 2) e ∙ ap (λ x. x / 2 ^ n % 2) (pow-add 2 (suc (m - n - 1)) n)
        ∙ ap (λ x. x % 2) (mul-div_cancel (2 ^ suc (m - n - 1)) (pow_pos n) ∙ pow-suc 2 (m - n - 1)) ∙ mul-mod_left (2 ^ (m - n - 1)) 2

module _ (b i : ℕ) (inside : i < b) where
  -- the symbol in which only bit number i is set
  abbrev only : ℕ
  only = 2 ^ (b - 1 - i)

  only-lt : only < 2 ^ b
  only-lt = pow-lt (omega arith)

  only_same : bit_of b only i ≡ 1
  unfolding bit_of
  only_same = power-same (b - 1 - i)

  only-other : (j : ℕ) → j < b → j ≢ i → bit_of b only j ≡ 0
  unfolding bit_of
  only-other j h d = power-other (b - 1 - i) (b - 1 - j) (λ e. d (omega arith))

-- ---- a column

module _ (b : ℕ) (values : List ℕ) where
  pub bit-column-length : length (bit_column b values) ≡ 2 ^ b
  unfolding bit_column
  bit-column-length = listed-length (2 ^ b) (symbol_cost b values)

  pub cost-bits : (s : ℕ) → s < 2 ^ b → cost_of (bit_column b values) s ≡ sum_of b (added_by b values s)
  unfolding bit_column symbol_cost
  cost-bits s h = listed_at (2 ^ b) s (symbol_cost b values) 0 h

  symbol-cost-most : (s : ℕ) → symbol_cost b values s ≤ b * 128
  unfolding symbol_cost
  symbol-cost-most s = sum_of-bound b 128 (added_by b values s) (λ i l. bit-cost-most (get_or values i 0) (bit_of b s i) refl)

  pub bit-column-most : (s : ℕ) → cost_of (bit_column b values) s ≤ b * 128
  unfolding bit_column
  bit-column-most s = go (dec_lt s (2 ^ b))
    where
      go : Dec (s < 2 ^ b) → get_or (listed (2 ^ b) (symbol_cost b values)) s 0 ≤ b * 128
      go (yes l) = omega (arith, listed_at (2 ^ b) s (symbol_cost b values) 0 l, symbol-cost-most s)
      go (no l) =
          omega (
            arith,
            get_or-eq_default (listed (2 ^ b) (symbol_cost b values)) 0 {n = s}
                (omega (arith, listed-length (2 ^ b) (symbol_cost b values))),
          )

  symbol-zero : ((i : ℕ) → i < b → get_or values i 0 ≡ 0) → (s : ℕ) → symbol_cost b values s ≡ 0
  unfolding symbol_cost
  symbol-zero z s = omega (arith, sum_of-bound b 0 (added_by b values s) (λ i l. omega (arith, nothing i l)))
    where
      nothing : (i : ℕ) → i < b → added_by b values s i ≡ 0
      nothing i l = ap (λ v. bit_cost v (bit_of b s i)) (z i l) ∙ bit-cost-zero (bit_of b s i)

  module _ (bytes : (i : ℕ) → i < b → get_or values i 0 < 256) where
    -- a value that is not zero: the symbol without a bit set costs more or less than the one in which its bit alone is set
    different : (i : ℕ) → (inside : i < b) → get_or values i 0 ≢ 0 → symbol_cost b values 0 ≢ symbol_cost b values (only b i inside)
    unfolding symbol_cost
    different i inside d same = go (dec_lt (get_or values i 0) 128)
      where
        v : ℕ
        v = get_or values i 0

        none-set : ℕ → ℕ
        none-set = added_by b values 0

        one_set : ℕ → ℕ
        one_set = added_by b values (only b i inside)

        at_none : none-set i ≡ bit_cost v 0
        at_none = ap (bit_cost v) (bit-none b i)

        at_one : one_set i ≡ bit_cost v 1
        at_one = ap (bit_cost v) (only_same b i inside)

        others : (j : ℕ) → j < b → j ≢ i → none-set j ≡ one_set j
        others j l e = ap (bit_cost (get_or values j 0)) (bit-none b j ∙ sym (only-other b i inside j l e))

        less : (f g : ℕ → ℕ) → ((j : ℕ) → j < b → j ≢ i → f j ≡ g j) → f i < g i → sum_of b f < sum_of b g
        less f g o s = sum_of-strict b i f g (λ j l. le j l (ℕ_discrete j i)) inside s
          where
            le : (j : ℕ) → j < b → Dec (j ≡ i) → f j ≤ g j
            le j l (yes e) = subst (λ k. f k ≤ g k) (sym e) (omega arith)
            le j l (no e) = omega (arith, o j l e)

        go : Dec (v < 128) → ⊥
        go (yes h) =
            let p : 0 < v = omega arith in
            let c = bit-cost-positive p h in
            omega (arith, same, less none-set one_set others (omega (arith, at_none, at_one, c.0, c.1)))
        go (no h) =
            let n : 128 ≤ v = omega arith in
            let c = bit-cost-negative n in
            omega (
              arith,
              same,
              less one_set none-set (λ j l e. sym (others j l e)) (omega (arith, at_none, at_one, c.0, c.1, bytes i inside)),
            )

    pub blank-bits : (is_blank (bit_column b values) ≡ true) ↔ ((i : ℕ) → i < b → get_or values i 0 ≡ 0)
    unfolding bit_column
    blank-bits = (zeros, blank)
      where
        cost : (s : ℕ) → s < 2 ^ b → cost_of (listed (2 ^ b) (symbol_cost b values)) s ≡ symbol_cost b values s
        cost s l = listed_at (2 ^ b) s (symbol_cost b values) 0 l

        long : length (listed (2 ^ b) (symbol_cost b values)) ≡ 2 ^ b
        long = listed-length (2 ^ b) (symbol_cost b values)

        zeros : is_blank (listed (2 ^ b) (symbol_cost b values)) ≡ true → (i : ℕ) → i < b → get_or values i 0 ≡ 0
        zeros e i l = go (ℕ_discrete (get_or values i 0) 0)
          where
            go : Dec (get_or values i 0 ≡ 0) → get_or values i 0 ≡ 0
            go (yes z) = z
            go (no d) =
                let s : ℕ = only b i l in
                let h : s < 2 ^ b = only-lt b i l in
                absurd
                (different i l d
                (sym (cost 0 (pow_pos b))
                ∙ (blank-same (listed (2 ^ b) (symbol_cost b values))).0 e 0 s (omega (arith, pow_pos b, long)) (omega (arith, long)) ∙ cost s h))

        blank : ((i : ℕ) → i < b → get_or values i 0 ≡ 0) → is_blank (listed (2 ^ b) (symbol_cost b values)) ≡ true
        blank z =
            (blank-same (listed (2 ^ b) (symbol_cost b values))).1
            (λ s t ls lt. cost s (omega (arith, long)) ∙ symbol-zero z s ∙ sym (cost t (omega (arith, long)) ∙ symbol-zero z t))

pub bit-cost-512 : (values : List ℕ) (s : ℕ) → cost_of (bit_column bits values) s ≤ 512
bit-cost-512 values s = bit-column-most bits values s

-- ---- a frame

module _ (b : ℕ) (frame : List ℕ) where
  pub values-at : (p i : ℕ) → i < b → get_or (values_at b frame p) i 0 ≡ get_or frame (b * p + i) 0
  unfolding values_at
  values-at p i h = listed_at b i (λ j. get_or frame (b * p + j) 0) 0 h

  pub bit-costs-suc : (n : ℕ) → bit_costs b (suc n) frame ≡ bit_costs b n frame ++ bit_columns b frame n
  unfolding bit_costs
  bit-costs-suc n = refl

  pub bit-costs-length : (n : ℕ) → length (bit_costs b n frame) ≡ n * 2 ^ b
  unfolding bit_costs bit_columns
  bit-costs-length zero = omega arith
  bit-costs-length (suc n) =
      length-append (bit_costs b n frame) (bit_column b (values_at b frame n))
      ∙ ap₂ (λ x y. x + y) (bit-costs-length n) (bit-column-length b (values_at b frame n)) ∙ sym (suc-mul n (2 ^ b))

  bit-costs-most : (n i : ℕ) → get_or (bit_costs b n frame) i 0 ≤ b * 128
  unfolding bit_costs bit_columns
  bit-costs-most zero i = omega arith
  bit-costs-most (suc n) i = go (dec_lt i (length (bit_costs b n frame))) (bit-costs-most n i)
    where
      go : Dec (i < length (bit_costs b n frame)) → get_or (bit_costs b n frame) i 0 ≤ b * 128
          → get_or (bit_costs b n frame ++ bit_column b (values_at b frame n)) i 0 ≤ b * 128
      go (yes l) ih = omega (arith, get_or-append (bit_costs b n frame) (bit_column b (values_at b frame n)) 0 i l)
      go (no l) ih =
          let s : ℕ = i - length (bit_costs b n frame) in
          let e : length (bit_costs b n frame) + s ≡ i = omega arith in
          let f : get_or (bit_costs b n frame ++ bit_column b (values_at b frame n)) i 0 ≡ cost_of (bit_column b (values_at b frame n)) s =
          ap (λ k. get_or (bit_costs b n frame ++ bit_column b (values_at b frame n)) k 0) (sym e)
          ∙ get_or-append-add (bit_costs b n frame) (bit_column b (values_at b frame n)) s 0 in
          omega (arith, bit-column-most b (values_at b frame n) s)

  bit-costs-at : (n p s : ℕ) → p < n → s < 2 ^ b → get_or (bit_costs b n frame) (p * 2 ^ b + s) 0 ≡ cost_of (bit_columns b frame p) s
  unfolding bit_costs
  bit-costs-at zero p s l h = absurd (omega arith)
  bit-costs-at (suc n) p s l h = ⊎_elim last (λ k. earlier k (bit-costs-at n p s k h)) (eq-or-lt_of_le (le_of_suc-le-suc l))
    where
      before : List ℕ
      before = bit_costs b n frame

      last : p ≡ n → get_or (before ++ bit_columns b frame n) (p * 2 ^ b + s) 0 ≡ cost_of (bit_columns b frame p) s
      last e =
          ap (λ k. get_or (before ++ bit_columns b frame n) (k * 2 ^ b + s) 0) e
          ∙ ap (λ k. get_or (before ++ bit_columns b frame n) (k + s) 0) (sym (bit-costs-length n))
          ∙ get_or-append-add before (bit_columns b frame n) s 0 ∙ ap (λ k. cost_of (bit_columns b frame k) s) (sym e)

      earlier : p < n → get_or before (p * 2 ^ b + s) 0 ≡ cost_of (bit_columns b frame p) s
          → get_or (before ++ bit_columns b frame n) (p * 2 ^ b + s) 0 ≡ cost_of (bit_columns b frame p) s
      earlier k ih =
          let m : suc p * 2 ^ b ≤ n * 2 ^ b = mul-le-mul_right (2 ^ b) k in
          get_or-append before (bit_columns b frame n) 0 (p * 2 ^ b + s)
          (omega (arith, bit-costs-length n, suc-mul p (2 ^ b)))
          ∙ ih

  columns-there : (n p : ℕ) → p < n → column_of (2 ^ b) (bit_costs b n frame) p ≡ bit_columns b frame p
  unfolding column_of bit_columns bit_column
  columns-there n p l =
      listed-ext (2 ^ b) (cost_at (2 ^ b) (bit_costs b n frame) p) (symbol_cost b (values_at b frame p))
      (λ s h. bit-costs-at n p s l h ∙ listed_at (2 ^ b) s (symbol_cost b (values_at b frame p)) 0 h)

  -- behind the frame and behind the costs there are zeros
  columns-behind : (n p : ℕ) → length frame ≤ b * n → n ≤ p → column_of (2 ^ b) (bit_costs b n frame) p ≡ bit_columns b frame p
  unfolding column_of bit_columns bit_column
  columns-behind n p short l =
      listed-ext (2 ^ b) (cost_at (2 ^ b) (bit_costs b n frame) p) (symbol_cost b (values_at b frame p))
      (λ s h. no-cost s ∙ sym (symbol-zero b (values_at b frame p) no_value s))
    where
      no-cost : (s : ℕ) → get_or (bit_costs b n frame) (p * 2 ^ b + s) 0 ≡ 0
      no-cost s =
          let m : n * 2 ^ b ≤ p * 2 ^ b = mul-le-mul_right (2 ^ b) l in
          get_or-eq_default (bit_costs b n frame) 0 {n = p * 2 ^ b + s} (omega (arith, bit-costs-length n))

      no_value : (i : ℕ) → i < b → get_or (values_at b frame p) i 0 ≡ 0
      no_value i r =
          let k : b * n ≤ b * p = mul-le-mul_left b l in
          values-at p i r ∙ get_or-eq_default frame 0 {n = b * p + i} (omega arith)

  pub columns-bits : (n : ℕ) → length frame ≤ b * n → column_of (2 ^ b) (bit_costs b n frame) ≡ bit_columns b frame
  columns-bits n short = fun_ext (λ p. go p (dec_lt p n))
    where
      go : (p : ℕ) → Dec (p < n) → column_of (2 ^ b) (bit_costs b n frame) p ≡ bit_columns b frame p
      go p (yes l) = columns-there n p l
      go p (no l) = columns-behind n p short (omega arith)

  pub bit-table-length : (n : ℕ) → length (bit_table b n frame) ≡ n * 2 ^ b * 2
  unfolding bit_table
  bit-table-length n = omega (arith, cost-bytes-length (bit_costs b n frame), bit-costs-length n)

  pub bit-table-bytes : (n : ℕ) → b * 128 ≤ ceiling → below 256 (bit_table b n frame) ≡ true
  unfolding bit_table
  bit-table-bytes n h = cost-bytes-below (bit_costs b n frame) (λ i. omega (arith, bit-costs-most n i))

  pub costs-bits : (n : ℕ) → costs_from (n * 2 ^ b) (bit_table b n frame) ≡ bit_costs b n frame
  unfolding bit_table
  costs-bits n =
      ap (λ k. costs_from k (cost_bytes (bit_costs b n frame))) (sym (bit-costs-length n)) ∙ costs-written (bit_costs b n frame)

  pub bit-columns : (n p : ℕ) → p < n → column_of (2 ^ b) (costs_from (n * 2 ^ b) (bit_table b n frame)) p ≡ bit_column b (values_at b frame p)
  unfolding bit_columns
  bit-columns n p l = ap (λ (costs : List ℕ). column_of (2 ^ b) costs p) (costs-bits n) ∙ columns-there n p l
