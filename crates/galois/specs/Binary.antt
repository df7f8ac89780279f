-- The field of 2 ^ bits elements on numbers, for any number of bits and any reduction: bits are coefficients, addition is
-- exclusive or, and α, which is 2, has α ^ bits = red.
--
--   xtime bits red v         v times α: twice v, and red for a bit that leaves the top
--   shift_add bits red n a b  a times the lowest n bits of b: a, a·α, a·α², … as the bits pick them
--   times bits red a b       the product of a and b, both taken below 2 ^ bits
--   power bits red a n       a multiplied by itself n times
--   inverse bits red a       a to the power 2 ^ bits − 2, which is the inverse of a; 0 for 0 from two bits on
--   Cases bits red           what has to be computed, on powers of α, for this to be a field
--   times-sums-left, times-sums-right   the product is additive in each factor
--   times_comm, times_assoc  so bits² and bits³ cases show these for all numbers
--   times_zero, times_one, times-inverse, times-lt, inverse-lt   units, inverses and bounds
--   times_mod, times-mod-left, times-mod-right, inverse-mod      factors count below 2 ^ bits only
--   power-add, power-cycle, power-lt    a sum of exponents; once a power is 1, exponents count by their remainder
use Rattle.std.specs.Prelude.{Bool, ◌≡◌, ◌≢◌, T, eqb}
use Rattle.std.proofs.Math.Path.{refl, sym, ap, ap₂}
use Rattle.std.proofs.Common.{◌∙◌, zero-add, suc-add, zero-mul, suc-mul, one-mul, div-lt_iff_lt-mul, div-add-mod', lt_of_le_of_lt}
use Prim.Native.Nat.{ℕ, zero, suc, pred, ◌+◌, ◌*◌, ◌-◌, ◌/◌, ◌%◌, ◌^◌, ◌<◌}
use Rattle.std.proofs.Math.Nat.{mod-lt, mod-mod, mod-eq_of_lt, suc-pred-eq_of_pos}
use native.Mathlib.Omega.{arith}
use Rattle.std.proofs.Math.Dec.{eqb→eq}
use Rattle.std.specs.Int.Bits.{bit_xor, xor_zero_r, xor_self, xor_mod, xor_lt}
use Rattle.std.proofs.lemmas.Nat.{xor_shr}
use Rattle.std.proofs.Math.Pow.{pow_pos, pow-lt}
use Rattle.lists.specs.Every.{every, every-at, every₂, every₂-at, every₃, every₃-at}
use Rattle.lists.specs.Xor.{xor-swap, xor-twice, bit-xor, mul-xor, mul-bit-le, Additive, additive-zero, additive-after, additive-ext}

module _ (bits red : ℕ) where
  unfoldable pub xtime : ℕ → ℕ
  xtime v = bit_xor (v * 2 % 2 ^ bits) (v * 2 / 2 ^ bits * red)

  unfoldable pub shift_add : ℕ → ℕ → ℕ → ℕ
  shift_add zero a b = 0
  shift_add (suc n) a b = bit_xor (b % 2 * a) (shift_add n (xtime a) (b / 2))

  unfoldable pub times : ℕ → ℕ → ℕ
  times a b = shift_add bits (a % 2 ^ bits) (b % 2 ^ bits)

  unfoldable pub power : ℕ → ℕ → ℕ
  power a zero = 1
  power a (suc n) = times a (power a n)

  unfoldable pub inverse : ℕ → ℕ
  inverse a = power (a % 2 ^ bits) (2 ^ bits - 2)

  -- the cases to be computed: bits² products of two powers of α, bits³ of three, and each number's inverse
  unfoldable pub commutes : ℕ → ℕ → Bool
  commutes i j = eqb (times (2 ^ i) (2 ^ j)) (times (2 ^ j) (2 ^ i))

  unfoldable pub associates : ℕ → ℕ → ℕ → Bool
  associates i j k = eqb (times (times (2 ^ i) (2 ^ j)) (2 ^ k)) (times (2 ^ i) (times (2 ^ j) (2 ^ k)))

  unfoldable pub inverts : ℕ → Bool
  inverts a = eqb (times (suc a) (inverse (suc a))) 1

  pub record Cases : Type 0 where
    pub positive : 0 < bits
    pub small : red < 2 ^ bits
    pub commuting : T (every₂ bits commutes)
    pub associating : T (every₃ bits associates)
    pub inverting : T (every (2 ^ bits - 1) inverts)

  -- ---- additive in the second factor: its bits add
  shift_add-sums-right : (n a b c : ℕ) → shift_add n a (bit_xor b c) ≡ bit_xor (shift_add n a b) (shift_add n a c)
  unfolding shift_add
  shift_add-sums-right zero a b c = refl
  shift_add-sums-right (suc n) a b c =
      ap₂ bit_xor
      (ap (λ (x : ℕ). x * a) (xor_mod b c 1) ∙ bit-xor (b % 2) (c % 2) a (omega arith) (omega arith))
      (ap (shift_add n (xtime a)) (xor_shr b c 1) ∙ shift_add-sums-right n (xtime a) (b / 2) (c / 2))
      ∙ xor-swap (b % 2 * a) (c % 2 * a) (shift_add n (xtime a) (b / 2)) (shift_add n (xtime a) (c / 2))

  pub times-sums-right : (a : ℕ) → Additive (times a)
  unfolding times
  times-sums-right a =
      record { sums = λ b c. ap (shift_add bits (a % 2 ^ bits)) (xor_mod b c bits) ∙ shift_add-sums-right bits (a % 2 ^ bits) (b % 2 ^ bits) (c % 2 ^ bits) }

  shift_add-one : (n a : ℕ) → shift_add (suc n) a 1 ≡ a
  unfolding shift_add
  shift_add-one n a =
      ap₂ bit_xor (one-mul a) (shift_add-sums-right n (xtime a) 0 0 ∙ xor_self (shift_add n (xtime a) 0)) ∙ xor_zero_r a

  -- only what the factors are below 2 ^ bits counts
  pub times-mod-left : (a b : ℕ) → times (a % 2 ^ bits) b ≡ times a b
  unfolding times
  times-mod-left a b = ap (λ (x : ℕ). shift_add bits x (b % 2 ^ bits)) (mod-mod a (2 ^ bits))

  pub times-mod-right : (a b : ℕ) → times a (b % 2 ^ bits) ≡ times a b
  unfolding times
  times-mod-right a b = ap (shift_add bits (a % 2 ^ bits)) (mod-mod b (2 ^ bits))

  pub times_mod : (a b : ℕ) → times (a % 2 ^ bits) (b % 2 ^ bits) ≡ times a b
  times_mod a b = times-mod-left a (b % 2 ^ bits) ∙ times-mod-right a b

  pub inverse-mod : (a : ℕ) → inverse (a % 2 ^ bits) ≡ inverse a
  unfolding inverse
  inverse-mod a = ap (λ (x : ℕ). power x (2 ^ bits - 2)) (mod-mod a (2 ^ bits))

  pub power-suc : (a n : ℕ) → power a (suc n) ≡ times a (power a n)
  unfolding power
  power-suc a n = refl

  module _ (known : Cases) where
    carry : (v : ℕ) → v < 2 ^ bits → v * 2 / 2 ^ bits < 2
    carry v h = (div-lt_iff_lt-mul (pow_pos bits)).1 (omega arith)

    bit-lt : (x a : ℕ) → x < 2 → a < 2 ^ bits → x * a < 2 ^ bits
    bit-lt x a h l = lt_of_le_of_lt (mul-bit-le x a h) l

    xtime-lt : (v : ℕ) → v < 2 ^ bits → xtime v < 2 ^ bits
    unfolding xtime
    xtime-lt v h =
        xor_lt bits (v * 2 % 2 ^ bits) (v * 2 / 2 ^ bits * red) (mod-lt (v * 2) (pow_pos bits))
        (bit-lt (v * 2 / 2 ^ bits) red (carry v h) known.small)

    xtime-sums : (a b : ℕ) → a < 2 ^ bits → b < 2 ^ bits → xtime (bit_xor a b) ≡ bit_xor (xtime a) (xtime b)
    unfolding xtime
    xtime-sums a b ha hb =
        ap₂ bit_xor
        (ap (λ (x : ℕ). x % 2 ^ bits) (xor-twice a b) ∙ xor_mod (a * 2) (b * 2) bits)
        (ap (λ (x : ℕ). x / 2 ^ bits * red) (xor-twice a b) ∙ ap (λ (x : ℕ). x * red) (xor_shr (a * 2) (b * 2) bits)
        ∙ bit-xor (a * 2 / 2 ^ bits) (b * 2 / 2 ^ bits) red (carry a ha) (carry b hb))
        ∙ xor-swap (a * 2 % 2 ^ bits) (b * 2 % 2 ^ bits) (a * 2 / 2 ^ bits * red) (b * 2 / 2 ^ bits * red)

    shift_add-lt : (n a b : ℕ) → a < 2 ^ bits → shift_add n a b < 2 ^ bits
    unfolding shift_add
    shift_add-lt zero a b h = pow_pos bits
    shift_add-lt (suc n) a b h =
        xor_lt bits (b % 2 * a) (shift_add n (xtime a) (b / 2)) (bit-lt (b % 2) a (omega arith) h) (shift_add-lt n (xtime a) (b / 2) (xtime-lt a h))

    pub times-lt : (a b : ℕ) → times a b < 2 ^ bits
    unfolding times
    times-lt a b = shift_add-lt bits (a % 2 ^ bits) (b % 2 ^ bits) (mod-lt a (pow_pos bits))

    -- ---- additive in the first factor: its shifts add
    shift_add-sums-left : (n a b c : ℕ) → a < 2 ^ bits → b < 2 ^ bits → shift_add n (bit_xor a b) c ≡ bit_xor (shift_add n a c) (shift_add n b c)
    unfolding shift_add
    shift_add-sums-left zero a b c ha hb = refl
    shift_add-sums-left (suc n) a b c ha hb =
        ap₂ bit_xor (mul-xor (c % 2) a b (omega arith))
        (ap (λ (x : ℕ). shift_add n x (c / 2)) (xtime-sums a b ha hb) ∙ shift_add-sums-left n (xtime a) (xtime b) (c / 2) (xtime-lt a ha) (xtime-lt b hb))
        ∙ xor-swap (c % 2 * a) (c % 2 * b) (shift_add n (xtime a) (c / 2)) (shift_add n (xtime b) (c / 2))

    pub times-sums-left : (c : ℕ) → Additive (λ a. times a c)
    unfolding times
    times-sums-left c =
        record {
          sums = λ a b. ap (λ (x : ℕ). shift_add bits x (c % 2 ^ bits)) (xor_mod a b bits)
              ∙ shift_add-sums-left bits (a % 2 ^ bits) (b % 2 ^ bits) (c % 2 ^ bits) (mod-lt a (pow_pos bits)) (mod-lt b (pow_pos bits));
        }

    -- ---- so the laws follow from the powers of α
    comm-below : (a b : ℕ) → a < 2 ^ bits → b < 2 ^ bits → times a b ≡ times b a
    unfolding commutes
    comm-below a b ha hb =
        additive-ext bits (times-sums-left b) (times-sums-right b)
        (λ i hi. additive-ext bits (times-sums-right (2 ^ i)) (times-sums-left (2 ^ i))
        (λ j hj. eqb→eq _ _ (every₂-at bits commutes known.commuting i j hi hj)) b hb)
        a ha

    pub times_comm : (a b : ℕ) → times a b ≡ times b a
    times_comm a b =
        sym (times_mod a b) ∙ comm-below (a % 2 ^ bits) (b % 2 ^ bits) (mod-lt a (pow_pos bits)) (mod-lt b (pow_pos bits)) ∙ times_mod b a

    assoc-below : (a b c : ℕ) → a < 2 ^ bits → b < 2 ^ bits → c < 2 ^ bits → times (times a b) c ≡ times a (times b c)
    unfolding associates
    assoc-below a b c ha hb hc =
        additive-ext bits (additive-after (times-sums-left c) (times-sums-left b)) (times-sums-left (times b c))
        (λ i hi. additive-ext bits (additive-after (times-sums-left c) (times-sums-right (2 ^ i))) (additive-after (times-sums-right (2 ^ i)) (times-sums-left c))
        (λ j hj. additive-ext bits (times-sums-right (times (2 ^ i) (2 ^ j))) (additive-after (times-sums-right (2 ^ i)) (times-sums-right (2 ^ j)))
        (λ k hk. eqb→eq _ _ (every₃-at bits associates known.associating i j k hi hj hk)) c hc)
        b hb)
        a ha

    pub times_assoc : (a b c : ℕ) → times (times a b) c ≡ times a (times b c)
    times_assoc a b c =
        sym (times-mod-right (times a b) c)
        ∙ ap (λ (x : ℕ). times x (c % 2 ^ bits)) (sym (times_mod a b))
        ∙ assoc-below (a % 2 ^ bits) (b % 2 ^ bits) (c % 2 ^ bits) (mod-lt a (pow_pos bits)) (mod-lt b (pow_pos bits)) (mod-lt c (pow_pos bits))
        ∙ times-mod-left a (times (b % 2 ^ bits) (c % 2 ^ bits))
        ∙ ap (times a) (times_mod b c)

    pub times_zero : (a : ℕ) → times a 0 ≡ 0
    times_zero a = additive-zero (times-sums-right a)

    pub one-lt : 1 < 2 ^ bits
    one-lt = pow-lt known.positive

    pub times_one : (a : ℕ) → times a 1 ≡ a % 2 ^ bits
    unfolding times
    times_one a =
        ap₂ (λ (n x : ℕ). shift_add n (a % 2 ^ bits) x) (sym (suc-pred-eq_of_pos known.positive)) (mod-eq_of_lt one-lt)
        ∙ shift_add-one (pred bits) (a % 2 ^ bits)

    pub times-inverse : (a : ℕ) → a % 2 ^ bits ≢ 0 → times a (inverse a) ≡ 1
    unfolding inverts
    times-inverse a h =
        let l : a % 2 ^ bits < 2 ^ bits = mod-lt a (pow_pos bits) in
        let e : suc (a % 2 ^ bits - 1) ≡ a % 2 ^ bits = omega arith in
        sym (ap₂ times e (ap inverse e) ∙ times-mod-left a (inverse (a % 2 ^ bits)) ∙ ap (times a) (inverse-mod a))
        ∙ eqb→eq _ _ (every-at (2 ^ bits - 1) inverts known.inverting (a % 2 ^ bits - 1) (omega arith))

    -- ---- powers
    pub power-lt : (a n : ℕ) → power a n < 2 ^ bits
    unfolding power
    power-lt a zero = one-lt
    power-lt a (suc n) = times-lt a (power a n)

    pub inverse-lt : (a : ℕ) → inverse a < 2 ^ bits
    unfolding inverse
    inverse-lt a = power-lt (a % 2 ^ bits) (2 ^ bits - 2)

    pub power-add : (a m n : ℕ) → power a (m + n) ≡ times (power a m) (power a n)
    unfolding power
    power-add a zero n =
        ap (power a) (zero-add n) ∙ sym (times_comm 1 (power a n) ∙ times_one (power a n) ∙ mod-eq_of_lt (power-lt a n))
    power-add a (suc m) n = ap (power a) (suc-add m n) ∙ ap (times a) (power-add a m n) ∙ sym (times_assoc a (power a m) (power a n))

    -- once a power is 1, the powers go round
    power-turns : (a m q : ℕ) → power a m ≡ 1 → power a (q * m) ≡ 1
    unfolding power
    power-turns a m zero h = ap (power a) (zero-mul m)
    power-turns a m (suc q) h =
        ap (power a) (suc-mul q m) ∙ power-add a (q * m) m ∙ ap₂ times (power-turns a m q h) h ∙ times_one 1 ∙ mod-eq_of_lt one-lt

    pub power-cycle : (a m n : ℕ) → power a m ≡ 1 → power a (n % m) ≡ power a n
    power-cycle a m n h =
        sym (ap (power a) (sym (div-add-mod' n m)) ∙ power-add a (n / m * m) (n % m) ∙ ap (λ (x : ℕ). times x (power a (n % m))) (power-turns a m (n / m) h)
        ∙ times_comm 1 (power a (n % m)) ∙ times_one (power a (n % m)) ∙ mod-eq_of_lt (power-lt a (n % m)))
