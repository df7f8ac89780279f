-- A field of 2 ^ bits numbers by its record, and the laws of every one: the numbers below 2 ^ bits are a field of characteristic 2, for
-- any bits and reduction whose cases are computed. The instance stays shut: proofs go by these laws.
--
--   Gf                  the field's record: the bits, the reduction, and the computed cases
--   size, GF, K         how many elements; the carrier, the numbers below the size; the field
--   times a b, inverse a, power a n    on numbers, taken below the size
--   to_f n               the element that stands for the number n, whatever n's size (to_f-mod)
--   value x             the number below the size that stands for the element x: value-lt, value-to_f, to_f-value
--   to_f-injective       below the size no two numbers stand for one element
--   to_f-add, to_f-times, to_f-inverse, to_f-zero, to_f-one, to_f-ne-zero   the operations on numbers are those of the field
--   value-add, value-times, value-zero, value-one    and back
--   times-lt, inverse-lt, xor_below    results below the size; times_mod, times-mod-right, inverse-mod: operands count below it only
--   power-nil, power-suc, power-mod    powers, one factor at a time
--   times_comm, times_assoc, times_zero, times_one, times-add, times-inverse   laws on numbers
--   to_f-power, to_f-xor_sum   powers and sums in the field; power_size: every element to the power of the size is itself
use Rattle.std.specs.Prelude.{◌≡◌, ◌≢◌}
use Rattle.std.proofs.Math.Path.{refl, sym}
use Rattle.std.proofs.Common.{ap, ◌∙◌, mod-lt, mod-eq_of_lt, pow_pos}
use Prim.Native.Nat.{ℕ, zero, suc, ◌-◌, ◌%◌, ◌^◌, ◌<◌, ◌≤◌, Fin}
use Rattle.std.proofs.Math.Nat.{mod-mod}
use Rattle.std.proofs.Math.Decide.{Fin-discrete}
use native.Mathlib.Omega.{arith}
use Rattle.std.specs.Int.Bits.{bit_xor, xor_zero_r, xor_self}
use Rattle.std.proofs.lemmas.Nat.{xor_comm, xor_mod, xor_lt}
use Rattle.lists.specs.Xor.{xor_assoc}
use Rattle.lists.specs.XorSum.{xor_sum, xor_sum-nil, xor_sum-suc}
use Rattle.algebra.specs.Field.{Field, mul-zero, one-mul, mul_comm}
use Rattle.algebra.specs.Sum.{sum, sum-nil, sum-suc}
use Rattle.algebra.specs.Power.{pow, pow-nil, pow-suc}
use Rattle.galois.specs.Binary as Binary

pub record Gf : Type 0 where
  pub bits : ℕ
  pub red : ℕ
  pub known : Binary.Cases bits red

module _ (𝓕 : Gf) where
  abbrev pub size : ℕ
  size = 2 ^ 𝓕.bits

  abbrev pub GF : Type 0
  GF = Fin (2 ^ 𝓕.bits)

  abbrev pub times : ℕ → ℕ → ℕ
  times a b = Binary.times 𝓕.bits 𝓕.red a b

  abbrev pub inverse : ℕ → ℕ
  inverse a = Binary.inverse 𝓕.bits 𝓕.red a

  abbrev pub power : ℕ → ℕ → ℕ
  power a n = Binary.power 𝓕.bits 𝓕.red a n

  -- ---- numbers and elements
  unfoldable pub to_f : ℕ → GF
  to_f n = (n % size, mod-lt n (pow_pos 𝓕.bits))

  unfoldable pub value : GF → ℕ
  value x = x.0

  pub value-lt : (x : GF) → value x < size
  unfolding value
  value-lt x = x.1

  pub value-to_f : (n : ℕ) → value (to_f n) ≡ n % size
  unfolding value to_f
  value-to_f n = refl

  pub to_f-value : (x : GF) → to_f (value x) ≡ x
  unfolding value to_f
  to_f-value x = native.Mathlib.Fin.val_path (mod-eq_of_lt x.1)

  pub to_f-mod : (n : ℕ) → to_f (n % size) ≡ to_f n
  unfolding to_f
  to_f-mod n = native.Mathlib.Fin.val_path (mod-mod n size)

  pub to_f-injective : (a b : ℕ) → a < size → b < size → to_f a ≡ to_f b → a ≡ b
  to_f-injective a b ha hb e = sym (value-to_f a ∙ mod-eq_of_lt ha) ∙ ap value e ∙ value-to_f b ∙ mod-eq_of_lt hb

  -- ---- on numbers
  pub times-lt : (a b : ℕ) → times a b < size
  times-lt a b = Binary.times-lt 𝓕.bits 𝓕.red 𝓕.known a b

  pub inverse-lt : (a : ℕ) → inverse a < size
  inverse-lt a = Binary.inverse-lt 𝓕.bits 𝓕.red 𝓕.known a

  pub inverse-mod : (a : ℕ) → inverse (a % size) ≡ inverse a
  inverse-mod a = Binary.inverse-mod 𝓕.bits 𝓕.red a

  pub times_mod : (a b : ℕ) → times (a % size) (b % size) ≡ times a b
  times_mod a b = Binary.times_mod 𝓕.bits 𝓕.red a b

  pub times-mod-right : (a b : ℕ) → times a (b % size) ≡ times a b
  times-mod-right a b = Binary.times-mod-right 𝓕.bits 𝓕.red a b

  pub xor_below : (a b : ℕ) → a < size → b < size → bit_xor a b < size
  xor_below a b ha hb = xor_lt 𝓕.bits a b ha hb

  pub one-lt : 1 < size
  one-lt = Binary.one-lt 𝓕.bits 𝓕.red 𝓕.known

  pub times_comm : (a b : ℕ) → times a b ≡ times b a
  times_comm a b = Binary.times_comm 𝓕.bits 𝓕.red 𝓕.known a b

  pub times_assoc : (a b c : ℕ) → times (times a b) c ≡ times a (times b c)
  times_assoc a b c = Binary.times_assoc 𝓕.bits 𝓕.red 𝓕.known a b c

  pub times_zero : (a : ℕ) → times a 0 ≡ 0
  times_zero a = Binary.times_zero 𝓕.bits 𝓕.red 𝓕.known a

  pub times_one : (a : ℕ) → a < size → times a 1 ≡ a
  times_one a h = Binary.times_one 𝓕.bits 𝓕.red 𝓕.known a ∙ mod-eq_of_lt h

  pub times-add : (a b c : ℕ) → times a (bit_xor b c) ≡ bit_xor (times a b) (times a c)
  times-add a b c = (Binary.times-sums-right 𝓕.bits 𝓕.red a).sums b c

  pub times-inverse : (a : ℕ) → a % size ≢ 0 → times a (inverse a) ≡ 1
  times-inverse a h = Binary.times-inverse 𝓕.bits 𝓕.red 𝓕.known a h

  pub power-nil : (a : ℕ) → power a 0 ≡ 1
  unfolding Binary.power
  power-nil a = refl

  pub power-suc : (a n : ℕ) → power a (suc n) ≡ times (power a n) a
  power-suc a n = Binary.power-suc 𝓕.bits 𝓕.red a n ∙ times_comm a (power a n)

  pub power-mod : (a n : ℕ) → power (a % size) n ≡ power a n
  power-mod a zero = power-nil (a % size) ∙ sym (power-nil a)
  power-mod a (suc n) =
      power-suc (a % size) n ∙ ap (λ x. times x (a % size)) (power-mod a n) ∙ times-mod-right (power a n) a ∙ sym (power-suc a n)

  -- ---- the field
  pub K : Field GF
  K =
      record {
        ◌⊕◌ = λ x y. (bit_xor x.0 y.0, xor_below x.0 y.0 x.1 y.1);
        ◌⊗◌ = λ x y. (times x.0 y.0, times-lt x.0 y.0);
        𝟘 = (0, pow_pos 𝓕.bits);
        𝟙 = (1, one-lt);
        inv = λ x. (inverse x.0, inverse-lt x.0);
        same = Fin-discrete size;
        plus_assoc = λ x y z. native.Mathlib.Fin.val_path (xor_assoc x.0 y.0 z.0);
        plus_comm = λ x y. native.Mathlib.Fin.val_path (xor_comm x.0 y.0);
        plus_zero = λ x. native.Mathlib.Fin.val_path (xor_zero_r x.0);
        plus_self = λ x. native.Mathlib.Fin.val_path (xor_self x.0);
        times_assoc = λ x y z. native.Mathlib.Fin.val_path (times_assoc x.0 y.0 z.0);
        times_comm = λ x y. native.Mathlib.Fin.val_path (times_comm x.0 y.0);
        times_one = λ x. native.Mathlib.Fin.val_path (times_one x.0 x.1);
        times_plus = λ x y z. native.Mathlib.Fin.val_path (times-add x.0 y.0 z.0);
        times_inv = λ x h. native.Mathlib.Fin.val_path (times-inverse x.0 (λ e. h (native.Mathlib.Fin.val_path (sym (mod-eq_of_lt x.1) ∙ e))));
        one_ne_zero = λ e. let z : ◌≡◌ {A = ℕ} 1 0 = λ i. (e i).0 in absurd (omega arith);
      }

  open K use {◌⊕◌, ◌⊗◌, 𝟘, 𝟙, inv}

  pub to_f-add : (a b : ℕ) → to_f (bit_xor a b) ≡ to_f a ⊕ to_f b
  unfolding to_f K
  to_f-add a b = native.Mathlib.Fin.val_path (xor_mod a b 𝓕.bits)

  pub to_f-times : (a b : ℕ) → to_f (times a b) ≡ to_f a ⊗ to_f b
  unfolding to_f K
  to_f-times a b = native.Mathlib.Fin.val_path (mod-eq_of_lt (times-lt a b) ∙ sym (times_mod a b))

  pub to_f-inverse : (a : ℕ) → to_f (inverse a) ≡ inv (to_f a)
  unfolding to_f K
  to_f-inverse a = native.Mathlib.Fin.val_path (mod-eq_of_lt (inverse-lt a) ∙ sym (inverse-mod a))

  pub to_f-zero : to_f 0 ≡ 𝟘
  unfolding to_f K
  to_f-zero = native.Mathlib.Fin.val_path (mod-eq_of_lt (pow_pos 𝓕.bits))

  pub to_f-one : to_f 1 ≡ 𝟙
  unfolding to_f K
  to_f-one = native.Mathlib.Fin.val_path (mod-eq_of_lt one-lt)

  pub to_f-ne-zero : (a : ℕ) → a % size ≢ 0 → to_f a ≢ 𝟘
  unfolding to_f K
  to_f-ne-zero a h e = h (λ i. (e i).0)

  pub value-add : (x y : GF) → value (x ⊕ y) ≡ bit_xor (value x) (value y)
  unfolding value K
  value-add x y = refl

  pub value-times : (x y : GF) → value (x ⊗ y) ≡ times (value x) (value y)
  unfolding value K
  value-times x y = refl

  pub value-zero : value 𝟘 ≡ 0
  unfolding value K
  value-zero = refl

  pub value-one : value 𝟙 ≡ 1
  unfolding value K
  value-one = refl

  -- ---- powers and sums
  pub to_f-power : (a n : ℕ) → to_f (power a n) ≡ pow K (to_f a) n
  to_f-power a zero = ap to_f (power-nil a) ∙ to_f-one ∙ sym (pow-nil K (to_f a))
  to_f-power a (suc n) =
      ap to_f (power-suc a n) ∙ to_f-times (power a n) a ∙ ap (λ x. x ⊗ to_f a) (to_f-power a n) ∙ sym (pow-suc K (to_f a) n)

  pub to_f-xor_sum : (n : ℕ) (f : ℕ → ℕ) → to_f (xor_sum n f) ≡ sum K n (λ k. to_f (f k))
  to_f-xor_sum zero f = ap to_f (xor_sum-nil f) ∙ to_f-zero ∙ sym (sum-nil K _)
  to_f-xor_sum (suc n) f = ap to_f (xor_sum-suc n f) ∙ to_f-add (xor_sum n f) (f n) ∙ ap (λ x. x ⊕ to_f (f n)) (to_f-xor_sum n f) ∙ sym (sum-suc K n _)

  -- the inverse is a power of one less than the others: with two bits or more, a ^ size = a
  pub power_size : 2 ≤ size → (x : GF) → pow K x size ≡ x
  unfolding Binary.inverse
  power_size two x = go (Fin-discrete size x 𝟘)
    where
      up : suc (suc (size - 2)) ≡ size
      up = omega arith

      inverse-power : inv x ≡ pow K x (size - 2)
      inverse-power =
          ap inv (sym (to_f-value x)) ∙ sym (to_f-inverse (value x)) ∙ to_f-power (value x % size) (size - 2)
          ∙ ap (λ y. pow K y (size - 2)) (to_f-mod (value x) ∙ to_f-value x)

      go : Dec (x ≡ 𝟘) → pow K x size ≡ x
      go (yes e) =
          ap (pow K x) (sym up) ∙ pow-suc K x (suc (size - 2)) ∙ ap (λ y. pow K x (suc (size - 2)) ⊗ y) e ∙ mul-zero K _ ∙ sym e
      go (no n) =
          ap (pow K x) (sym up) ∙ pow-suc K x (suc (size - 2))
          ∙ ap (λ y. y ⊗ x) (pow-suc K x (size - 2) ∙ ap (λ y. y ⊗ x) (sym inverse-power) ∙ mul_comm K (inv x) x ∙ Field.times_inv K x n)
          ∙ one-mul K x
