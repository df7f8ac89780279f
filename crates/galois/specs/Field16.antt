-- GF(16): the laws of every such field at this one, under the names that the crates at this member's sizes use.
--
--   GF, K16      the carrier, the numbers below 16, and the field
--   the others   as BinaryField has them; alpha-cycle: α ^ 15 = 1, so powers of α go round
use Rattle.std.specs.Prelude.{◌≡◌, ◌≢◌, ℕ, ◌%◌, ◌<◌}
use Rattle.std.specs.Int.Bits.{bit_xor}
use Rattle.algebra.specs.Field.{Field}
use Rattle.galois.specs.Binary as Binary
use Rattle.galois.specs.BinaryField as BinaryField
use Rattle.galois.specs.Gf16.{gf16, cases-16, times, alpha, inverse, alpha-15}

abbrev pub GF : Type 0
GF = BinaryField.GF gf16

abbrev pub K16 : Field GF
K16 = BinaryField.K gf16

abbrev pub to_f : ℕ → GF
to_f n = BinaryField.to_f gf16 n

abbrev pub value : GF → ℕ
value x = BinaryField.value gf16 x

open K16 use {◌⊕◌, ◌⊗◌, 𝟘, 𝟙, inv}

pub value-lt : (x : GF) → value x < 16
value-lt = BinaryField.value-lt gf16

pub value-to_f : (n : ℕ) → value (to_f n) ≡ n % 16
value-to_f = BinaryField.value-to_f gf16

pub to_f-value : (x : GF) → to_f (value x) ≡ x
to_f-value = BinaryField.to_f-value gf16

pub to_f-mod : (n : ℕ) → to_f (n % 16) ≡ to_f n
to_f-mod = BinaryField.to_f-mod gf16

pub to_f-injective : (a b : ℕ) → a < 16 → b < 16 → to_f a ≡ to_f b → a ≡ b
to_f-injective = BinaryField.to_f-injective gf16

pub to_f-add : (a b : ℕ) → to_f (bit_xor a b) ≡ to_f a ⊕ to_f b
to_f-add = BinaryField.to_f-add gf16

pub to_f-times : (a b : ℕ) → to_f (times a b) ≡ to_f a ⊗ to_f b
to_f-times = BinaryField.to_f-times gf16

pub to_f-inverse : (a : ℕ) → to_f (inverse a) ≡ inv (to_f a)
to_f-inverse = BinaryField.to_f-inverse gf16

pub to_f-zero : to_f 0 ≡ 𝟘
to_f-zero = BinaryField.to_f-zero gf16

pub to_f-one : to_f 1 ≡ 𝟙
to_f-one = BinaryField.to_f-one gf16

pub to_f-ne-zero : (a : ℕ) → a % 16 ≢ 0 → to_f a ≢ 𝟘
to_f-ne-zero = BinaryField.to_f-ne-zero gf16

pub value-zero : value 𝟘 ≡ 0
value-zero = BinaryField.value-zero gf16

pub value-one : value 𝟙 ≡ 1
value-one = BinaryField.value-one gf16

pub times-lt : (a b : ℕ) → times a b < 16
times-lt = BinaryField.times-lt gf16

pub inverse-mod : (a : ℕ) → inverse (a % 16) ≡ inverse a
inverse-mod = BinaryField.inverse-mod gf16

pub times_mod : (a b : ℕ) → times (a % 16) (b % 16) ≡ times a b
times_mod = BinaryField.times_mod gf16

pub xor_below : (a b : ℕ) → a < 16 → b < 16 → bit_xor a b < 16
xor_below = BinaryField.xor_below gf16

pub times_comm : (a b : ℕ) → times a b ≡ times b a
times_comm = BinaryField.times_comm gf16

pub times_zero : (a : ℕ) → times a 0 ≡ 0
times_zero = BinaryField.times_zero gf16

pub times_one : (a : ℕ) → a < 16 → times a 1 ≡ a
times_one = BinaryField.times_one gf16

pub alpha-cycle : (n : ℕ) → alpha (n % 15) ≡ alpha n
unfolding alpha
alpha-cycle n = Binary.power-cycle 4 3 cases-16 2 15 n alpha-15
