-- The bits of a number, and the number with given bits.
--
--   bit_at a p                bit p of a, 0 or 1 (bit_at_lt)
--   bit_at-xor, bit_at-and     sums and products of bits
--   bit_at-zero, bit_at-above  0 has no bit, and a number below 2 ^ p none at p
--   bit_at-suc, bit_at-down    bits of a number divided by two, and by any power of it: they move down
--   bit_at-up, bit_at-under    of a multiple: they move up, and none is left below
--   bit_at-kept               of a remainder by a power of two: those below the power
--   bit_at-ones, bit_at-spread 2 ^ n − 1 has every bit below n, and its multiple by a bit has that bit there
--   from_bits n f             the number with the bits f 0, …, f (n − 1), lowest first
--   from_bits-lt, from_bits-ext, from_bits-xor   below 2 ^ n; equal bits; sums of bits
--   from_bits-append          of m + n bits: the last n stand above the first m
--   bit_at-from_bits           its bits are f's
--   bits_from n i f           the number with the bits f i, …, f (n − 1): one step down doubles it and adds a bit
--   from_bits-bit_at           the number with the bits of a is a, below 2 ^ n
use Rattle.std.specs.Prelude.{◌≡◌}
use Rattle.std.proofs.Math.Path.{refl, ap, ap₂}
use Rattle.std.proofs.Common.{sym, ◌∙◌, zero-mul, one-mul, pow-suc, one-add, add-one, pow_pos, shr-shr}
use Prim.Native.Nat.{ℕ, zero, suc, ◌+◌, ◌-◌, ◌*◌, ◌/◌, ◌%◌, ◌^◌, ◌<◌}
use Rattle.std.proofs.Math.Nat.{mod-one, div-eq_of_lt}
use native.Mathlib.Omega.{arith}
use Rattle.std.specs.Int.Bits.{bit_and, bit_xor, and_mod, xor_mod, shifted_half, shifted_even}
use Rattle.std.proofs.lemmas.Nat.{and_shr, xor_shr, xor_block, shl-shr, mod-pow-add}
use Rattle.std.proofs.Math.Pow.{mod-mod-pow, field}

unfoldable pub bit_at : ℕ → ℕ → ℕ
bit_at a p = a / 2 ^ p % 2

module _ (a p : ℕ) where
  pub bit_at-at : bit_at a p ≡ a / 2 ^ p % 2
  unfolding bit_at
  bit_at-at = refl

  pub bit_at_lt : bit_at a p < 2
  unfolding bit_at
  bit_at_lt = omega arith

  pub bit_at-xor : (b : ℕ) → bit_at (bit_xor a b) p ≡ bit_xor (bit_at a p) (bit_at b p)
  unfolding bit_at
  bit_at-xor b = ap (λ (x : ℕ). x % 2) (xor_shr a b p) ∙ xor_mod (a / 2 ^ p) (b / 2 ^ p) 1

  pub bit_at-and : (b : ℕ) → bit_at (bit_and a b) p ≡ bit_and (bit_at a p) (bit_at b p)
  unfolding bit_at
  bit_at-and b = ap (λ (x : ℕ). x % 2) (and_shr a b p) ∙ and_mod (a / 2 ^ p) (b / 2 ^ p) 1

  pub bit_at-above : a < 2 ^ p → bit_at a p ≡ 0
  unfolding bit_at
  bit_at-above h = ap (λ (x : ℕ). x % 2) (div-eq_of_lt h)

  pub bit_at-down : (k : ℕ) → bit_at (a / 2 ^ k) p ≡ bit_at a (k + p)
  unfolding bit_at
  bit_at-down k = ap (λ (x : ℕ). x % 2) (shr-shr a k p)

  pub bit_at-suc : bit_at a (suc p) ≡ bit_at (a / 2) p
  bit_at-suc = ap (bit_at a) (sym (one-add p)) ∙ sym (bit_at-down 1)

pub bit_at-zero : (p : ℕ) → bit_at 0 p ≡ 0
bit_at-zero p = bit_at-above 0 p (pow_pos p)

pub bit_at-first : (a : ℕ) → bit_at a 0 ≡ a % 2
unfolding bit_at
bit_at-first a = omega arith

pub bit_at-up : (a p k : ℕ) → bit_at (a * 2 ^ k) (k + p) ≡ bit_at a p
bit_at-up a p k = sym (bit_at-down (a * 2 ^ k) p k) ∙ ap (λ (x : ℕ). bit_at x p) (shl-shr a k)

pub bit_at-under : (a p k : ℕ) → p < k → bit_at (a * 2 ^ k) p ≡ 0
unfolding bit_at
bit_at-under a p zero h = absurd (omega arith)
bit_at-under a zero (suc k) h = let e : a * 2 ^ suc k % 2 ≡ 0 = shifted_even a k in omega arith
bit_at-under a (suc p) (suc k) h =
    bit_at-suc (a * 2 ^ suc k) p ∙ ap (λ (x : ℕ). bit_at x p) (shifted_half a k) ∙ bit_at-under a p k (omega arith)

pub bit_at-kept : (a p n : ℕ) → p < n → bit_at (a % 2 ^ n) p ≡ bit_at a p
unfolding bit_at
bit_at-kept a p n h =
    let e : (n - suc p) + 1 + p ≡ n = omega arith in
    ap (λ (k : ℕ). a % 2 ^ k / 2 ^ p % 2) (sym e) ∙ ap (λ (x : ℕ). x % 2) (field a ((n - suc p) + 1) p) ∙ mod-mod-pow (a / 2 ^ p) (n - suc p) 1

-- all bits below n
pub bit_at-ones : (n p : ℕ) → p < n → bit_at (2 ^ n - 1) p ≡ 1
bit_at-ones zero p h = absurd (omega arith)
bit_at-ones (suc n) zero h = bit_at-first (2 ^ suc n - 1) ∙ omega (arith, pow-suc 2 n, pow_pos n)
bit_at-ones (suc n) (suc p) h =
    let e : (2 ^ suc n - 1) / 2 ≡ 2 ^ n - 1 = omega (arith, pow-suc 2 n, pow_pos n) in
    bit_at-suc (2 ^ suc n - 1) p ∙ ap (λ (x : ℕ). bit_at x p) e ∙ bit_at-ones n p (omega arith)

-- one bit at all places below n
pub bit_at-spread : (x n p : ℕ) → x < 2 → p < n → bit_at (x * (2 ^ n - 1)) p ≡ x
bit_at-spread zero n p h l = ap (λ (m : ℕ). bit_at m p) (zero-mul (2 ^ n - 1)) ∙ bit_at-zero p
bit_at-spread (suc zero) n p h l = ap (λ (m : ℕ). bit_at m p) (one-mul (2 ^ n - 1)) ∙ bit_at-ones n p l
bit_at-spread (suc (suc x)) n p h l = absurd (omega arith)

-- ---- numbers by their bits
unfoldable pub from_bits : ℕ → (ℕ → ℕ) → ℕ
from_bits zero f = 0
from_bits (suc n) f = from_bits n (λ k. f (suc k)) * 2 + f 0

pub from_bits-nil : (f : ℕ → ℕ) → from_bits 0 f ≡ 0
unfolding from_bits
from_bits-nil f = refl

pub from_bits-suc : (n : ℕ) (f : ℕ → ℕ) → from_bits (suc n) f ≡ from_bits n (λ k. f (suc k)) * 2 + f 0
unfolding from_bits
from_bits-suc n f = refl

pub from_bits-ext : (n : ℕ) (f g : ℕ → ℕ) → ((k : ℕ) → k < n → f k ≡ g k) → from_bits n f ≡ from_bits n g
unfolding from_bits
from_bits-ext zero f g h = refl
from_bits-ext (suc n) f g h = ap₂ (λ (x y : ℕ). x * 2 + y) (from_bits-ext n _ _ (λ k l. h (suc k) (omega arith))) (h 0 (omega arith))

pub from_bits-lt : (n : ℕ) (f : ℕ → ℕ) → ((k : ℕ) → f k < 2) → from_bits n f < 2 ^ n
from_bits-lt zero f b = rw from_bits-nil (pow_pos 0)
from_bits-lt (suc n) f b = rw from_bits-suc (omega (arith, pow-suc 2 n, b 0, from_bits-lt n (λ k. f (suc k)) (λ k. b (suc k))))

pub from_bits-xor : (n : ℕ) (f g : ℕ → ℕ) → ((k : ℕ) → f k < 2) → ((k : ℕ) → g k < 2)
    → from_bits n (λ k. bit_xor (f k) (g k)) ≡ bit_xor (from_bits n f) (from_bits n g)
unfolding from_bits
from_bits-xor zero f g b c = refl
from_bits-xor (suc n) f g b c =
    ap (λ (x : ℕ). x * 2 + bit_xor (f 0) (g 0)) (from_bits-xor n _ _ (λ k. b (suc k)) (λ k. c (suc k)))
    ∙ sym (xor_block 1 (from_bits n (λ k. f (suc k))) (from_bits n (λ k. g (suc k))) (f 0) (g 0) (b 0) (c 0))

pub from_bits-append : (m n : ℕ) (f : ℕ → ℕ) → from_bits (m + n) f ≡ from_bits m f + from_bits n (λ k. f (m + k)) * 2 ^ m
from_bits-append zero n f =
    let z : 0 + n ≡ n = omega arith in
    ap (λ (k : ℕ). from_bits k f) z ∙ from_bits-ext n _ _ (λ k l. let s : k ≡ 0 + k = omega arith in ap f s)
    ∙ omega (arith, from_bits-nil f)
from_bits-append (suc m) n f =
    let e : suc m + n ≡ suc (m + n) = omega arith in
    let above : from_bits n (λ k. f (suc (m + k))) ≡ from_bits n (λ k. f (suc m + k)) =
    from_bits-ext n _ _ (λ k l. let s : suc (m + k) ≡ suc m + k = omega arith in ap f s) in
    ap (λ (k : ℕ). from_bits k f) e ∙ from_bits-suc (m + n) f
    ∙ ap (λ (x : ℕ). x * 2 + f 0) (from_bits-append m n (λ k. f (suc k)) ∙ ap (λ (x : ℕ). from_bits m (λ k. f (suc k)) + x * 2 ^ m) above)
    ∙ moved (from_bits m (λ k. f (suc k))) (from_bits n (λ k. f (suc m + k))) (f 0) (2 ^ m)
    ∙ ap₂ (λ (x y : ℕ). x + from_bits n (λ k. f (suc m + k)) * y) (sym (from_bits-suc m f)) (sym (pow-suc 2 m))
  where
    moved : (a b c t : ℕ) → (a + b * t) * 2 + c ≡ (a * 2 + c) + b * (t * 2)
    moved a b c t = omega arith

pub bit_at-from_bits : (n : ℕ) (f : ℕ → ℕ) → ((k : ℕ) → f k < 2) → (k : ℕ) → k < n → bit_at (from_bits n f) k ≡ f k
bit_at-from_bits zero f b k h = absurd (omega arith)
bit_at-from_bits (suc n) f b zero h = rw from_bits-suc (bit_at-first _ ∙ omega (arith, b 0))
bit_at-from_bits (suc n) f b (suc k) h =
    let e : (from_bits n (λ k. f (suc k)) * 2 + f 0) / 2 ≡ from_bits n (λ k. f (suc k)) = omega (arith, b 0) in
    rw from_bits-suc (bit_at-suc _ k ∙ ap (λ (x : ℕ). bit_at x k) e ∙ bit_at-from_bits n _ (λ k. b (suc k)) k (omega arith))

pub from_bits-bit_at : (n a : ℕ) → from_bits n (bit_at a) ≡ a % 2 ^ n
unfolding from_bits
from_bits-bit_at zero a = sym (mod-one a)
from_bits-bit_at (suc n) a =
    ap₂ (λ (x y : ℕ). x * 2 + y) (from_bits-ext n _ _ (λ k l. bit_at-suc a k) ∙ from_bits-bit_at n (a / 2)) (bit_at-first a)
    ∙ sym (mod-pow-add a n 1) ∙ ap (λ (k : ℕ). a % 2 ^ k) (add-one n)

-- ---- from the highest bit down
unfoldable pub bits_from : ℕ → ℕ → (ℕ → ℕ) → ℕ
bits_from n i f = from_bits (n - i) (λ k. f (i + k))

module _ (n : ℕ) (f : ℕ → ℕ) where
  pub bits_from-start : bits_from n n f ≡ 0
  unfolding bits_from
  bits_from-start = let e : n - n ≡ 0 = omega arith in ap (λ k. from_bits k (λ j. f (n + j))) e ∙ from_bits-nil _

  pub bits_from-turn : (i : ℕ) → i < n → bits_from n i f ≡ bits_from n (suc i) f * 2 + f i
  unfolding bits_from
  bits_from-turn i h =
      let e : n - i ≡ suc (n - suc i) = omega arith in
      let z : i + 0 ≡ i = omega arith in
      ap (λ k. from_bits k (λ j. f (i + j))) e ∙ from_bits-suc _ _
      ∙ ap₂ (λ (x y : ℕ). x * 2 + y) (from_bits-ext (n - suc i) _ _ (λ k l. let s : i + suc k ≡ suc i + k = omega arith in ap f s)) (ap f z)

  pub bits_from-end : bits_from n 0 f ≡ from_bits n f
  unfolding bits_from
  bits_from-end =
      let e : n - 0 ≡ n = omega arith in
      ap (λ k. from_bits k (λ j. f (0 + j))) e ∙ from_bits-ext n _ _ (λ k l. let s : 0 + k ≡ k = omega arith in ap f s)

  pub bits_from-lt : ((k : ℕ) → f k < 2) → (i : ℕ) → bits_from n i f < 2 ^ (n - i)
  unfolding bits_from
  bits_from-lt b i = from_bits-lt (n - i) _ (λ k. b (i + k))
