-- A product before its reduction, so that a sum of products is reduced once.
--
--   carryless a b        1, 2, 4 and 8 times a as the bits of b pick them, a and b below 16
--   reduced p            p below 16, by α ^ 4 = α + 1
--   reduced-sums         reducing takes sums to sums
--   reduced-carryless    the product, reduced, is the field's
use Rattle.std.specs.Prelude.{Bool, ◌≡◌, ℕ, ◌+◌, ◌*◌, ◌/◌, ◌%◌, eqb}
use Rattle.std.proofs.Common.{sym, ap, ap₂, ◌∙◌, mod-lt, arith, eqb→eq, lit<}
use Rattle.std.proofs.Math.Nat.{mod-mod}
use Rattle.std.specs.Int.Bits.{bit_xor}
use Rattle.std.proofs.lemmas.Nat.{xor_mod, xor_shr}
use Rattle.lists.specs.Every.{every, every₂, every₂-at}
use Rattle.lists.specs.Xor.{xor-swap, xor-twice, Additive}
use Rattle.galois.specs.Binary as Binary
use Rattle.galois.specs.Gf16.{times}
use Rattle.galois.specs.Field16.{times_mod}

unfoldable pub carryless : ℕ → ℕ → ℕ
carryless a b =
    bit_xor (bit_xor (bit_xor (b % 2 * (a % 16)) (b / 2 % 2 * (a % 16 * 2))) (b / 4 % 2 * (a % 16 * 4))) (b / 8 % 2 * (a % 16 * 8))

unfoldable pub reduced : ℕ → ℕ
reduced p = bit_xor (bit_xor (p % 16) (p / 16)) (p / 16 % 8 * 2)

pub reduced-sums : Additive reduced
unfolding reduced
reduced-sums =
    record {
      sums = λ p q. ap₂ bit_xor
          (ap₂ bit_xor (xor_mod p q 4) (xor_shr p q 4) ∙ xor-swap (p % 16) (q % 16) (p / 16) (q / 16))
          (ap (λ (x : ℕ). x % 8 * 2) (xor_shr p q 4) ∙ ap (λ (x : ℕ). x * 2) (xor_mod (p / 16) (q / 16) 3) ∙ xor-twice (p / 16 % 8) (q / 16 % 8))
          ∙ xor-swap (bit_xor (p % 16) (p / 16)) (bit_xor (q % 16) (q / 16)) (p / 16 % 8 * 2) (q / 16 % 8 * 2);
    }

-- 256 products, all of them computed
agrees : ℕ → ℕ → Bool
agrees a b = eqb (reduced (carryless a b)) (times a b)

even-apart : (x y h : ℕ) → y ≡ x + h * 2 → x % 2 ≡ y % 2
even-apart x y h e = omega (arith, e)

carryless-mod : (a b : ℕ) → carryless (a % 16) (b % 16) ≡ carryless a b
unfolding carryless
carryless-mod a b =
    let b1 : b % 16 % 2 ≡ b % 2 = omega arith in
    let b2 : b % 16 / 2 % 2 ≡ b / 2 % 2 = even-apart (b % 16 / 2) (b / 2) (b / 16 * 4) (omega arith) in
    let b4 : b % 16 / 4 % 2 ≡ b / 4 % 2 = even-apart (b % 16 / 4) (b / 4) (b / 16 * 2) (omega arith) in
    let b8 : b % 16 / 8 % 2 ≡ b / 8 % 2 = even-apart (b % 16 / 8) (b / 8) (b / 16) (omega arith) in
    let a1 : a % 16 % 16 ≡ a % 16 = mod-mod a 16 in
    ap₂ bit_xor
    (ap₂ bit_xor (ap₂ bit_xor (ap₂ (λ (x y : ℕ). x * y) b1 a1) (ap₂ (λ (x y : ℕ). x * (y * 2)) b2 a1)) (ap₂ (λ (x y : ℕ). x * (y * 4)) b4 a1))
    (ap₂ (λ (x y : ℕ). x * (y * 8)) b8 a1)

pub reduced-carryless : (a b : ℕ) → reduced (carryless a b) ≡ times a b
unfolding agrees every every₂ reduced carryless Binary.times Binary.shift_add Binary.xtime
reduced-carryless a b =
    sym (ap reduced (carryless-mod a b))
    ∙ eqb→eq _ _ (every₂-at 16 agrees tt (a % 16) (b % 16) (mod-lt a (lit< tt)) (mod-lt b (lit< tt)))
    ∙ times_mod a b
