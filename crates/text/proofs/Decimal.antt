-- The digits that the library's `decimal` writes are those of `decimalOf`.
--
--   decimal-digits       the fewest digits that hold n, in base 10
--   decimal-short        there are at most 20
use mathlib.Core.Path.{◌≡◌, sym, ap, ◌∙◌}
use mathlib.Core.List.{List, [], ◌∷◌, ◌++◌}
use Prim.Native.Nat.{ℕ, zero, suc, ◌+◌, ◌-◌, ◌*◌, ◌/◌, ◌%◌, ◌^◌, ◌≤◌, ◌<◌}
use native.Mathlib.Decide.{dec_le}
use native.Mathlib.Nat.{le_trans, le_of_suc-le-suc, not-suc-le-zero, pow-zero, pow-le-pow_right}
use native.Mathlib.Omega.{arith, pow_step}
use lib.Dec.{lit<}
use borrow.Author.Tests.{lt-ltb, le-ltb}
use Rattle.io.specs.Digits.{hex_digit_ascii, last_digits, IsDigitCount}
use Rattle.text.specs.Text.{decimal_within}

few : (most n : ℕ) → n < 10 → decimal_within (suc most) n ≡ hex_digit_ascii n ∷ []
unfolding decimal_within
few most n h = rw (lt-ltb n 10 h)

more : (most n : ℕ) → 10 ≤ n → decimal_within (suc most) n ≡ decimal_within most (n / 10) ++ (hex_digit_ascii (n % 10) ∷ [])
unfolding decimal_within
more most n h = rw (le-ltb n 10 h)

positive : (k : ℕ) → 1 ≤ 10 ^ k
positive k = let h : 0 ≤ k = omega arith in omega (arith, pow-zero 10, pow-le-pow_right {n = 10} (lit< tt) {i = 0} {j = k} h)

pred : (m : ℕ) → suc m - 1 ≡ m
pred m = omega arith

-- one digit fewer holds a tenth
module _ (k n : ℕ) (f : IsDigitCount 10 1 n (suc (suc k))) where
  least : 10 * 10 ^ k ≤ n
  least = omega (arith, f.2 (omega arith), pow_step 10 k, ap (λ x. 10 ^ x) (pred (suc k)))

  tenth : IsDigitCount 10 1 (n / 10) (suc k)
  tenth =
      (omega arith, omega (arith, f.1, pow_step 10 k, pow_step 10 (suc k)), λ h. omega (arith, least, ap (λ x. 10 ^ x) (pred k)))

pub decimal-digits : (most k n : ℕ) → k ≤ most → IsDigitCount 10 1 n k → last_digits 10 k n ≡ decimal_within most n
decimal-digits most zero n h f = absurd (omega (arith, f.0))
decimal-digits zero (suc k) n h f = absurd (not-suc-le-zero h)
decimal-digits (suc most) (suc zero) n h f =
    let l : n < 10 = omega (arith, f.1, pow_step 10 0, pow-zero 10) in
    let e : n % 10 ≡ n = omega arith in
    ap (λ x. hex_digit_ascii x ∷ []) e ∙ sym (few most n l)
decimal-digits (suc most) (suc (suc k)) n h f =
    ap (λ (l : List ℕ). l ++ (hex_digit_ascii (n % 10) ∷ [])) (decimal-digits most (suc k) (n / 10) (le_of_suc-le-suc h) (tenth k n f))
    ∙ sym (more most n (omega (arith, least k n f, positive k)))

-- no number of 64 bits has more than 20
pub decimal-short : (k n : ℕ) → n < 2 ^ 64 → IsDigitCount 10 1 n k → k ≤ 20
decimal-short k n h f = go (dec_le k 20)
  where
    go : Dec (k ≤ 20) → k ≤ 20
    go (yes l) = l
    go (no m) =
        let l : 20 < k = omega arith in
        let j : 20 ≤ k - 1 = omega arith in
        let e : 10 ^ 20 ≤ n = le_trans (pow-le-pow_right {n = 10} (lit< tt) {i = 20} {j = k - 1} j) (f.2 (omega arith)) in
        absurd (omega (arith, h))
