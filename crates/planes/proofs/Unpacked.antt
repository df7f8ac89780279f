-- The loop that stores the symbols of four lanes at a time: bits that stand apart add to bytes without a carry.
use mathlib.Core.Bool.{Bool}
use mathlib.Core.Path.{◌≡◌, ap, ap₂, ◌∙◌, subst}
use mathlib.Core.List.{List}
use Prim.Native.Nat.{ℕ, ◌+◌, ◌*◌, ◌/◌, ◌%◌, ◌^◌, ◌<◌, ◌≤◌}
use native.Mathlib.Omega.{arith}
use lib.Bits.{bit_and, and_le_r}
use lib.Dec.{eqb, eqb→eq, lit<}
use lib.ListN.{length, get_or, set}
use Rattle.lists.specs.Every.{every, every-at}
use Rattle.lists.specs.Filled.{Filled, filled-turn}
use Rattle.packing.specs.Bits.{bit_at, bit_at-at, bit_at-kept, bit_at-down}
use Rattle.planes.specs.Arrays.{symbol_at, symbol-lt}
use Rattle.planes.specs.Words.{apart_of, four_of}

-- four bits, a byte each
abbrev bytes : ℕ → ℕ → ℕ → ℕ → ℕ
bytes a b c d = a + b * 256 + c * 65536 + d * 16777216

is_apart : ℕ → Bool
is_apart n = eqb (bit_and (n * 0x204081) 0x1010101) (bytes (bit_at n 0) (bit_at n 1) (bit_at n 2) (bit_at n 3))

apart-computed : (n : ℕ) → n < 16 → bit_and (n * 0x204081) 0x1010101 ≡ bytes (bit_at n 0) (bit_at n 1) (bit_at n 2) (bit_at n 3)
unfolding every is_apart bit_at
apart-computed n h = eqb→eq _ _ (every-at 16 is_apart tt n h)

module _ (x a : ℕ) where
  -- bit k of the four lanes
  bit : (k : ℕ) → k < 4 → bit_at (a / 2 ^ (x * 4) % 16) k ≡ a / 2 ^ (x * 4 + k) % 2
  bit k h = bit_at-kept (a / 2 ^ (x * 4)) k 4 h ∙ bit_at-down a k (x * 4) ∙ bit_at-at a (x * 4 + k)

  apart-bits : apart_of x a ≡ bytes (a / 2 ^ (x * 4) % 2) (a / 2 ^ (x * 4 + 1) % 2) (a / 2 ^ (x * 4 + 2) % 2) (a / 2 ^ (x * 4 + 3) % 2)
  apart-bits =
      let z : x * 4 + 0 ≡ x * 4 = omega arith in
      apart-computed (a / 2 ^ (x * 4) % 16) (omega arith)
      ∙ ap₂ (λ (s t : ℕ). s + t)
      (ap₂ (λ (s t : ℕ). s + t * 65536) (ap₂ (λ (s t : ℕ). s + t * 256) (bit 0 (lit< tt) ∙ ap (λ k. a / 2 ^ k % 2) z) (bit 1 (lit< tt))) (bit 2 (lit< tt)))
      (ap (λ (t : ℕ). t * 16777216) (bit 3 (lit< tt)))

  apart-small : {r : ℕ} → r ≡ apart_of x a → r ≤ 0x1010101
  apart-small e = rw e (and_le_r (a / 2 ^ (x * 4) % 16 * 0x204081) 0x1010101)

module _ (x : ℕ) (a : List ℕ) {one two four eight : ℕ} (p : one ≡ apart_of x (get_or a 0 0)) (q : two ≡ apart_of x (get_or a 1 0)) (r : four ≡ apart_of x (get_or a 2 0))
    (s : eight ≡ apart_of x (get_or a 3 0)) where
  -- there is room for their sum
  pub four-room : (one ≤ 0x1010101) × (two ≤ 0x1010101) × (four ≤ 0x1010101) × (eight ≤ 0x1010101)
  four-room = (apart-small x (get_or a 0 0) p, apart-small x (get_or a 1 0) q, apart-small x (get_or a 2 0) r, apart-small x (get_or a 3 0) s)

  pub four-by : one + two * 2 + four * 4 + eight * 8 ≡ four_of x a
  four-by =
      sums _ _ _ _ _ _ _ _ _ _ _ _ _ _ _ _ (p ∙ apart-bits x (get_or a 0 0)) (q ∙ apart-bits x (get_or a 1 0)) (r ∙ apart-bits x (get_or a 2 0))
      (s ∙ apart-bits x (get_or a 3 0))
    where
      sums : (a0 a1 a2 a3 b0 b1 b2 b3 c0 c1 c2 c3 d0 d1 d2 d3 : ℕ) → one ≡ bytes a0 a1 a2 a3 → two ≡ bytes b0 b1 b2 b3 → four ≡ bytes c0 c1 c2 c3
          → eight ≡ bytes d0 d1 d2 d3
          → one + two * 2 + four * 4 + eight * 8
          ≡ bytes (((d0 * 2 + c0) * 2 + b0) * 2 + a0) (((d1 * 2 + c1) * 2 + b1) * 2 + a1) (((d2 * 2 + c2) * 2 + b2) * 2 + a2) (((d3 * 2 + c3) * 2 + b3) * 2 + a3)
      sums a0 a1 a2 a3 b0 b1 b2 b3 c0 c1 c2 c3 d0 d1 d2 d3 p q r s = omega arith

-- the bytes of a number of four
digits : (r a b c d : ℕ) → r ≡ bytes a b c d → a < 16 → b < 16 → c < 16 → d < 16
    → (r % 256 ≡ a) × (r / 256 % 256 ≡ b) × (r / 65536 % 256 ≡ c) × (r / 16777216 % 256 ≡ d)
digits r a b c d e ha hb hc hd = (omega arith, omega arith, omega arith, omega arith)

-- four entries more
filled-four : {l out : List ℕ} {f : ℕ → ℕ} {i : ℕ} (a b c d : ℕ) → i + 3 < length l → a ≡ f i → b ≡ f (i + 1) → c ≡ f (i + 2) → d ≡ f (i + 3) → Filled l f i out
    → Filled l f (i + 4) (set (set (set (set out i a) (i + 1) b) (i + 2) c) (i + 3) d)
filled-four {l} {out} {f} {i} a b c d h p q r s t =
    at (i + 3) (i + 4) (omega arith) d (omega arith) s
    (at (i + 2) (i + 3) (omega arith) c (omega arith) r (at (i + 1) (i + 2) (omega arith) b (omega arith) q (filled-turn 0 t a (omega arith) p)))
  where
    at : {o : List ℕ} (k n : ℕ) → k + 1 ≡ n → (v : ℕ) → k < length l → v ≡ f k → Filled l f k o → Filled l f n (set o k v)
    at {o} k n e v h q t = subst (λ m. Filled l f m (set o k v)) e (filled-turn 0 t v h q)

pub stored-four : {l out : List ℕ} (a : List ℕ) (x r : ℕ) → x < 16 → length l ≡ 64 → r ≡ four_of x a → Filled l (symbol_at a) (x * 4) out
    → Filled l (symbol_at a) ((x + 1) * 4)
    (set (set (set (set out (x * 4) (r % 256)) (x * 4 + 1) (r / 256 % 256)) (x * 4 + 2) (r / 65536 % 256)) (x * 4 + 3) (r / 16777216 % 256))
stored-four {l} {out} a x r h n e t =
    let more : x * 4 + 4 ≡ (x + 1) * 4 = omega arith in
    let d = digits r _ _ _ _ e (symbol-lt a (x * 4)) (symbol-lt a (x * 4 + 1)) (symbol-lt a (x * 4 + 2)) (symbol-lt a (x * 4 + 3)) in
    subst
    (λ k. Filled l (symbol_at a) k
    (set (set (set (set out (x * 4) (r % 256)) (x * 4 + 1) (r / 256 % 256)) (x * 4 + 2) (r / 65536 % 256)) (x * 4 + 3) (r / 16777216 % 256)))
    more (filled-four _ _ _ _ (omega arith) d.0 d.1 d.2 d.3 t)
