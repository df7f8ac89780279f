-- The loop that packs sixteen symbols of a word, from the last down.
use mathlib.Core.Bool.{Bool}
use mathlib.Core.Path.{◌≡◌, sym, ap, ◌∙◌}
use mathlib.Core.List.{List}
use Prim.Native.Nat.{ℕ, suc, ◌+◌, ◌-◌, ◌*◌, ◌%◌, ◌^◌, ◌<◌, ◌≤◌}
use native.Mathlib.Nat.{lt_of_lt_of_le}
use native.Mathlib.Omega.{arith}
use lib.Bits.{bit_and, and_le_r}
use lib.Dec.{eqb, eqb→eq, lit<}
use lib.ListN.{get_or}
use lib.Pow.{pow_mono}
use Rattle.lists.specs.Every.{every, every-at}
use Rattle.packing.specs.Bits.{bit_at, bit_at_lt, bit_at-kept, bits_from, bits_from-start, bits_from-turn, bits_from-end, bits_from-lt}
use Rattle.packing.specs.Sixteens.{bits_of, bits_after, sixteens, bits_apart, sixteen_of}

-- ---- one symbol
is_apart : ℕ → Bool
is_apart n = eqb (bit_and (n * 0x200040008001) 0x1000100010001) (sixteens (bit_at n 0) (bit_at n 1) (bit_at n 2) (bit_at n 3))

apart-computed : (n : ℕ) → n < 16 → bit_and (n * 0x200040008001) 0x1000100010001 ≡ sixteens (bit_at n 0) (bit_at n 1) (bit_at n 2) (bit_at n 3)
unfolding every is_apart bit_at
apart-computed n h = eqb→eq _ _ (every-at 16 is_apart tt n h)

four : {a b c d e f g h : ℕ} → a ≡ e → b ≡ f → c ≡ g → d ≡ h → sixteens a b c d ≡ sixteens e f g h
four p q r s = cc (p, q, r, s)

apart-bits : (s : ℕ) → bits_apart s ≡ sixteens (bit_at s 0) (bit_at s 1) (bit_at s 2) (bit_at s 3)
apart-bits s =
    apart-computed (s % 16) (omega arith)
    ∙ four (bit_at-kept s 0 4 (lit< tt)) (bit_at-kept s 1 4 (lit< tt)) (bit_at-kept s 2 4 (lit< tt)) (bit_at-kept s 3 4 (lit< tt))

-- ---- sixteen of them
module _ (word : List ℕ) (from : ℕ) where
  -- the bits from i on
  abbrev pub packed_to : ℕ → ℕ
  packed_to i =
      sixteens (bits_from 16 i (bits_after 0 from word)) (bits_from 16 i (bits_after 1 from word)) (bits_from 16 i (bits_after 2 from word))
      (bits_from 16 i (bits_after 3 from word))

  bit-lt : (b k : ℕ) → bits_after b from word k < 2
  unfolding bits_after bits_of
  bit-lt b k = bit_at_lt (get_or word (from + k) 0) b

  pub packed_start : 0 ≡ packed_to 16
  packed_start = sym (four (bits_from-start 16 _) (bits_from-start 16 _) (bits_from-start 16 _) (bits_from-start 16 _))

  module _ (i out : ℕ) (e : out ≡ packed_to i) (more : 0 < i) (most : i ≤ 16) where
    room_at : (b : ℕ) → bits_from 16 i (bits_after b from word) < 32768
    room_at b = let k : 16 - i ≤ 15 = omega arith in lt_of_lt_of_le (bits_from-lt 16 (bits_after b from word) (bit-lt b) i) (pow_mono k)

    -- there is room for one bit more of each
    pub packed_half : out < 2 ^ 63
    packed_half = omega (arith, room_at 0, room_at 1, room_at 2, room_at 3)

    pub packed-room : {add : ℕ} → add ≡ bits_apart (get_or word (from + (i - 1)) 0) → out * 2 + add < 2 ^ 64
    packed-room {add} q =
        let l : add ≤ 0x1000100010001 = rw q (and_le_r (get_or word (from + (i - 1)) 0 % 16 * 0x200040008001) 0x1000100010001) in
        omega (arith, room_at 0, room_at 1, room_at 2, room_at 3)

    pub packed-turn : {add : ℕ} → add ≡ bits_apart (get_or word (from + (i - 1)) 0) → out * 2 + add ≡ packed_to (i - 1)
    unfolding bits_after bits_of
    packed-turn {add} q =
        sums _ _ _ _ _ _ _ _ e (q ∙ apart-bits _) ∙ sym (four (turn 0) (turn 1) (turn 2) (turn 3))
      where
        turn : (b : ℕ) → bits_from 16 (i - 1) (bits_after b from word) ≡ bits_from 16 i (bits_after b from word) * 2 + bit_at (get_or word (from + (i - 1)) 0) b
        turn b =
            let s : suc (i - 1) ≡ i = omega arith in
            bits_from-turn 16 (bits_after b from word) (i - 1) (omega arith)
            ∙ ap (λ k. bits_from 16 k (bits_after b from word) * 2 + bit_at (get_or word (from + (i - 1)) 0) b) s

        sums : (a b c d p q r s : ℕ) → out ≡ sixteens a b c d → add ≡ sixteens p q r s → out * 2 + add ≡ sixteens (a * 2 + p) (b * 2 + q) (c * 2 + r) (d * 2 + s)
        sums a b c d p q r s e f = omega arith

  pub packed-end : (i out : ℕ) → i ≤ 0 → out ≡ packed_to i → out ≡ sixteen_of from word
  packed-end i out h e =
      let z : i ≡ 0 = omega arith in
      e ∙ ap packed_to z ∙ four (bits_from-end 16 _) (bits_from-end 16 _) (bits_from-end 16 _) (bits_from-end 16 _)
