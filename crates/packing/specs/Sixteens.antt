-- Bits of a word's symbols, sixteen symbols at a time.
--
--   bits_of b word              bit b of each symbol, by place
--   sixteens a b c d           four numbers, each in sixteen bits of its own
--   bits_apart s                the four bits of a symbol, so apart
--   part_of b from word         bit b of the sixteen symbols from a place on; sixteen_of from word: those of all four bits
--   joined_of b p q r s         the b-th sixteens of four numbers, as one
--   plane-parts                the sixteens of one bit, from place 0, 16, 32 and 48 on, are all 64 bits
--   joined-parts               so are those out of four numbers with sixteen symbols each
use Rattle.std.specs.Prelude.{◌≡◌, List, ℕ, zero, suc, ◌+◌, ◌*◌, ◌/◌, ◌%◌, ◌^◌, ◌<◌, get_or}
use Rattle.std.proofs.Common.{sym, ap, ◌∙◌, arith}
use Rattle.std.specs.Int.Bits.{bit_and}
use Rattle.packing.specs.Bits.{bit_at, bit_at_lt, from_bits, from_bits-ext, from_bits-lt, from_bits-append}

unfoldable pub bits_of : ℕ → List ℕ → ℕ → ℕ
bits_of b word p = bit_at (get_or word p 0) b

abbrev pub sixteens : ℕ → ℕ → ℕ → ℕ → ℕ
sixteens a b c d = a + b * 65536 + c * 4294967296 + d * 281474976710656

abbrev pub bits_apart : ℕ → ℕ
bits_apart s = bit_and (s % 16 * 0x200040008001) 0x1000100010001

unfoldable pub bits_after : ℕ → ℕ → List ℕ → ℕ → ℕ
bits_after b from word k = bits_of b word (from + k)

abbrev pub part_of : ℕ → ℕ → List ℕ → ℕ
part_of b from word = from_bits 16 (bits_after b from word)

abbrev pub sixteen_of : ℕ → List ℕ → ℕ
sixteen_of from word = sixteens (part_of 0 from word) (part_of 1 from word) (part_of 2 from word) (part_of 3 from word)

abbrev pub field_of : ℕ → ℕ → ℕ
field_of b a = a / 2 ^ (b * 16) % 65536

abbrev pub joined_of : ℕ → ℕ → ℕ → ℕ → ℕ → ℕ
joined_of b p q r s = sixteens (field_of b p) (field_of b q) (field_of b r) (field_of b s)

-- ---- a plane by its four sixteens
pub plane-parts : (word : List ℕ) (b : ℕ) → sixteens (part_of b 0 word) (part_of b 16 word) (part_of b 32 word) (part_of b 48 word) ≡ from_bits 64 (bits_of b word)
unfolding bits_after
plane-parts word b =
    sym
    (from_bits-append 16 48 (bits_of b word)
    ∙ ap (λ (x : ℕ). from_bits 16 (bits_of b word) + x * 65536)
    (from_bits-append 16 32 (λ k. bits_of b word (16 + k))
    ∙ ap (λ (x : ℕ). from_bits 16 (λ k. bits_of b word (16 + k)) + x * 65536) (from_bits-append 16 16 (λ k. bits_of b word (16 + (16 + k)))))
    ∙ omega (arith, at 0 (λ k. k) (λ k. own k), at 32 (λ k. 16 + (16 + k)) (λ k. twice k), at 48 (λ k. 16 + (16 + (16 + k))) (λ k. thrice k)))
  where
    at : (from : ℕ) (g : ℕ → ℕ) → ((k : ℕ) → g k ≡ from + k) → from_bits 16 (λ k. bits_of b word (g k)) ≡ from_bits 16 (λ k. bits_of b word (from + k))
    at from g e = from_bits-ext 16 _ _ (λ k l. ap (bits_of b word) (e k))

    own : (k : ℕ) → k ≡ 0 + k
    own k = omega arith

    twice : (k : ℕ) → 16 + (16 + k) ≡ 32 + k
    twice k = omega arith

    thrice : (k : ℕ) → 16 + (16 + (16 + k)) ≡ 48 + k
    thrice k = omega arith

module _ (word : List ℕ) where
  part-lt : (b from : ℕ) → part_of b from word < 65536
  unfolding bits_after bits_of
  part-lt b from = from_bits-lt 16 (bits_after b from word) (λ k. bit_at_lt (get_or word (from + k) 0) b)

  -- the b-th sixteen of a number with sixteen symbols
  field-part : (b from a : ℕ) → b < 4 → a ≡ sixteen_of from word → field_of b a ≡ part_of b from word
  field-part zero from a h e = omega (arith, part-lt 0 from, part-lt 1 from, part-lt 2 from, part-lt 3 from)
  field-part (suc zero) from a h e = omega (arith, part-lt 0 from, part-lt 1 from, part-lt 2 from, part-lt 3 from)
  field-part (suc (suc zero)) from a h e = omega (arith, part-lt 0 from, part-lt 1 from, part-lt 2 from, part-lt 3 from)
  field-part (suc (suc (suc zero))) from a h e = omega (arith, part-lt 0 from, part-lt 1 from, part-lt 2 from, part-lt 3 from)
  field-part (suc (suc (suc (suc b)))) from a h e = absurd (omega arith)

  pub joined-parts : (b : ℕ) {p q r s v : ℕ} → b < 4 → p ≡ sixteen_of 0 word → q ≡ sixteen_of 16 word → r ≡ sixteen_of 32 word → s ≡ sixteen_of 48 word
      → v ≡ joined_of b p q r s → v ≡ from_bits 64 (bits_of b word)
  joined-parts b {p} {q} {r} {s} h first second third fourth e =
      e
      ∙ four (field-part b 0 p h first) (field-part b 16 q h second) (field-part b 32 r h third) (field-part b 48 s h fourth)
      ∙ plane-parts word b
    where
      four : {a b c d e f g h : ℕ} → a ≡ e → b ≡ f → c ≡ g → d ≡ h → sixteens a b c d ≡ sixteens e f g h
      four p q r s = cc (p, q, r, s)
