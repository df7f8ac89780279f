-- Words and planes: the planes of a word's symbols, and the word that planes hold.
--
--   plane_of b word             the plane of bit b of each symbol
--   planes-carry               four of them hold the word
--   word_of a                   the word that four planes hold: word_of-at, word_of-element
--   apart_of x a, four_of x a    the bits, and the symbols, of the four lanes from 4x on, in bytes of their own
use Rattle.std.specs.Prelude.{◌≡◌, List, [], ◌∷◌, ℕ, zero, suc, ◌+◌, ◌*◌, ◌/◌, ◌%◌, ◌^◌, ◌<◌, get_or}
use Rattle.std.proofs.Common.{sym, ap, ◌∙◌, arith}
use Rattle.std.specs.Int.Bits.{bit_and}
use Rattle.lists.specs.Listed.{listed, listed_at}
use Rattle.galois.specs.Gf16.{gf16}
use Rattle.galois.specs.Field16.{to_f}
use Rattle.family.specs.Member.{m16, places}
use Rattle.packing.specs.Bits.{from_bits}
use Rattle.packing.specs.Sixteens.{bits_of}
use Rattle.lanewise.specs.Arrays.{carries-planes}
use Rattle.planes.specs.Arrays.{planes_in, element_at, Carries, symbols_of, symbol_at, element-symbol}

unfoldable pub plane_of : ℕ → List ℕ → ℕ
plane_of b word = from_bits (places m16) (bits_of b word)

pub planes-carry : (word : List ℕ) {one two four eight : ℕ} → one ≡ plane_of 0 word → two ≡ plane_of 1 word → four ≡ plane_of 2 word → eight ≡ plane_of 3 word
    → Carries (symbols_of word) (one ∷ two ∷ four ∷ eight ∷ [])
unfolding planes_in plane_of bits_of
planes-carry word {one} {two} {four} {eight} e1 e2 e4 e8 = carries-planes gf16 (places m16) (λ p. get_or word p 0) _ plane
  where
    plane : (b : ℕ) → b < gf16.bits → planes_in (one ∷ two ∷ four ∷ eight ∷ []) b ≡ plane_of b word
    plane zero l = e1
    plane (suc zero) l = e2
    plane (suc (suc zero)) l = e4
    plane (suc (suc (suc zero))) l = e8
    plane (suc (suc (suc (suc b)))) l = absurd (omega arith)

unfoldable pub word_of : List ℕ → List ℕ
word_of a = listed (places m16) (symbol_at a)

pub word_of-at : (a : List ℕ) (p : ℕ) → p < places m16 → get_or (word_of a) p 0 ≡ symbol_at a p
unfolding word_of
word_of-at a p h = listed_at (places m16) p (symbol_at a) 0 h

pub word_of-element : (a : List ℕ) (p : ℕ) → p < places m16 → element_at a p ≡ to_f (get_or (word_of a) p 0)
word_of-element a p h = element-symbol a p ∙ ap to_f (sym (word_of-at a p h))

abbrev pub apart_of : ℕ → ℕ → ℕ
apart_of x a = bit_and (a / 2 ^ (x * 4) % 16 * 0x204081) 0x1010101

abbrev pub four_of : ℕ → List ℕ → ℕ
four_of x a = symbol_at a (x * 4) + symbol_at a (x * 4 + 1) * 256 + symbol_at a (x * 4 + 2) * 65536 + symbol_at a (x * 4 + 3) * 16777216
