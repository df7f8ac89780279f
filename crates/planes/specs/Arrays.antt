-- Arrays of four planes, with symbols of GF(16) in their lanes: what the functions on them return, and what their lanes then hold.
--
--   planes_in a         the planes that an array holds, lowest bit first
--   element_at a p      the element at lane p
--   Carries v a        the array holds v p at each of the 64 places p
--   symbol_at a p       the symbol at lane p: a number below 16 (symbol-lt); element-symbol: the element's
--   none-element       planes of zeros hold zero
--   sum_of a b, sum-element           the sum in every lane
--   product_of a b, product-element   the product in every lane
--   spread_of c, spread-carries       one symbol at every place
--   only_at q c p       the symbol c at place q, and zero at the others
--   everywhere a       an element at every place; symbols_of word: a word's symbols by place
unfoldable pub use Rattle.lanewise.specs.Arrays.{planes_in}
use Rattle.std.specs.Prelude.{◌≡◌, List, [], ◌∷◌, ℕ, zero, suc, ◌+◌, ◌*◌, ◌/◌, ◌%◌, ◌^◌, ◌<◌, get_or}
use Rattle.std.proofs.Math.Path.{refl}
use Rattle.std.proofs.Common.{sym, ap, ◌∙◌, arith}
use Rattle.std.specs.Int.Bits.{bit_xor}
use Rattle.lists.specs.Listed.{listed}
use Rattle.galois.specs.Gf16.{gf16}
use Rattle.galois.specs.Field16.{GF, K16, to_f}
use Rattle.family.specs.Member.{m16, places}
use Rattle.packing.specs.Bits.{bit_at, bit_at-at, bit_at-first, from_bits}
use Rattle.lanewise.specs.Lanes.{lane}
use Rattle.lanewise.specs.Elements as Elements
use Rattle.lanewise.specs.Product as Lanes
use Rattle.lanewise.specs.Arrays as Arrays
use Rattle.planes.specs.Product.{ones, twos, fours, eights, products-16}
open K16 use {◌⊕◌, ◌⊗◌, 𝟘}

abbrev pub element_at : List ℕ → ℕ → GF
element_at a p = Arrays.element_at gf16 a p

abbrev pub Carries : (ℕ → GF) → List ℕ → Type 0
Carries v a = Arrays.CarriesIn gf16 (places m16) v a

abbrev pub everywhere : GF → ℕ → GF
everywhere a p = Arrays.everywhere gf16 a p

abbrev pub only_at : ℕ → ℕ → ℕ → GF
only_at q c p = Arrays.only_at gf16 q c p

abbrev pub symbols_of : List ℕ → ℕ → GF
symbols_of word p = Arrays.symbols_of gf16 word p

-- ---- one lane
abbrev pub symbol_at : List ℕ → ℕ → ℕ
symbol_at a p = ((get_or a 3 0 / 2 ^ p % 2 * 2 + get_or a 2 0 / 2 ^ p % 2) * 2 + get_or a 1 0 / 2 ^ p % 2) * 2 + get_or a 0 0 / 2 ^ p % 2

symbol-lane : (a : List ℕ) (p : ℕ) → symbol_at a p ≡ lane 4 (planes_in a) p
unfolding lane from_bits bit_at planes_in
symbol-lane a p = omega arith

pub symbol-lt : (a : List ℕ) (p : ℕ) → symbol_at a p < 16
symbol-lt a p = omega arith

pub element-symbol : (a : List ℕ) (p : ℕ) → element_at a p ≡ to_f (symbol_at a p)
element-symbol a p = Elements.element-lane gf16 (planes_in a) p ∙ ap to_f (sym (symbol-lane a p))

pub none-element : (p : ℕ) → element_at (0 ∷ 0 ∷ 0 ∷ 0 ∷ []) p ≡ 𝟘
unfolding Elements.element lane from_bits planes_in
none-element p = Arrays.none-element gf16 p

-- ---- all lanes
abbrev entry : List ℕ → ℕ → ℕ
entry a b = get_or a b 0

module _ (a b : List ℕ) where
  abbrev pub sum_of : List ℕ
  sum_of =
      bit_xor (get_or a 0 0) (get_or b 0 0) ∷ bit_xor (get_or a 1 0) (get_or b 1 0) ∷ bit_xor (get_or a 2 0) (get_or b 2 0) ∷ bit_xor (get_or a 3 0) (get_or b 3 0) ∷ []

  pub sum_is : sum_of ≡ Arrays.sum_of gf16 a b
  unfolding Arrays.sum_of listed planes_in
  sum_is = refl

  pub sum-element : (p : ℕ) → element_at sum_of p ≡ element_at a p ⊕ element_at b p
  sum-element p = ap (λ v. element_at v p) sum_is ∙ Arrays.sum-element gf16 a b p

  abbrev pub product_of : List ℕ
  product_of = ones (entry a) (entry b) ∷ twos (entry a) (entry b) ∷ fours (entry a) (entry b) ∷ eights (entry a) (entry b) ∷ []

  pub product_is : product_of ≡ Arrays.product_of gf16 a b
  unfolding Arrays.product_of Lanes.product_of Lanes.crossed listed planes_in
  product_is = refl

  pub product-element : (p : ℕ) → element_at product_of p ≡ element_at a p ⊗ element_at b p
  product-element p = ap (λ v. element_at v p) product_is ∙ Arrays.product-element gf16 a b products-16 p

-- all bits of a plane
abbrev pub all_ones : ℕ
all_ones = Arrays.all_ones (places m16)

-- a bit of c in every lane of each plane
abbrev pub spread_of : ℕ → List ℕ
spread_of c = c % 2 * all_ones ∷ c / 2 % 2 * all_ones ∷ c / 4 % 2 * all_ones ∷ c / 8 % 2 * all_ones ∷ []

-- a bit of each of four planes, by the bits of c
pub four-bits : (c : ℕ) (f : ℕ → ℕ) {one two four eight : ℕ} → one ≡ f (c % 2) → two ≡ f (c / 2 % 2) → four ≡ f (c / 4 % 2) → eight ≡ f (c / 8 % 2) → (b : ℕ) → b < 4
    → planes_in (one ∷ two ∷ four ∷ eight ∷ []) b ≡ f (bit_at c b)
unfolding planes_in
four-bits c f e1 e2 e4 e8 zero l = e1 ∙ ap f (sym (bit_at-first c))
four-bits c f e1 e2 e4 e8 (suc zero) l = e2 ∙ ap f (sym (bit_at-at c 1))
four-bits c f e1 e2 e4 e8 (suc (suc zero)) l = e4 ∙ ap f (sym (bit_at-at c 2))
four-bits c f e1 e2 e4 e8 (suc (suc (suc zero))) l = e8 ∙ ap f (sym (bit_at-at c 3))
four-bits c f e1 e2 e4 e8 (suc (suc (suc (suc b)))) l = absurd (omega arith)

pub spread-carries : (c : ℕ) → Carries (everywhere (to_f c)) (spread_of c)
spread-carries c = Arrays.carries-spread gf16 (places m16) c _ (four-bits c (λ x. x * all_ones) refl refl refl refl)
