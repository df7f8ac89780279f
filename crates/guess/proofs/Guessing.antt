-- Sums over all places, by planes, and what they tell.
use mathlib.Core.Bool.{Bool}
use mathlib.Core.Path.{◌≡◌, refl, sym, ap, ap₂, ◌∙◌, subst}
use mathlib.Core.List.{List, [], ◌∷◌}
use Prim.Native.Nat.{ℕ, zero, suc, ◌+◌, ◌*◌, ◌/◌, ◌%◌, ◌^◌, ◌<◌}
use native.Mathlib.Nat.{mod-eq_of_lt, mod-lt}
use native.Mathlib.Numerals.{add-one}
use native.Mathlib.Omega.{arith}
use Rattle.std.specs.Prelude.{Option, Some, None}
use lib.Bits.{bit_xor}
use lib.Dec.{T, eqb, eqb→eq, lit<}
use lib.ListN.{get_or}
use Rattle.lists.specs.Every.{every, every-at}
use Rattle.lists.specs.XorSum.{xor_sum, xor_sum-suc}
use Rattle.algebra.specs.Field.{ring, mul_left_comm, mul_assoc, mul-one, mul-zero}
use Rattle.algebra.specs.Sum.{sum, sum-ext, sum-plus, sum-scale}
use Rattle.galois.specs.Gf16.{gf16, times}
use Rattle.galois.specs.Field16.{GF, K16, value, to_f, value-to_f, to_f-times, to_f-add, to_f-mod, to_f-zero, to_f-one, times-lt, xor_below}
use Rattle.galois.specs.BinaryField.{to_f-xor_sum}
use Rattle.galois.specs.Binary as Binary
use Rattle.family.specs.Member.{m16, places, px, py}
use Rattle.curve.specs.Curve.{x_of}
use Rattle.packing.specs.Bits.{from_bits}
use Rattle.planes.specs.Lanes.{lane}
use Rattle.planes.specs.Elements.{element}
use Rattle.planes.specs.Arrays.{planes_in, element_at, symbol_at, symbol-lt, element-symbol, symbols_of, Carries, product_of, product-element}
use Rattle.coefficients.specs.Moved.{folded, element-folded}
use Rattle.guess.specs.Guess.{overall, folded_of, symbol_in, with_bit, At, SumsOf}
use Rattle.guess.specs.declared.Sums.{Sums}
open K16 use {◌⊕◌, ◌⊗◌}

-- the symbol at a lane is the number of its element
symbol-value : (a : List ℕ) (p : ℕ) → symbol_at a p ≡ value (element_at a p)
symbol-value a p = sym (ap value (element-symbol a p) ∙ value-to_f (symbol_at a p) ∙ mod-eq_of_lt (symbol-lt a p))

-- what follows of a number follows where there is none
pub at-turn : {P Q : ℕ → Type 0} → ((r : ℕ) → P r → Q r) → (o : Option ℕ) → At P o → At Q o
at-turn f (Some r) h = (h.0, f r h.1)
at-turn f None h = f (places m16) h

four : {a b c d e f g h : ℕ} → a ≡ e → b ≡ f → c ≡ g → d ≡ h → a ∷ b ∷ c ∷ d ∷ [] ≡ e ∷ f ∷ g ∷ h ∷ []
four p q r s = cc (p, q, r, s)

module _ (a : List ℕ) where
  abbrev folded_list : List ℕ
  folded_list = folded_of (get_or a 0 0) ∷ folded_of (get_or a 1 0) ∷ folded_of (get_or a 2 0) ∷ folded_of (get_or a 3 0) ∷ []

  folded-element : element_at folded_list 0 ≡ element gf16 (folded gf16 6 (planes_in a)) 0
  unfolding element lane from_bits planes_in folded
  folded-element = refl

  pub all-by : {one two four' eight r : ℕ} → one ≡ folded_of (get_or a 0 0) → two ≡ folded_of (get_or a 1 0) → four' ≡ folded_of (get_or a 2 0)
      → eight ≡ folded_of (get_or a 3 0) → r ≡ symbol_at (one ∷ two ∷ four' ∷ eight ∷ []) (0 % 64) → r ≡ value (overall m16 (element_at a))
  unfolding overall
  all-by e1 e2 e4 e8 e =
      e ∙ ap (λ l. symbol_at l 0) (four e1 e2 e4 e8) ∙ symbol-value folded_list 0
      ∙ ap value (folded-element ∙ element-folded gf16 6 (planes_in a) 0
      ∙ sum-ext K16 (places m16) _ _ (λ p l. let z : 0 + p ≡ p = omega arith in ap (element_at a) z))

-- ---- sums of symbols
pub bit-fits : (a n : ℕ) → n < 2 → a % 16 * n < 256
bit-fits a zero l = omega arith
bit-fits a (suc zero) l = omega arith
bit-fits a (suc (suc n)) l = absurd (omega arith)

pub symbols-turn : (word : List ℕ) (p out : ℕ) → out ≡ xor_sum p (symbol_in word) → bit_xor out (get_or word p 0) ≡ xor_sum (p + 1) (symbol_in word)
unfolding symbol_in
symbols-turn word p out e = ap (λ x. bit_xor x (get_or word p 0)) e ∙ sym (xor_sum-suc p (symbol_in word)) ∙ ap (λ n. xor_sum n (symbol_in word)) (sym (add-one p))

pub bits-turn : (word : List ℕ) (b p out : ℕ) → out ≡ xor_sum p (with_bit word b)
    → bit_xor out (get_or word p 0 % 16 * (p / 2 ^ b % 2)) ≡ xor_sum (p + 1) (with_bit word b)
unfolding with_bit
bits-turn word b p out e =
    ap (λ x. bit_xor x (with_bit word b p)) e ∙ sym (xor_sum-suc p (with_bit word b)) ∙ ap (λ n. xor_sum n (with_bit word b)) (sym (add-one p))

-- ---- sums with x, by the bits of the places' numbers
-- one number for each bit of x, added
abbrev mixed : ℕ → ℕ → ℕ → ℕ → ℕ → ℕ
mixed a b c d p =
    bit_xor (bit_xor (bit_xor (times a (p / 2 ^ 2 % 2)) (times b (p / 2 ^ 3 % 2))) (times c (p / 2 ^ 4 % 2))) (times d (p / 2 ^ 5 % 2))

unfoldable mixes_x : ℕ → Bool
mixes_x p = eqb (mixed 1 2 4 8 p) (x_of p)

unfoldable mixes_square : ℕ → Bool
mixes_square p = eqb (mixed 1 4 3 12 p) (times (x_of p) (x_of p))

x-tested : T (every 64 mixes_x)
unfolding every mixes_x Binary.times Binary.shift_add Binary.xtime
x-tested = tt

square-tested : T (every 64 mixes_square)
unfolding every mixes_square Binary.times Binary.shift_add Binary.xtime
square-tested = tt

x-mixed : (p : ℕ) → p < places m16 → to_f (mixed 1 2 4 8 p) ≡ px m16 p
unfolding mixes_x
x-mixed p h = ap to_f (eqb→eq (mixed 1 2 4 8 p) (x_of p) (every-at 64 mixes_x x-tested p h))

square-mixed : (p : ℕ) → p < places m16 → to_f (mixed 1 4 3 12 p) ≡ px m16 p ⊗ px m16 p
unfolding mixes_square
square-mixed p h = ap to_f (eqb→eq (mixed 1 4 3 12 p) (times (x_of p) (x_of p)) (every-at 64 mixes_square square-tested p h)) ∙ to_f-times (x_of p) (x_of p)

pub xor-four : {a b c d e f g h : ℕ} → a ≡ e → b ≡ f → c ≡ g → d ≡ h → bit_xor (bit_xor (bit_xor a b) c) d ≡ bit_xor (bit_xor (bit_xor e f) g) h
xor-four p q r s = cc (p, q, r, s)

module _ (word : List ℕ) where
  -- the symbol, where the bit is 1
  bit-element : (b p : ℕ) → to_f (with_bit word b p) ≡ symbols_of word p ⊗ to_f (p / 2 ^ b % 2)
  unfolding with_bit
  bit-element b p = go (p / 2 ^ b % 2) (mod-lt (p / 2 ^ b) (lit< tt))
    where
      go : (n : ℕ) → n < 2 → to_f (get_or word p 0 % 16 * n) ≡ symbols_of word p ⊗ to_f n
      go zero h = let e : get_or word p 0 % 16 * 0 ≡ 0 = omega arith in ap to_f e ∙ to_f-zero ∙ sym (ap (λ x. symbols_of word p ⊗ x) to_f-zero ∙ mul-zero K16 _)
      go (suc zero) h =
          let e : get_or word p 0 % 16 * 1 ≡ get_or word p 0 % 16 = omega arith in
          ap to_f e ∙ to_f-mod _ ∙ sym (ap (λ x. symbols_of word p ⊗ x) to_f-one ∙ mul-one K16 _)
      go (suc (suc n)) h = absurd (omega arith)

  -- a multiple of the sum with a bit
  bit-sum : (b c m : ℕ) → m ≡ xor_sum (places m16) (with_bit word b)
      → to_f (times c m) ≡ sum K16 (places m16) (λ p. symbols_of word p ⊗ (to_f c ⊗ to_f (p / 2 ^ b % 2)))
  bit-sum b c m e =
      to_f-times c m
      ∙ ap (λ x. to_f c ⊗ x) (ap to_f e ∙ to_f-xor_sum gf16 (places m16) (with_bit word b) ∙ sum-ext K16 (places m16) _ _ (λ p l. bit-element b p))
      ∙ sym (sum-scale K16 (places m16) (to_f c) _)
      ∙ sum-ext K16 (places m16) _ _ (λ p l. mul_left_comm K16 _ _ _)

  mixed-sum : (a b c d one two four' eight r : ℕ) → one ≡ xor_sum (places m16) (with_bit word 2) → two ≡ xor_sum (places m16) (with_bit word 3)
      → four' ≡ xor_sum (places m16) (with_bit word 4) → eight ≡ xor_sum (places m16) (with_bit word 5) → (v : ℕ → GF)
      → ((p : ℕ) → p < places m16 → to_f (mixed a b c d p) ≡ v p)
      → r ≡ bit_xor (bit_xor (bit_xor (times a one) (times b two)) (times c four')) (times d eight) → r ≡ value (overall m16 (λ p. symbols_of word p ⊗ v p))
  unfolding overall
  mixed-sum a b c d one two four' eight r e1 e2 e4 e8 v mixes e =
      let small : r < 16 =
      subst (λ n. n < 16) (sym e)
      (xor_below _ _ (xor_below _ _ (xor_below _ _ (times-lt a one) (times-lt b two)) (times-lt c four')) (times-lt d eight)) in
      sym (value-to_f r ∙ mod-eq_of_lt small)
      ∙ ap value
      (ap to_f e ∙ added _ _ _ _
      ∙ ap₂ (λ x y. x ⊕ y) (ap₂ (λ x y. x ⊕ y) (ap₂ (λ x y. x ⊕ y) (bit-sum 2 a one e1) (bit-sum 3 b two e2)) (bit-sum 4 c four' e4)) (bit-sum 5 d eight e8)
      ∙ plus-four _ _ _ _
      ∙ sum-ext K16 (places m16) _ _ (λ p l.
      gathered _ _ _ _ _ ∙ ap (λ x. symbols_of word p ⊗ x) (sym (added _ _ _ _ ∙ ap₂ (λ x y. x ⊕ y) (ap₂ (λ x y. x ⊕ y) (ap₂ (λ x y. x ⊕ y) (to_f-times a _) (to_f-times b _)) (to_f-times c _)) (to_f-times d _)) ∙ mixes p l)))
    where
      added : (f g h i : ℕ) → to_f (bit_xor (bit_xor (bit_xor f g) h) i) ≡ ((to_f f ⊕ to_f g) ⊕ to_f h) ⊕ to_f i
      added f g h i = to_f-add _ i ∙ ap (λ x. x ⊕ to_f i) (to_f-add _ h ∙ ap (λ x. x ⊕ to_f h) (to_f-add f g))

      plus-four : (f g h i : ℕ → GF)
          → ((sum K16 (places m16) f ⊕ sum K16 (places m16) g) ⊕ sum K16 (places m16) h) ⊕ sum K16 (places m16) i
          ≡ sum K16 (places m16) (λ p. ((f p ⊕ g p) ⊕ h p) ⊕ i p)
      plus-four f g h i =
          sym (sum-plus K16 (places m16) _ i
          ∙ ap (λ x. x ⊕ sum K16 (places m16) i) (sum-plus K16 (places m16) _ h ∙ ap (λ x. x ⊕ sum K16 (places m16) h) (sum-plus K16 (places m16) f g)))

      gathered : (w f g h i : GF) → ((w ⊗ f ⊕ w ⊗ g) ⊕ w ⊗ h) ⊕ w ⊗ i ≡ w ⊗ (((f ⊕ g) ⊕ h) ⊕ i)
      gathered w f g h i = simp (ring, K16)

  pub sums-made : (one two four' eight whole : ℕ) (s : Sums) → one ≡ xor_sum (places m16) (with_bit word 2) → two ≡ xor_sum (places m16) (with_bit word 3)
      → four' ≡ xor_sum (places m16) (with_bit word 4) → eight ≡ xor_sum (places m16) (with_bit word 5) → whole ≡ xor_sum (places m16) (symbol_in word)
      → s.all ≡ whole % 16 → s.across ≡ bit_xor (bit_xor (bit_xor (times 1 one) (times 2 two)) (times 4 four')) (times 8 eight)
      → s.squares ≡ bit_xor (bit_xor (bit_xor (times 1 one) (times 4 two)) (times 3 four')) (times 12 eight) → SumsOf word s
  unfolding overall symbol_in
  sums-made one two four' eight whole s e1 e2 e4 e8 e all-is x-is square-is =
      record {
        of_all = all-is ∙ sym (value-to_f whole) ∙ ap value (ap to_f e ∙ to_f-xor_sum gf16 (places m16) (symbol_in word));
        of_x = mixed-sum 1 2 4 8 one two four' eight s.across e1 e2 e4 e8 (px m16) x-mixed x-is;
        of_square =
            mixed-sum 1 4 3 12 one two four' eight s.squares e1 e2 e4 e8 (λ p. px m16 p ⊗ px m16 p) square-mixed square-is
            ∙ ap value (sum-ext K16 (places m16) _ _ (λ p l. sym (mul_assoc K16 _ _ _)));
      }

-- ---- the sum with y, by planes
pub y-sum : (word values ys by_y : List ℕ) (sum-y : ℕ) → Carries (symbols_of word) values → Carries (py m16) ys → by_y ≡ product_of values ys
    → sum-y ≡ value (overall m16 (element_at by_y)) → sum-y ≡ value (overall m16 (λ p. symbols_of word p ⊗ py m16 p))
unfolding overall
y-sum word values ys by_y sum-y values-is ys-is by-y-is e =
    e
    ∙ ap value
    (sum-ext K16 (places m16) _ _ (λ p l.
    ap (λ a. element_at a p) by-y-is ∙ product-element values ys p ∙ ap₂ (λ a b. a ⊗ b) (values-is.lanes p l) (ys-is.lanes p l)))

pub yy-sum : (word values ys by_y by-yy : List ℕ) (sum-yy : ℕ) → Carries (symbols_of word) values → Carries (py m16) ys → by_y ≡ product_of values ys
    → by-yy ≡ product_of by_y ys → sum-yy ≡ value (overall m16 (element_at by-yy))
    → sum-yy ≡ value (overall m16 (λ p. (symbols_of word p ⊗ py m16 p) ⊗ py m16 p))
unfolding overall
yy-sum word values ys by_y by-yy sum-yy values-is ys-is by-y-is by-yy-is e =
    e
    ∙ ap value
    (sum-ext K16 (places m16) _ _ (λ p l.
    ap (λ a. element_at a p) by-yy-is ∙ product-element by_y ys p
    ∙ ap₂ (λ a b. a ⊗ b)
    (ap (λ a. element_at a p) by-y-is ∙ product-element values ys p ∙ ap₂ (λ a b. a ⊗ b) (values-is.lanes p l) (ys-is.lanes p l)) (ys-is.lanes p l)))
