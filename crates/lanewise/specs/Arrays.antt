-- Arrays of as many planes as a field has bits: what their lanes hold.
--
--   planes_in a         the planes that an array holds, lowest bit first
--   element_at a p      the element at lane p; CarriesIn n v a: the array holds v p at each lane p below n
--   array_of f          the array of the planes f; element-array: the same elements
--   sum_of a b, sum-element           the sum in every lane
--   product_of a b, product-element   the product in every lane
--   none-element       planes of zeros hold zero
--   everywhere a       an element at every lane; symbols_of word: a word's symbols by place
--   only_at q c p       the symbol c at lane q, and zero at the others; only_here, only-off
--   carries-spread     planes that are all ones where a bit of c is 1, and else zero, hold c at every lane
--   carries-single     a bit of c moved up to lane q in each plane holds c there alone
--   carries-planes     planes made of the bits of symbols hold these
--   power-nil, power-one, power-next   the powers of what planes hold: the first two, and from each to the next
--   word_of n a         the numbers at the first n lanes: word_of-at, word_of-element
use Rattle.std.proofs.Math.Bool.{cond}
use Rattle.std.specs.Prelude.{◌≢◌, ◌≡◌, List, ℕ, suc, ◌+◌, ◌-◌, ◌*◌, ◌/◌, ◌%◌, ◌^◌, ◌<◌, eqb, get_or}
use Rattle.std.proofs.Common.{sym, ap₂, ◌∙◌, mod-eq_of_lt, arith, eq-eqb, ne_eqb}
use Rattle.std.proofs.Math.Path.{ap}
use Rattle.std.proofs.Math.Decide.{dec_lt, ℕ_discrete}
use Rattle.std.specs.Int.Bits.{bit_xor}
use Rattle.lists.specs.Listed.{listed, listed_at}
use Rattle.algebra.specs.Power.{pow, pow-nil, pow-suc, pow-one}
use Rattle.galois.specs.BinaryField.{Gf, GF, K, to_f, to_f-zero, to_f-one}
use Rattle.packing.specs.Bits.{bit_at, bit_at_lt, bit_at-zero, bit_at-suc, bit_at-first, bit_at-up, bit_at-under, bit_at-kept, bit_at-spread, from_bits, bit_at-from_bits}
use Rattle.lanewise.specs.Lanes.{Planes, lane, lane-like, lane-zero}
use Rattle.lanewise.specs.Elements.{element, element-lane, element-like, element-xor, Carries, carries-by}
use Rattle.lanewise.specs.Product as Product
use Rattle.lanewise.specs.Product.{ProductTests, element-product}

unfoldable pub planes_in : List ℕ → Planes
planes_in a b = get_or a b 0

-- all bits of n lanes
abbrev pub all_ones : ℕ → ℕ
all_ones n = 2 ^ n - 1

-- ---- a bit at one lane
-- moved up to lane q it is there alone
bit-single : (a q n p : ℕ) → a < 2 → p < n → bit_at (a * 2 ^ q % 2 ^ n) p ≡ cond (eqb p q) a 0
bit-single a q n p small l = bit_at-kept (a * 2 ^ q) p n l ∙ go (dec_lt p q) (ℕ_discrete p q)
  where
    go : Dec (p < q) → Dec (p ≡ q) → bit_at (a * 2 ^ q) p ≡ cond (eqb p q) a 0
    go (yes h) d = bit_at-under a p q h ∙ sym (ap (λ b. cond b a 0) (ne_eqb p q (λ (e : p ≡ q). absurd (omega arith))))
    go (no h) (yes e) =
        let z : p ≡ q + 0 = omega arith in
        ap (bit_at (a * 2 ^ q)) z ∙ bit_at-up a 0 q ∙ bit_at-first a ∙ mod-eq_of_lt small ∙ sym (ap (λ b. cond b a 0) (eq-eqb p q e))
    go (no h) (no e) =
        let z : p ≡ q + suc (p - q - 1) = omega arith in
        ap (bit_at (a * 2 ^ q)) z ∙ bit_at-up a (suc (p - q - 1)) q ∙ none (p - q - 1) ∙ sym (ap (λ b. cond b a 0) (ne_eqb p q e))
      where
        none : (k : ℕ) → bit_at a (suc k) ≡ 0
        none k = let z : a / 2 ≡ 0 = omega arith in bit_at-suc a k ∙ ap (λ x. bit_at x k) z ∙ bit_at-zero k

-- the bits of what is there, or of zero
bit-chosen : (c q p b : ℕ) → cond (eqb p q) (bit_at c b) 0 ≡ bit_at (cond (eqb p q) c 0) b
bit-chosen c q p b = go (ℕ_discrete p q)
  where
    go : Dec (p ≡ q) → cond (eqb p q) (bit_at c b) 0 ≡ bit_at (cond (eqb p q) c 0) b
    go (yes e) = rw (eq-eqb p q e)
    go (no n) = rw (ne_eqb p q n) (sym (bit_at-zero b))

module _ (𝓕 : Gf) where
  open 𝓕 use {bits}
  open K 𝓕 use {◌⊕◌, ◌⊗◌, 𝟘}

  abbrev pub element_at : List ℕ → ℕ → GF 𝓕
  element_at a p = element 𝓕 (planes_in a) p

  abbrev pub CarriesIn : ℕ → (ℕ → GF 𝓕) → List ℕ → Type 0
  CarriesIn n v a = Carries 𝓕 n v (planes_in a)

  abbrev pub everywhere : GF 𝓕 → ℕ → GF 𝓕
  everywhere a p = a

  abbrev pub symbols_of : List ℕ → ℕ → GF 𝓕
  symbols_of word p = to_f 𝓕 (get_or word p 0)

  unfoldable pub only_at : ℕ → ℕ → ℕ → GF 𝓕
  only_at q c p = to_f 𝓕 (cond (eqb p q) c 0)

  pub only_here : (q c p : ℕ) → p ≡ q → only_at q c p ≡ to_f 𝓕 c
  unfolding only_at
  only_here q c p e = ap (λ b. to_f 𝓕 (cond b c 0)) (eq-eqb p q e)

  pub only-off : (q c p : ℕ) → p ≢ q → only_at q c p ≡ 𝟘
  unfolding only_at
  only-off q c p n = ap (λ b. to_f 𝓕 (cond b c 0)) (ne_eqb p q n) ∙ to_f-zero 𝓕

  -- ---- planes with given lanes
  module _ (n c : ℕ) (f : Planes) where
    pub carries-spread : ((b : ℕ) → b < bits → f b ≡ bit_at c b * all_ones n) → Carries 𝓕 n (everywhere (to_f 𝓕 c)) f
    carries-spread e =
        carries-by 𝓕 n (λ p. c) f (λ p b h l. ap (λ x. bit_at x p) (e b l) ∙ bit_at-spread (bit_at c b) n p (bit_at_lt c b) h)

    pub carries-single : (q : ℕ) → ((b : ℕ) → b < bits → f b ≡ bit_at c b * 2 ^ q % 2 ^ n) → Carries 𝓕 n (only_at q c) f
    unfolding only_at
    carries-single q e =
        carries-by 𝓕 n (λ p. cond (eqb p q) c 0) f
        (λ p b h l. ap (λ x. bit_at x p) (e b l) ∙ bit-single (bit_at c b) q n p (bit_at_lt c b) h ∙ bit-chosen c q p b)

  pub carries-planes : (n : ℕ) (v : ℕ → ℕ) (f : Planes) → ((b : ℕ) → b < bits → f b ≡ from_bits n (λ p. bit_at (v p) b))
      → Carries 𝓕 n (λ p. to_f 𝓕 (v p)) f
  carries-planes n v f e =
      carries-by 𝓕 n v f (λ p b h l. ap (λ x. bit_at x p) (e b l) ∙ bit_at-from_bits n (λ p. bit_at (v p) b) (λ k. bit_at_lt (v k) b) p h)

  -- ---- arrays
  abbrev pub array_of : Planes → List ℕ
  array_of f = listed bits f

  pub element-array : (f : Planes) (p : ℕ) → element_at (array_of f) p ≡ element 𝓕 f p
  unfolding planes_in
  element-array f p = element-like 𝓕 _ f p p (lane-like bits _ f p p (λ b l. ap (λ x. bit_at x p) (listed_at bits b f 0 l)))

  pub none-element : (p : ℕ) → element 𝓕 (λ b. 0) p ≡ 𝟘
  none-element p = element-lane 𝓕 _ p ∙ ap (to_f 𝓕) (lane-zero bits p) ∙ to_f-zero 𝓕

  module _ (a b : List ℕ) where
    unfoldable pub sum_of : List ℕ
    sum_of = array_of (λ i. bit_xor (planes_in a i) (planes_in b i))

    pub sum-element : (p : ℕ) → element_at sum_of p ≡ element_at a p ⊕ element_at b p
    unfolding sum_of
    sum-element p = element-array _ p ∙ element-xor 𝓕 (planes_in a) (planes_in b) p

    unfoldable pub product_of : List ℕ
    product_of = array_of (Product.product_of bits (planes_in a) (planes_in b))

    pub product-element : ProductTests 𝓕 → (p : ℕ) → element_at product_of p ≡ element_at a p ⊗ element_at b p
    unfolding product_of
    product-element t p = element-array _ p ∙ element-product 𝓕 t (planes_in a) (planes_in b) p

  -- ---- powers
  module _ (n : ℕ) (v : ℕ → GF 𝓕) (a : List ℕ) where
    pub power-nil : CarriesIn n (everywhere (to_f 𝓕 1)) a → CarriesIn n (λ p. pow (K 𝓕) (v p) 0) a
    power-nil c = record { lanes = λ p l. c.lanes p l ∙ to_f-one 𝓕 ∙ sym (pow-nil (K 𝓕) _) }

    pub power-one : CarriesIn n v a → CarriesIn n (λ p. pow (K 𝓕) (v p) 1) a
    power-one c = record { lanes = λ p l. c.lanes p l ∙ sym (pow-one (K 𝓕) _) }

    pub power-next : ProductTests 𝓕 → (b : List ℕ) (j : ℕ) {r : List ℕ} → CarriesIn n (λ p. pow (K 𝓕) (v p) j) a → CarriesIn n v b → r ≡ product_of a b
        → CarriesIn n (λ p. pow (K 𝓕) (v p) (suc j)) r
    power-next t b j {r} ca cb e =
        record {
          lanes = λ p l.
              ap (λ x. element_at x p) e ∙ product-element a b t p ∙ ap₂ (λ x y. x ⊗ y) (ca.lanes p l) (cb.lanes p l) ∙ sym (pow-suc (K 𝓕) (v p) j);
        }

  -- ---- words
  unfoldable pub word_of : ℕ → List ℕ → List ℕ
  word_of n a = listed n (lane bits (planes_in a))

  pub word_of-at : (n : ℕ) (a : List ℕ) (p : ℕ) → p < n → get_or (word_of n a) p 0 ≡ lane bits (planes_in a) p
  unfolding word_of
  word_of-at n a p h = listed_at n p (lane bits (planes_in a)) 0 h

  pub word_of-element : (n : ℕ) (a : List ℕ) (p : ℕ) → p < n → element_at a p ≡ to_f 𝓕 (get_or (word_of n a) p 0)
  word_of-element n a p h = element-lane 𝓕 (planes_in a) p ∙ ap (to_f 𝓕) (sym (word_of-at n a p h))
