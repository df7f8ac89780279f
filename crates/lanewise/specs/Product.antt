-- The product of n planes by n, for any field of 2 ^ n numbers with α ^ n = α + 1: one formula in & and ^, and computed tests that it is the field's.
--
--   crossed f g k lo m   the sum of f i & g (k − i) over the m + 1 numbers i from lo on
--   product_of n f g      the planes of the product: that of α ^ (n + b) comes back at α ^ b and α ^ (b + 1)
--   doubled_of n f        the planes of α times f: each moves up by one, and the highest comes back
--   ProductTests 𝓕       on bits the first is right for the powers of α, which is enough, being additive; the second for all numbers
--   lane-product, element-product    so it is the product in every lane
--   lane-doubled, element-doubled    so it is α times what each lane holds
use Rattle.std.specs.Prelude.{Bool, true, false, cond, ◌≡◌, refl, T, eqb, ltb}
use Rattle.std.proofs.Math.Path.{ap, ap₂}
use Rattle.std.proofs.Common.{◌∙◌, arith, lt-ltb, le-ltb}
use Prim.Native.Nat.{ℕ, zero, suc, ◌+◌, ◌-◌, ◌^◌, ◌≤◌, ◌<◌}
use Rattle.std.proofs.Math.Decide.{dec_lt}
use Rattle.std.specs.Int.Bits.{bit_and, bit_xor, and_lt, xor_lt}
use Rattle.std.proofs.lemmas.Nat.{and_comm}
use Rattle.std.proofs.Math.Dec.{eqb→eq}
use Rattle.lists.specs.Every.{every, every-at, every₂, every₂-at, every₃, every₃-at}
use Rattle.lists.specs.Xor.{xor-swap, Additive, additive-ext}
use Rattle.galois.specs.Binary as Binary
use Rattle.galois.specs.BinaryField.{Gf, K, size, times, to_f, to_f-times}
use Rattle.packing.specs.Bits.{bit_at, bit_at_lt, bit_at-xor, bit_at-and, from_bits, from_bits-ext, from_bits-xor}
use Rattle.lanewise.specs.Lanes.{Planes, lane, on_bits, Bitwise, lanewise, BitwiseOne, lanewise-one}
use Rattle.lanewise.specs.Elements.{element}

unfoldable pub crossed : Planes → Planes → ℕ → ℕ → ℕ → ℕ
crossed f g k lo zero = bit_and (f lo) (g (k - lo))
crossed f g k lo (suc m) = bit_xor (crossed f g k lo m) (bit_and (f (lo + suc m)) (g (k - (lo + suc m))))

-- what comes back from α ^ (n + b)
abbrev pub beyond : ℕ → Planes → Planes → ℕ → ℕ
beyond n f g b = crossed f g (n + b) (suc b) (n - 2 - b)

-- y too, but for the highest plane
abbrev pub unless_last : ℕ → ℕ → ℕ → ℕ → ℕ
unless_last n b x y = cond (ltb (suc b) n) (bit_xor x y) x

unfoldable pub product_of : ℕ → Planes → Planes → Planes
product_of n f g zero = unless_last n 0 (crossed f g 0 0 0) (beyond n f g 0)
product_of n f g (suc b) = unless_last n (suc b) (bit_xor (crossed f g (suc b) 0 (suc b)) (beyond n f g b)) (beyond n f g (suc b))

crossed-bit : (f g : Planes) (p k lo m : ℕ) → bit_at (crossed f g k lo m) p ≡ crossed (λ i. bit_at (f i) p) (λ i. bit_at (g i) p) k lo m
unfolding crossed
crossed-bit f g p k lo zero = bit_at-and (f lo) p (g (k - lo))
crossed-bit f g p k lo (suc m) = bit_at-xor _ p _ ∙ ap₂ bit_xor (crossed-bit f g p k lo m) (bit_at-and (f (lo + suc m)) p (g (k - (lo + suc m))))

last_bit : (p n b x y : ℕ) {u v : ℕ} → bit_at x p ≡ u → bit_at y p ≡ v → bit_at (unless_last n b x y) p ≡ unless_last n b u v
last_bit p n b x y {u} {v} e d = go (ltb (suc b) n)
  where
    go : (c : Bool) → bit_at (cond c (bit_xor x y) x) p ≡ cond c (bit_xor u v) u
    go true = bit_at-xor x p y ∙ ap₂ bit_xor e d
    go false = e

module _ (n : ℕ) {f g h k : Planes} (e : (i : ℕ) → i < n → f i ≡ h i) (d : (i : ℕ) → i < n → g i ≡ k i) where
  crossed-like : (s lo m : ℕ) → lo + m < n → s - lo < n → crossed f g s lo m ≡ crossed h k s lo m
  unfolding crossed
  crossed-like s lo zero l r = ap₂ bit_and (e lo (omega arith)) (d (s - lo) r)
  crossed-like s lo (suc m) l r =
      ap₂ bit_xor (crossed-like s lo m (omega arith) r) (ap₂ bit_and (e (lo + suc m) l) (d (s - (lo + suc m)) (omega arith)))

  beyond-like : (b : ℕ) → suc b < n → beyond n f g b ≡ beyond n h k b
  beyond-like b l = crossed-like (n + b) (suc b) (n - 2 - b) (omega arith) (omega arith)

  last-like : (b : ℕ) {x y : ℕ} → x ≡ y → unless_last n b x (beyond n f g b) ≡ unless_last n b y (beyond n h k b)
  last-like b {x} {y} q = go (dec_lt (suc b) n)
    where
      go : Dec (suc b < n) → unless_last n b x (beyond n f g b) ≡ unless_last n b y (beyond n h k b)
      go (yes l) = rw (lt-ltb (suc b) n l) (ap₂ bit_xor q (beyond-like b l))
      go (no l) =
          let m : n ≤ suc b = omega arith in
          rw (le-ltb (suc b) n m) q

  product-like : (b : ℕ) → b < n → product_of n f g b ≡ product_of n h k b
  unfolding product_of
  product-like zero l = last-like 0 (crossed-like 0 0 0 (omega arith) (omega arith))
  product-like (suc b) l = last-like (suc b) (ap₂ bit_xor (crossed-like (suc b) 0 (suc b) (omega arith) (omega arith)) (beyond-like b l))

product-bit : (n : ℕ) (f g : Planes) (p b : ℕ) → bit_at (product_of n f g b) p ≡ product_of n (λ i. bit_at (f i) p) (λ i. bit_at (g i) p) b
unfolding product_of
product-bit n f g p zero = last_bit p n 0 _ _ (crossed-bit f g p 0 0 0) (crossed-bit f g p (n + 0) 1 (n - 2 - 0))
product-bit n f g p (suc b) =
    last_bit p n (suc b) _ _
    (bit_at-xor _ p _ ∙ ap₂ bit_xor (crossed-bit f g p (suc b) 0 (suc b)) (crossed-bit f g p (n + b) (suc b) (n - 2 - b)))
    (crossed-bit f g p (n + suc b) (suc (suc b)) (n - 2 - suc b))

product-bitwise : (n : ℕ) → Bitwise n (product_of n)
product-bitwise n = record { at_lane = λ f g p b l. product-bit n f g p b; first = λ f g h k e d b l. product-like n e d b l }

-- ---- α times n planes
unfoldable pub doubled_of : ℕ → Planes → Planes
doubled_of n f zero = f (n - 1)
doubled_of n f (suc zero) = bit_xor (f 0) (f (n - 1))
doubled_of n f (suc (suc b)) = f (suc b)

doubled-bitwise : (n : ℕ) → BitwiseOne n (doubled_of n)
unfolding doubled_of
doubled-bitwise n = record { at_lane = bits; first = like }
  where
    bits : (f : Planes) (p b : ℕ) → b < n → bit_at (doubled_of n f b) p ≡ doubled_of n (λ i. bit_at (f i) p) b
    bits f p zero l = refl
    bits f p (suc zero) l = bit_at-xor (f 0) p (f (n - 1))
    bits f p (suc (suc b)) l = refl

    like : (f h : Planes) → ((i : ℕ) → i < n → f i ≡ h i) → (b : ℕ) → b < n → doubled_of n f b ≡ doubled_of n h b
    like f h e zero l = e (n - 1) (omega arith)
    like f h e (suc zero) l = ap₂ bit_xor (e 0 (omega arith)) (e (n - 1) (omega arith))
    like f h e (suc (suc b)) l = e (suc b) (omega arith)

-- ---- sums: on bits the product is additive in each factor
and-sums : (x y z : ℕ) → x < 2 → y < 2 → z < 2 → bit_and (bit_xor x y) z ≡ bit_xor (bit_and x z) (bit_and y z)
unfolding every every₂ every₃
and-sums x y z hx hy hz =
    eqb→eq _ _ (every₃-at 2 (λ x y z. eqb (bit_and (bit_xor x y) z) (bit_xor (bit_and x z) (bit_and y z))) tt x y z hx hy hz)

sum-sums : {x y : ℕ} (x' y' x'' y'' : ℕ) → x ≡ bit_xor x' x'' → y ≡ bit_xor y' y'' → bit_xor x y ≡ bit_xor (bit_xor x' y') (bit_xor x'' y'')
sum-sums x' y' x'' y'' e d = ap₂ bit_xor e d ∙ xor-swap x' x'' y' y''

module _ (f g f' g' f'' g'' : Planes) (e : (i j : ℕ) → bit_and (f i) (g j) ≡ bit_xor (bit_and (f' i) (g' j)) (bit_and (f'' i) (g'' j))) where
  crossed-sums : (k lo m : ℕ) → crossed f g k lo m ≡ bit_xor (crossed f' g' k lo m) (crossed f'' g'' k lo m)
  unfolding crossed
  crossed-sums k lo zero = e lo (k - lo)
  crossed-sums k lo (suc m) =
      sum-sums (crossed f' g' k lo m) (bit_and (f' (lo + suc m)) (g' (k - (lo + suc m)))) (crossed f'' g'' k lo m)
      (bit_and (f'' (lo + suc m)) (g'' (k - (lo + suc m)))) (crossed-sums k lo m) (e (lo + suc m) (k - (lo + suc m)))

  beyond-sums : (n b : ℕ) → beyond n f g b ≡ bit_xor (beyond n f' g' b) (beyond n f'' g'' b)
  beyond-sums n b = crossed-sums (n + b) (suc b) (n - 2 - b)

  last-sums : (n b x y z : ℕ) → x ≡ bit_xor y z
      → unless_last n b x (beyond n f g b) ≡ bit_xor (unless_last n b y (beyond n f' g' b)) (unless_last n b z (beyond n f'' g'' b))
  last-sums n b x y z q = go (ltb (suc b) n)
    where
      go : (c : Bool)
          → cond c (bit_xor x (beyond n f g b)) x ≡ bit_xor (cond c (bit_xor y (beyond n f' g' b)) y) (cond c (bit_xor z (beyond n f'' g'' b)) z)
      go true = sum-sums y (beyond n f' g' b) z (beyond n f'' g'' b) q (beyond-sums n b)
      go false = q

  product-sums : (n b : ℕ) → product_of n f g b ≡ bit_xor (product_of n f' g' b) (product_of n f'' g'' b)
  unfolding product_of
  product-sums n zero = last-sums n 0 (crossed f g 0 0 0) (crossed f' g' 0 0 0) (crossed f'' g'' 0 0 0) (crossed-sums 0 0 0)
  product-sums n (suc b) =
      last-sums n (suc b) (bit_xor (crossed f g (suc b) 0 (suc b)) (beyond n f g b)) (bit_xor (crossed f' g' (suc b) 0 (suc b)) (beyond n f' g' b))
      (bit_xor (crossed f'' g'' (suc b) 0 (suc b)) (beyond n f'' g'' b))
      (sum-sums (crossed f' g' (suc b) 0 (suc b)) (beyond n f' g' b) (crossed f'' g'' (suc b) 0 (suc b)) (beyond n f'' g'' b) (crossed-sums (suc b) 0 (suc b)) (beyond-sums n b))

-- bits make bits
module _ {f g : Planes} (hf : (i : ℕ) → f i < 2) (hg : (i : ℕ) → g i < 2) where
  crossed-lt : (k lo m : ℕ) → crossed f g k lo m < 2
  unfolding crossed
  crossed-lt k lo zero = and_lt 1 (f lo) (g (k - lo)) (hf lo) (hg (k - lo))
  crossed-lt k lo (suc m) =
      xor_lt 1 (crossed f g k lo m) _ (crossed-lt k lo m) (and_lt 1 (f (lo + suc m)) (g (k - (lo + suc m))) (hf (lo + suc m)) (hg (k - (lo + suc m))))

  last-lt : (n b : ℕ) {x : ℕ} → x < 2 → unless_last n b x (beyond n f g b) < 2
  last-lt n b {x} l = go (ltb (suc b) n)
    where
      go : (c : Bool) → cond c (bit_xor x (beyond n f g b)) x < 2
      go true = xor_lt 1 x (beyond n f g b) l (crossed-lt (n + b) (suc b) (n - 2 - b))
      go false = l

  product_lt : (n b : ℕ) → product_of n f g b < 2
  unfolding product_of
  product_lt n zero = last-lt n 0 (crossed-lt 0 0 0)
  product_lt n (suc b) =
      last-lt n (suc b) (xor_lt 1 (crossed f g (suc b) 0 (suc b)) (beyond n f g b) (crossed-lt (suc b) 0 (suc b)) (crossed-lt (n + b) (suc b) (n - 2 - b)))

module _ (n : ℕ) where
  -- of the bits of two numbers
  abbrev pub bits_product : ℕ → ℕ → ℕ
  bits_product a b = on_bits n (product_of n) a b

  bits-sums : (a b a' b' a'' b'' : ℕ)
      → ((i j : ℕ) → bit_and (bit_at a i) (bit_at b j) ≡ bit_xor (bit_and (bit_at a' i) (bit_at b' j)) (bit_and (bit_at a'' i) (bit_at b'' j)))
      → bits_product a b ≡ bit_xor (bits_product a' b') (bits_product a'' b'')
  bits-sums a b a' b' a'' b'' e =
      from_bits-ext n _ _ (λ k l. product-sums (bit_at a) (bit_at b) (bit_at a') (bit_at b') (bit_at a'') (bit_at b'') e n k)
      ∙ from_bits-xor n (product_of n (bit_at a') (bit_at b')) (product_of n (bit_at a'') (bit_at b''))
      (product_lt (bit_at_lt a') (bit_at_lt b') n) (product_lt (bit_at_lt a'') (bit_at_lt b'') n)

  sums-left : (b : ℕ) → Additive (λ a. bits_product a b)
  sums-left b =
      record {
        sums = λ x y. bits-sums (bit_xor x y) b x b y b
            (λ i j. ap (λ t. bit_and t (bit_at b j)) (bit_at-xor x i y) ∙ and-sums (bit_at x i) (bit_at y i) (bit_at b j) (bit_at_lt x i) (bit_at_lt y i) (bit_at_lt b j));
      }

  sums-right : (a : ℕ) → Additive (bits_product a)
  sums-right a =
      record {
        sums = λ x y. bits-sums a (bit_xor x y) a x a y
            (λ i j.
            and_comm (bit_at a i) (bit_at (bit_xor x y) j) ∙ ap (λ t. bit_and t (bit_at a i)) (bit_at-xor x j y)
            ∙ and-sums (bit_at x j) (bit_at y j) (bit_at a i) (bit_at_lt x j) (bit_at_lt y j) (bit_at_lt a i)
            ∙ ap₂ bit_xor (and_comm (bit_at x j) (bit_at a i)) (and_comm (bit_at y j) (bit_at a i)));
      }

-- ---- the field's
module _ (𝓕 : Gf) where
  open 𝓕 use {bits, red, known}
  open K 𝓕 use {◌⊗◌}

  unfoldable pub is_product : ℕ → ℕ → Bool
  is_product i j = eqb (bits_product bits (2 ^ i) (2 ^ j)) (times 𝓕 (2 ^ i) (2 ^ j))

  unfoldable pub is_double : ℕ → Bool
  is_double a = eqb (from_bits bits (doubled_of bits (bit_at a))) (times 𝓕 2 a)

  pub record ProductTests : Type 0 where
    pub products : T (every₂ bits is_product)
    pub doubles : T (every (size 𝓕) is_double)

  module _ (t : ProductTests) where
    product-right : (a b : ℕ) → a < size 𝓕 → b < size 𝓕 → bits_product bits a b ≡ times 𝓕 a b
    unfolding is_product
    product-right a b ha hb =
        additive-ext bits (sums-left bits b) (Binary.times-sums-left bits red known b)
        (λ i hi. additive-ext bits (sums-right bits (2 ^ i)) (Binary.times-sums-right bits red (2 ^ i))
        (λ j hj. eqb→eq _ _ (every₂-at bits is_product t.products i j hi hj)) b hb)
        a ha

    double-right : (a : ℕ) → a < size 𝓕 → from_bits bits (doubled_of bits (bit_at a)) ≡ times 𝓕 2 a
    unfolding is_double
    double-right a h = eqb→eq _ _ (every-at (size 𝓕) is_double t.doubles a h)

    module _ (f : Planes) where
      pub lane-product : (g : Planes) (p : ℕ) → lane bits (product_of bits f g) p ≡ times 𝓕 (lane bits f p) (lane bits g p)
      lane-product g p = lanewise bits (product_of bits) (product-bitwise bits) (times 𝓕) product-right f g p

      pub lane-doubled : (p : ℕ) → lane bits (doubled_of bits f) p ≡ times 𝓕 2 (lane bits f p)
      lane-doubled p = lanewise-one bits (doubled_of bits) (doubled-bitwise bits) (times 𝓕 2) double-right f p

      pub element-product : (g : Planes) (p : ℕ) → element 𝓕 (product_of bits f g) p ≡ element 𝓕 f p ⊗ element 𝓕 g p
      unfolding element
      element-product g p = ap (to_f 𝓕) (lane-product g p) ∙ to_f-times 𝓕 _ _

      pub element-doubled : (p : ℕ) → element 𝓕 (doubled_of bits f) p ≡ to_f 𝓕 2 ⊗ element 𝓕 f p
      unfolding element
      element-doubled p = ap (to_f 𝓕) (lane-doubled p) ∙ to_f-times 𝓕 2 _
