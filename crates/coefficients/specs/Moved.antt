-- Lanes that meet: sums over neighbours, lanes moved apart, and a few lanes repeated, for any field and any planes.
--
--   folded s f            planes whose lane p is the sum of the 2 ^ s lanes from p on (element-folded)
--   Marks w n m           m has the bits 0, w, 2w, … below n, and no other there
--   placed_at m j n f      what m keeps, moved up by j within the width n; element-placed: lane x·w at x·w + j, and 0 between
--   element_spread        what is placed last of each w = 2 ^ s and then folded stands at all of them: lane x·w at each lane with this x
--   Repeats w n m         a number below 2 ^ w times m has its bits again and again, below n
--   marks-tested, repeats-tested    both by tests that are computed
--   repeated_at w m x f    the w lanes from x·w on, repeated; element-repeated: lane p has that of x·w + p % w
use Rattle.std.specs.Prelude.{Bool, ◌≢◌, ◌≡◌, T, eqb}
use Rattle.std.proofs.Math.Path.{sym, ap, ap₂}
use Rattle.std.proofs.Common.{◌∙◌, mod-lt, mod-eq_of_lt, lt_of_lt_of_le, eqb→eq, pow_mono, eq-eqb, ne_eqb}
use Prim.Native.Nat.{ℕ, zero, suc, ◌+◌, ◌-◌, ◌*◌, ◌/◌, ◌%◌, ◌^◌, ◌<◌, ◌≤◌}
use Rattle.std.proofs.Math.Nat.{pow-suc, mul-add-mod_self_right}
use Rattle.std.proofs.Math.Nat as Nat
use Rattle.std.proofs.Math.Decide.{dec_lt}
use native.Mathlib.Omega.{arith}
use Rattle.std.specs.Int.Bits.{bit_and, bit_xor}
use Rattle.std.proofs.Math.Pow.{pow_pos}
use Rattle.lists.specs.Count.{bit}
use Rattle.lists.specs.Every.{every, every-at}
use Rattle.algebra.specs.Field.{zero-add, zero-mul, one-mul}
use Rattle.algebra.specs.Sum.{sum, sum-nil, sum-suc, sum-ext, sum-append, sum-single}
use Rattle.algebra.specs.Coefficients.{unit, unit-at, unit-off}
use Rattle.galois.specs.BinaryField.{Gf, K, to_f, to_f-zero}
use Rattle.packing.specs.Bits.{bit_at, bit_at-zero, bit_at-above, bit_at-down, bit_at-kept}
use Rattle.planes.specs.Lanes.{Planes, lane, lane-like, lane-zero, lane-down, lane-up, lane_under, lane-kept, lane-emptied}
use Rattle.planes.specs.Elements.{element, element-like, element-lane, element-xor}

pub record Marks (w n m : ℕ) : Type 0 where
  pub at_blocks : (x : ℕ) → x * w < n → bit_at m (x * w) ≡ 1
  pub between : (x k : ℕ) → 0 < k → k < w → x * w + k < n → bit_at m (x * w + k) ≡ 0

unfoldable pub placed_at : ℕ → ℕ → ℕ → Planes → Planes
placed_at m j n f b = bit_and (f b) m * 2 ^ j % 2 ^ n

pub record Repeats (w n m : ℕ) : Type 0 where
  pub repeated : (a p : ℕ) → a < 2 ^ w → p < n → bit_at (a * m) p ≡ bit_at a (p % w)

unfoldable pub repeated_at : ℕ → ℕ → ℕ → Planes → Planes
repeated_at w m x f b = f b / 2 ^ (x * w) % 2 ^ w * m

-- ---- masks by their tests
unfoldable pub marks_at : ℕ → ℕ → ℕ → Bool
marks_at w m p = eqb (bit_at m p) (bit (eqb (p % w) 0))

pub marks-tested : (w n m : ℕ) → 0 < w → T (every n (marks_at w m)) → Marks w n m
unfolding marks_at
marks-tested w n m pos t =
    record {
      at_blocks = λ x h.
          let e : x * w + 0 ≡ x * w = omega arith in
          at (x * w) h ∙ ap bit (eq-eqb _ _ (ap (λ p. p % w) (sym e) ∙ rest x 0 pos));
      between = λ x k a b h. at (x * w + k) h ∙ ap bit (ne_eqb _ _ (λ z. let q : k ≡ 0 = sym (rest x k b) ∙ z in absurd (omega arith)));
    }
  where
    at : (p : ℕ) → p < n → bit_at m p ≡ bit (eqb (p % w) 0)
    at p h = eqb→eq _ _ (every-at n (marks_at w m) t p h)

    rest : (x k : ℕ) → k < w → (x * w + k) % w ≡ k
    rest x k l = mul-add-mod_self_right x w k ∙ mod-eq_of_lt l

unfoldable pub repeats_at : ℕ → ℕ → ℕ → ℕ → Bool
repeats_at w m a p = eqb (bit_at (a * m) p) (bit_at a (p % w))

pub repeats-tested : (w n m : ℕ) → T (every (2 ^ w) (λ a. every n (repeats_at w m a))) → Repeats w n m
unfolding repeats_at
repeats-tested w n m t =
    record { repeated = λ a p l h. eqb→eq _ _ (every-at n (repeats_at w m a) (every-at (2 ^ w) (λ a. every n (repeats_at w m a)) t a l) p h) }

module _ (𝓕 : Gf) where
  open K 𝓕 use {◌⊕◌, ◌⊗◌, 𝟘}

  unfoldable pub folded : ℕ → Planes → Planes
  folded zero f = f
  folded (suc s) f = λ b. bit_xor (folded s f b) (folded s f b / 2 ^ (2 ^ s))

  pub element-folded : (s : ℕ) (f : Planes) (p : ℕ) → element 𝓕 (folded s f) p ≡ sum (K 𝓕) (2 ^ s) (λ r. element 𝓕 f (p + r))
  unfolding folded
  element-folded zero f p =
      let e : p + 0 ≡ p = omega arith in
      sym (sum-suc (K 𝓕) 0 _ ∙ ap₂ (λ x y. x ⊕ y) (sum-nil (K 𝓕) _) (ap (element 𝓕 f) e) ∙ zero-add (K 𝓕) _)
  element-folded (suc s) f p =
      let e : 2 ^ s + 2 ^ s ≡ 2 ^ suc s = omega (arith, pow-suc 2 s) in
      element-xor 𝓕 (folded s f) (λ b. folded s f b / 2 ^ (2 ^ s)) p
      ∙ ap₂ (λ x y. x ⊕ y) (element-folded s f p)
      (element-like 𝓕 _ (folded s f) p (2 ^ s + p) (lane-down 𝓕.bits (folded s f) p (2 ^ s)) ∙ element-folded s f (2 ^ s + p)
      ∙ sum-ext (K 𝓕) (2 ^ s) _ _ (λ r l. let d : 2 ^ s + p + r ≡ p + (2 ^ s + r) = omega arith in ap (element 𝓕 f) d))
      ∙ sym (sum-append (K 𝓕) (2 ^ s) (2 ^ s) _)
      ∙ ap (λ n. sum (K 𝓕) n (λ r. element 𝓕 f (p + r))) e

  -- ---- one lane of each w, moved up
  element-zero : (f : Planes) (p : ℕ) → lane 𝓕.bits f p ≡ 0 → element 𝓕 f p ≡ 𝟘
  element-zero f p e = element-lane 𝓕 f p ∙ ap (to_f 𝓕) e ∙ to_f-zero 𝓕

  module _ (w n m : ℕ) (marks : Marks w n m) (f : Planes) (j : ℕ) (small : j < w) where
    open marks use {at_blocks, between}

    -- the lane of j and p, where p is a lane that the mask keeps, or one that it empties
    placed-up : (p o : ℕ) → o ≡ j + p → o < n → element 𝓕 (placed_at m j n f) o ≡ element 𝓕 (λ b. bit_and (f b) m) p
    unfolding placed_at
    placed-up p o e h =
        ap (element 𝓕 (placed_at m j n f)) e
        ∙ element-like 𝓕 (placed_at m j n f) (λ b. bit_and (f b) m) (j + p) p (lane-up 𝓕.bits (λ b. bit_and (f b) m) j n p (omega arith))

    placed-between : (x k o : ℕ) → 0 < k → k < w → o ≡ j + (x * w + k) → o < n → element 𝓕 (placed_at m j n f) o ≡ 𝟘
    placed-between x k o h l e b =
        placed-up (x * w + k) o e b
        ∙ element-zero (λ b. bit_and (f b) m) (x * w + k) (lane-emptied 𝓕.bits f m (x * w + k) (between x k h l (omega arith)))

    placed-low : (k : ℕ) → k < j → k < n → element 𝓕 (placed_at m j n f) k ≡ 𝟘
    unfolding placed_at
    placed-low k h b = element-zero (placed_at m j n f) k (lane_under 𝓕.bits (λ b. bit_and (f b) m) j n k h b)

    pub element-placed : (x k : ℕ) → k < w → x * w + k < n → element 𝓕 (placed_at m j n f) (x * w + k) ≡ unit (K 𝓕) j k ⊗ element 𝓕 f (x * w)
    element-placed x k l b = go x (dec_lt k j) (dec_lt j k) b
      where
        off : (x : ℕ) → k ≢ j → element 𝓕 (placed_at m j n f) (x * w + k) ≡ 𝟘 → element 𝓕 (placed_at m j n f) (x * w + k) ≡ unit (K 𝓕) j k ⊗ element 𝓕 f (x * w)
        off x d e = e ∙ sym (ap (λ u. u ⊗ element 𝓕 f (x * w)) (unit-off (K 𝓕) j k d) ∙ zero-mul (K 𝓕) _)

        go : (x : ℕ) → Dec (k < j) → Dec (j < k) → x * w + k < n → element 𝓕 (placed_at m j n f) (x * w + k) ≡ unit (K 𝓕) j k ⊗ element 𝓕 f (x * w)
        go zero (yes h) d b =
            off zero (λ (e : k ≡ j). omega arith)
            (let z : 0 * w + k ≡ k = omega (arith, Nat.zero-mul w) in ap (element 𝓕 (placed_at m j n f)) z ∙ placed-low k h (omega arith))
        go (suc x) (yes h) d b =
            off (suc x) (λ (e : k ≡ j). omega arith)
            (placed-between x (w + k - j) (suc x * w + k) (omega arith) (omega arith) (omega (arith, Nat.suc-mul x w)) b)
        go x (no h) (yes d) b =
            off x (λ (e : k ≡ j). omega arith) (placed-between x (k - j) (x * w + k) (omega arith) (omega arith) (omega arith) b)
        go x (no h) (no d) b =
            let e : k ≡ j = omega arith in
            placed-up (x * w) (x * w + k) (omega arith) b
            ∙ element-like 𝓕 (λ b. bit_and (f b) m) f (x * w) (x * w) (lane-kept 𝓕.bits f m (x * w) (at_blocks x (omega arith)))
            ∙ sym (ap (λ u. u ⊗ element 𝓕 f (x * w)) (ap (unit (K 𝓕) j) e ∙ unit-at (K 𝓕) j) ∙ one-mul (K 𝓕) _)

  -- nothing is placed beyond the width
  placed-beyond : (m j n : ℕ) (f : Planes) (p : ℕ) → n ≤ p → element 𝓕 (placed_at m j n f) p ≡ 𝟘
  unfolding placed_at
  placed-beyond m j n f p h =
      element-zero (placed_at m j n f) p
      (lane-like 𝓕.bits (placed_at m j n f) (λ b. 0) p p (λ b l.
      bit_at-above (bit_and (f b) m * 2 ^ j % 2 ^ n) p (lt_of_lt_of_le (mod-lt (bit_and (f b) m * 2 ^ j) (pow_pos n)) (pow_mono h)) ∙ sym (bit_at-zero p))
      ∙ lane-zero 𝓕.bits p)

  -- ---- one lane of each w at all of them
  module _ (s n m : ℕ) (marks : Marks (2 ^ s) n m) (f : Planes) where
    w : ℕ
    w = 2 ^ s

    last : ℕ
    last = w - 1

    placed : (x k : ℕ) → k < w → x * w + k < n → element 𝓕 (placed_at m last n f) (x * w + k) ≡ unit (K 𝓕) last k ⊗ element 𝓕 f (x * w)
    unfolding w last
    placed x k l h = element-placed w n m marks f last (omega (arith, pow_pos s)) x k l h

    off : (x k : ℕ) → k < w → k ≢ last → element 𝓕 (placed_at m last n f) (x * w + k) ≡ 𝟘
    off x k l d = go (dec_lt (x * w + k) n)
      where
        go : Dec (x * w + k < n) → element 𝓕 (placed_at m last n f) (x * w + k) ≡ 𝟘
        go (yes h) = placed x k l h ∙ ap (λ u. u ⊗ element 𝓕 f (x * w)) (unit-off (K 𝓕) last k d) ∙ zero-mul (K 𝓕) _
        go (no h) = placed-beyond m last n f (x * w + k) (omega arith)

    pub element_spread : (x k : ℕ) → k < 2 ^ s → x * 2 ^ s + 2 ^ s ≤ n → element 𝓕 (folded s (placed_at m (2 ^ s - 1) n f)) (x * 2 ^ s + k) ≡ element 𝓕 f (x * 2 ^ s)
    unfolding w last
    element_spread x k l h =
        let e : x * w + k + (last - k) ≡ x * w + last = omega arith in
        element-folded s (placed_at m last n f) (x * w + k)
        ∙ sum-single (K 𝓕) w (last - k) _ (omega arith) (λ r b d. others r b d)
        ∙ ap (element 𝓕 (placed_at m last n f)) e ∙ placed x last (omega arith) (omega arith)
        ∙ ap (λ u. u ⊗ element 𝓕 f (x * w)) (unit-at (K 𝓕) last) ∙ one-mul (K 𝓕) _
      where
        others : (r : ℕ) → r < w → r ≢ last - k → element 𝓕 (placed_at m last n f) (x * w + k + r) ≡ 𝟘
        others r b d = go (dec_lt (k + r) w)
          where
            go : Dec (k + r < w) → element 𝓕 (placed_at m last n f) (x * w + k + r) ≡ 𝟘
            go (yes i) =
                let e : x * w + k + r ≡ x * w + (k + r) = omega arith in
                ap (element 𝓕 (placed_at m last n f)) e ∙ off x (k + r) i (λ (q : k + r ≡ last). d (omega arith))
            go (no i) =
                let e : x * w + k + r ≡ suc x * w + (k + r - w) = omega (arith, Nat.suc-mul x w) in
                ap (element 𝓕 (placed_at m last n f)) e ∙ off (suc x) (k + r - w) (omega arith) (λ (q : k + r - w ≡ last). absurd (omega arith))

  -- ---- w lanes, repeated
  pub element-repeated : (w n m : ℕ) → 0 < w → Repeats w n m → (f : Planes) (x p : ℕ) → p < n
      → element 𝓕 (repeated_at w m x f) p ≡ element 𝓕 f (x * w + p % w)
  unfolding repeated_at
  element-repeated w n m pos again f x p h =
      element-like 𝓕 (repeated_at w m x f) f p (x * w + p % w)
      (lane-like 𝓕.bits (repeated_at w m x f) f p (x * w + p % w) (λ b l.
      again.repeated (f b / 2 ^ (x * w) % 2 ^ w) p (mod-lt _ (pow_pos w)) h
      ∙ bit_at-kept (f b / 2 ^ (x * w)) (p % w) w (mod-lt p pos)
      ∙ bit_at-down (f b) (p % w) (x * w)))
