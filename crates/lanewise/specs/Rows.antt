-- Rows of two parts, for any field: the values of a polynomial Q0 + Q1 z, as many planes as the field has bits with a symbol for z at each lane, and
-- as many of Q1, its slope in z.
--
--   part_of h row           the planes of part h: 0 the whole, 1 the slope
--   value_at h row p        the element at lane p of part h
--   row_of f g              the row with these planes; value-whole-of, value-slope-of: its lanes
--   part_in h row, value-part   a part as an array
--   joined_of a b, whole-joined, slope-joined   a row by its parts as arrays
--   row_sum_of a b, value-sum    the sum in every lane of both parts
--   doubled_row row, value-doubled    α times a row
--   split_by               the values of Q0: those of Q and the symbols for z times the slopes
--   Added row by other r   in every lane a row plus by times another
--   added-nothing, added_is   nothing is added; by a number of the same element
--   Raised n x row a r     at every lane below n, where x is given, x + a times a row; raised_by
--   Moved n row q c r      the same slopes, and the same values but at lane q, where c times the slope is added; moved_by
use Rattle.std.specs.Prelude.{◌≢◌, ◌≡◌, refl, List, ◌++◌}
use Rattle.std.proofs.Common.{sym, ap₂, ◌∙◌}
use Rattle.std.proofs.Math.Path.{ap}
use Prim.Native.Nat.{ℕ, zero, suc, ◌+◌, ◌-◌, ◌*◌, ◌<◌}
use native.Mathlib.Omega.{arith}
use Rattle.std.specs.Int.Bits.{bit_xor}
use Rattle.std.proofs.Math.ListN.{length, get_or, get_or-append}
use Rattle.std.proofs.Math.Seq.{get_or-append-add}
use Rattle.lists.specs.Listed.{listed, listed_at, listed-length}
use Rattle.algebra.specs.Field.{add-zero, zero-mul}
use Rattle.galois.specs.BinaryField.{Gf, GF, K, times, to_f, to_f-times}
use Rattle.packing.specs.Bits.{bit_at}
use Rattle.lanewise.specs.Lanes.{Planes, lane-like}
use Rattle.lanewise.specs.Elements.{element, element-like, element-xor}
use Rattle.lanewise.specs.Product.{ProductTests, doubled_of, element-doubled}
use Rattle.lanewise.specs.Arrays.{planes_in, element_at, CarriesIn, everywhere, only_at, only_here, only-off, array_of, element-array, sum_of, sum-element, product_of, product-element}

module _ (𝓕 : Gf) where
  open 𝓕 use {bits}
  open K 𝓕 use {◌⊕◌, ◌⊗◌, 𝟘}

  unfoldable pub part_of : ℕ → List ℕ → Planes
  part_of h row b = get_or row (h * bits + b) 0

  abbrev pub value_at : ℕ → List ℕ → ℕ → GF 𝓕
  value_at h row p = element 𝓕 (part_of h row) p

  -- ---- rows by their planes
  abbrev pub row_of : Planes → Planes → List ℕ
  row_of f g = listed bits f ++ listed bits g

  module _ (f g : Planes) (p : ℕ) where
    pub value-whole-of : value_at 0 (row_of f g) p ≡ element 𝓕 f p
    unfolding part_of
    value-whole-of =
        element-like 𝓕 _ f p p
        (lane-like bits _ f p p
        (λ b l.
        let z : 0 * bits + b ≡ b = omega arith in
        ap (λ x. bit_at x p)
        (ap (λ k. get_or (row_of f g) k 0) z ∙ get_or-append (listed bits f) (listed bits g) 0 b (omega (arith, listed-length bits f)) ∙ listed_at bits b f 0 l)))

    pub value-slope-of : value_at 1 (row_of f g) p ≡ element 𝓕 g p
    unfolding part_of
    value-slope-of =
        element-like 𝓕 _ g p p
        (lane-like bits _ g p p
        (λ b l.
        let z : 1 * bits + b ≡ length (listed bits f) + b = omega (arith, listed-length bits f) in
        ap (λ x. bit_at x p)
        (ap (λ k. get_or (row_of f g) k 0) z ∙ get_or-append-add (listed bits f) (listed bits g) b 0 ∙ listed_at bits b g 0 l)))

  -- ---- rows and their parts
  unfoldable pub part_in : ℕ → List ℕ → List ℕ
  part_in h row = array_of 𝓕 (part_of h row)

  pub value-part : (h : ℕ) (row : List ℕ) (p : ℕ) → element_at 𝓕 (part_in h row) p ≡ value_at h row p
  unfolding part_in
  value-part h row p = element-array 𝓕 (part_of h row) p

  module _ (a b : List ℕ) where
    unfoldable pub joined_of : List ℕ
    joined_of = row_of (planes_in a) (planes_in b)

    pub whole-joined : (p : ℕ) → value_at 0 joined_of p ≡ element_at 𝓕 a p
    unfolding joined_of
    whole-joined p = value-whole-of (planes_in a) (planes_in b) p

    pub slope-joined : (p : ℕ) → value_at 1 joined_of p ≡ element_at 𝓕 b p
    unfolding joined_of
    slope-joined p = value-slope-of (planes_in a) (planes_in b) p

  -- ---- sums, and α times a row
  abbrev pub sum_in : ℕ → List ℕ → List ℕ → Planes
  sum_in h a b i = bit_xor (part_of h a i) (part_of h b i)

  module _ (a b : List ℕ) where
    unfoldable pub row_sum_of : List ℕ
    row_sum_of = row_of (sum_in 0 a b) (sum_in 1 a b)

    pub value-sum : (h p : ℕ) → h < 2 → value_at h row_sum_of p ≡ value_at h a p ⊕ value_at h b p
    unfolding row_sum_of
    value-sum zero p l = value-whole-of (sum_in 0 a b) (sum_in 1 a b) p ∙ element-xor 𝓕 (part_of 0 a) (part_of 0 b) p
    value-sum (suc zero) p l = value-slope-of (sum_in 0 a b) (sum_in 1 a b) p ∙ element-xor 𝓕 (part_of 1 a) (part_of 1 b) p
    value-sum (suc (suc h)) p l = absurd (omega arith)

  module _ (row : List ℕ) where
    unfoldable pub doubled_row : List ℕ
    doubled_row = row_of (doubled_of bits (part_of 0 row)) (doubled_of bits (part_of 1 row))

    pub value-doubled : ProductTests 𝓕 → (h p : ℕ) → h < 2 → value_at h doubled_row p ≡ to_f 𝓕 2 ⊗ value_at h row p
    unfolding doubled_row
    value-doubled t zero p l = value-whole-of _ _ p ∙ element-doubled 𝓕 t (part_of 0 row) p
    value-doubled t (suc zero) p l = value-slope-of _ _ p ∙ element-doubled 𝓕 t (part_of 1 row) p
    value-doubled t (suc (suc h)) p l = absurd (omega arith)

  -- ---- the values of Q0: those of Q and the symbols times the slopes
  pub split_by : ProductTests 𝓕 → {n : ℕ} {x : ℕ → GF 𝓕} (row symbols : List ℕ) {w s m v : List ℕ} → w ≡ part_in 0 row → CarriesIn 𝓕 n x symbols → s ≡ part_in 1 row
      → m ≡ product_of 𝓕 symbols s → v ≡ sum_of 𝓕 w m → (p : ℕ) → p < n → element_at 𝓕 v p ≡ value_at 0 row p ⊕ x p ⊗ value_at 1 row p
  split_by t row symbols {w} {s} {m} {v} ew carried es em ev p l =
      ap (λ a. element_at 𝓕 a p) ev ∙ sum-element 𝓕 w m p
      ∙ ap₂ (λ a b. a ⊕ b) (ap (λ a. element_at 𝓕 a p) ew ∙ value-part 0 row p)
      (ap (λ a. element_at 𝓕 a p) em ∙ product-element 𝓕 symbols s t p
      ∙ ap₂ (λ a b. a ⊗ b) (carried.lanes p l) (ap (λ a. element_at 𝓕 a p) es ∙ value-part 1 row p))

  -- ---- a multiple of another row, added
  pub record Added (row : List ℕ) (by : ℕ) (other r : List ℕ) : Type 0 where
    pub lanes : (h p : ℕ) → h < 2 → value_at h r p ≡ value_at h row p ⊕ to_f 𝓕 by ⊗ value_at h other p

  pub added-nothing : {row other : List ℕ} (by : ℕ) → to_f 𝓕 by ≡ 𝟘 → Added row by other row
  added-nothing {row} {other} by z =
      record {
        lanes = λ h p l.
            sym (ap (λ x. value_at h row p ⊕ x ⊗ value_at h other p) z ∙ ap (λ x. value_at h row p ⊕ x) (zero-mul (K 𝓕) _) ∙ add-zero (K 𝓕) _);
      }

  pub added_is : {row other r : List ℕ} {by : ℕ} (c : ℕ) → to_f 𝓕 by ≡ to_f 𝓕 c → Added row by other r → Added row c other r
  added_is {row} {other} c e A = record { lanes = λ h p l. A.lanes h p l ∙ ap (λ x. value_at h row p ⊕ x ⊗ value_at h other p) e }

  -- ---- x + a times a row
  pub record Raised (n : ℕ) (x : ℕ → GF 𝓕) (row : List ℕ) (a : ℕ) (r : List ℕ) : Type 0 where
    pub lanes : (h p : ℕ) → h < 2 → p < n → value_at h r p ≡ (x p ⊕ to_f 𝓕 a) ⊗ value_at h row p

  pub raised_by : ProductTests 𝓕 → {n : ℕ} {x : ℕ → GF 𝓕} (row : List ℕ) (a : ℕ) (xs c : List ℕ) {by w s bw bs r : List ℕ} → CarriesIn 𝓕 n x xs
      → CarriesIn 𝓕 n (everywhere 𝓕 (to_f 𝓕 a)) c → by ≡ sum_of 𝓕 xs c → w ≡ part_in 0 row → bw ≡ product_of 𝓕 by w → s ≡ part_in 1 row
      → bs ≡ product_of 𝓕 by s → r ≡ joined_of bw bs → Raised n x row a r
  raised_by t {n} {x} row a xs c {by} {w} {s} {bw} {bs} {r} cx ca eb ew ebw es ebs er = record { lanes = parts }
    where
      factor : (p : ℕ) → p < n → element_at 𝓕 by p ≡ x p ⊕ to_f 𝓕 a
      factor p l = ap (λ v. element_at 𝓕 v p) eb ∙ sum-element 𝓕 xs c p ∙ ap₂ (λ u v. u ⊕ v) (cx.lanes p l) (ca.lanes p l)

      parts : (h p : ℕ) → h < 2 → p < n → value_at h r p ≡ (x p ⊕ to_f 𝓕 a) ⊗ value_at h row p
      parts zero p l k =
          ap (λ v. value_at 0 v p) er ∙ whole-joined bw bs p ∙ ap (λ v. element_at 𝓕 v p) ebw ∙ product-element 𝓕 by w t p
          ∙ ap₂ (λ u v. u ⊗ v) (factor p k) (ap (λ v. element_at 𝓕 v p) ew ∙ value-part 0 row p)
      parts (suc zero) p l k =
          ap (λ v. value_at 1 v p) er ∙ slope-joined bw bs p ∙ ap (λ v. element_at 𝓕 v p) ebs ∙ product-element 𝓕 by s t p
          ∙ ap₂ (λ u v. u ⊗ v) (factor p k) (ap (λ v. element_at 𝓕 v p) es ∙ value-part 1 row p)
      parts (suc (suc h)) p l k = absurd (omega arith)

  -- ---- another symbol at one lane
  pub record Moved (n : ℕ) (row : List ℕ) (q c : ℕ) (r : List ℕ) : Type 0 where
    pub slopes : (p : ℕ) → value_at 1 r p ≡ value_at 1 row p
    pub here : value_at 0 r q ≡ value_at 0 row q ⊕ to_f 𝓕 c ⊗ value_at 1 row q
    pub elsewhere : (p : ℕ) → p < n → p ≢ q → value_at 0 r p ≡ value_at 0 row p

  pub moved_by : {n : ℕ} (row : List ℕ) (q c d : ℕ) (one : List ℕ) {w s there r : List ℕ} {by : ℕ} → q < n → s ≡ part_in 1 row → to_f 𝓕 d ≡ element_at 𝓕 s q
      → by ≡ times 𝓕 c d → w ≡ part_in 0 row → CarriesIn 𝓕 n (only_at 𝓕 q by) one → there ≡ sum_of 𝓕 w one → r ≡ joined_of there s → Moved n row q c r
  moved_by {n} row q c d one {w} {s} {there} {r} {by} l es ed eb ew single et er =
      record {
        slopes = λ p. ap (λ v. value_at 1 v p) er ∙ slope-joined there s p ∙ ap (λ v. element_at 𝓕 v p) es ∙ value-part 1 row p;
        here = whole q l ∙ ap (λ x. value_at 0 row q ⊕ x) (only_here 𝓕 q by q refl ∙ factor);
        elsewhere = λ p h m. whole p h ∙ ap (λ x. value_at 0 row p ⊕ x) (only-off 𝓕 q by p m) ∙ add-zero (K 𝓕) _;
      }
    where
      whole : (p : ℕ) → p < n → value_at 0 r p ≡ value_at 0 row p ⊕ only_at 𝓕 q by p
      whole p h =
          ap (λ v. value_at 0 v p) er ∙ whole-joined there s p ∙ ap (λ v. element_at 𝓕 v p) et ∙ sum-element 𝓕 w one p
          ∙ ap₂ (λ u v. u ⊕ v) (ap (λ v. element_at 𝓕 v p) ew ∙ value-part 0 row p) (single.lanes p h)

      factor : to_f 𝓕 by ≡ to_f 𝓕 c ⊗ value_at 1 row q
      factor =
          ap (to_f 𝓕) eb ∙ to_f-times 𝓕 c d
          ∙ ap (λ x. to_f 𝓕 c ⊗ x) (ed ∙ ap (λ v. element_at 𝓕 v q) es ∙ value-part 1 row q)
