-- One lane of each four at all of them: what a mask keeps of a plane, and that moved up by 1, 2 and 3.
--
--   broad_of j a     what is done to each plane
--   Broad a j r     the family's, at this member: r holds at each lane lane j of its four
--   broad-by        so it does if each of its planes is so made
use Rattle.std.specs.Prelude.{◌≡◌, List, [], ◌∷◌, ℕ, ◌+◌, ◌*◌, ◌/◌, ◌%◌, ◌^◌, ◌<◌, get_or}
use Rattle.std.proofs.Math.Path.{sym, ap}
use Rattle.std.proofs.Common.{ap₂, ◌∙◌, lit<}
use native.Mathlib.Omega.{arith}
use Rattle.std.specs.Int.Bits.{bit_and, bit_xor}
use Rattle.algebra.specs.Field.{zero-mul, one-mul, zero-add}
use Rattle.algebra.specs.Sum.{sum-nil, sum-suc, sum-single}
use Rattle.algebra.specs.Coefficients.{unit, unit-at, unit-off}
use Rattle.galois.specs.Gf16.{gf16}
use Rattle.galois.specs.Field16.{GF, K16}
use Rattle.packing.specs.Bits.{from_bits}
use Rattle.planes.specs.Lanes.{Planes, lane, lane-up, lane-down}
use Rattle.planes.specs.Elements.{element, element-like, element-xor}
use Rattle.planes.specs.Arrays.{planes_in, element_at}
use Rattle.coefficients.specs.Moved.{placed_at, element-placed}
use Rattle.coefficients.specs.Fourths.{marks-16}
use Rattle.coefficients.specs.Reading.{marks}
use Rattle.family.specs.Member.{m16, places}
use Rattle.functions.specs.Values as Values
open K16 use {◌⊕◌, ◌⊗◌}

-- the lanes that are kept, and moved up by 1, 2 and 3
abbrev pub first_of : ℕ → ℕ → ℕ
first_of j a = bit_and (a / 2 ^ j) marks

abbrev pub up_of : ℕ → ℕ → ℕ
up_of k a = a * 2 ^ k % 2 ^ places m16

abbrev pub broad_of : ℕ → ℕ → ℕ
broad_of j a = bit_xor (bit_xor (bit_xor (first_of j a) (up_of 1 (first_of j a))) (up_of 2 (first_of j a))) (up_of 3 (first_of j a))

abbrev pub Broad : List ℕ → ℕ → List ℕ → Type 0
Broad a j r = Values.Broad m16 (element_at a) j (element_at r)

-- a sum of four in which one counts
four-units : (k : ℕ) → k < 4 → (u : GF)
    → ((unit K16 0 k ⊗ u ⊕ unit K16 1 k ⊗ u) ⊕ unit K16 2 k ⊗ u) ⊕ unit K16 3 k ⊗ u ≡ u
four-units k h u =
    sym
    (sum-suc K16 3 _
    ∙ ap (λ s. s ⊕ unit K16 3 k ⊗ u)
    (sum-suc K16 2 _
    ∙ ap (λ s. s ⊕ unit K16 2 k ⊗ u)
    (sum-suc K16 1 _ ∙ ap (λ s. s ⊕ unit K16 1 k ⊗ u) (sum-suc K16 0 _ ∙ ap (λ s. s ⊕ unit K16 0 k ⊗ u) (sum-nil K16 _) ∙ zero-add K16 _))))
    ∙ sum-single K16 4 k (λ j. unit K16 j k ⊗ u) h (λ j l d. ap (λ v. v ⊗ u) (unit-off K16 j k (λ q. d (sym q))) ∙ zero-mul K16 _)
    ∙ ap (λ v. v ⊗ u) (unit-at K16 k) ∙ one-mul K16 _

module _ (f : Planes) where
  -- the lanes that the mask keeps
  kept : Planes
  kept b = bit_and (f b) marks

  up : ℕ → Planes
  up = λ k b. up_of k (kept b)

  up-element : (j : ℕ) → j < 4 → (x k : ℕ) → k < 4 → x * 4 + k < 64 → element gf16 (up j) (x * 4 + k) ≡ unit K16 j k ⊗ element gf16 f (x * 4)
  unfolding placed_at up kept
  up-element j s x k l h = element-placed gf16 4 64 marks marks-16 f j s x k l h

  kept-element : (x k : ℕ) → k < 4 → x * 4 + k < 64 → element gf16 kept (x * 4 + k) ≡ unit K16 0 k ⊗ element gf16 f (x * 4)
  unfolding up
  kept-element x k l h =
      let e : 0 + (x * 4 + k) ≡ x * 4 + k = omega arith in
      sym (element-like gf16 (up 0) kept (0 + (x * 4 + k)) (x * 4 + k) (lane-up 4 kept 0 64 (x * 4 + k) (omega arith)))
      ∙ ap (element gf16 (up 0)) e ∙ up-element 0 (lit< tt) x k l h

  broad-planes : (x k : ℕ) → k < 4 → x * 4 + k < 64
      → element gf16 (λ b. bit_xor (bit_xor (bit_xor (kept b) (up 1 b)) (up 2 b)) (up 3 b)) (x * 4 + k) ≡ element gf16 f (x * 4)
  broad-planes x k l h =
      element-xor gf16 (λ b. bit_xor (bit_xor (kept b) (up 1 b)) (up 2 b)) (up 3) (x * 4 + k)
      ∙ ap₂ (λ u v. u ⊕ v)
      (element-xor gf16 (λ b. bit_xor (kept b) (up 1 b)) (up 2) (x * 4 + k)
      ∙ ap₂ (λ u v. u ⊕ v)
      (element-xor gf16 kept (up 1) (x * 4 + k) ∙ ap₂ (λ u v. u ⊕ v) (kept-element x k l h) (up-element 1 (lit< tt) x k l h))
      (up-element 2 (lit< tt) x k l h))
      (up-element 3 (lit< tt) x k l h)
      ∙ four-units k l (element gf16 f (x * 4))

module _ (a : List ℕ) (j : ℕ) where
  abbrev broad_list : List ℕ
  broad_list = broad_of j (get_or a 0 0) ∷ broad_of j (get_or a 1 0) ∷ broad_of j (get_or a 2 0) ∷ broad_of j (get_or a 3 0) ∷ []

  broad-element : (x k : ℕ) → k < 4 → x * 4 + k < 64 → element_at broad_list (x * 4 + k) ≡ element gf16 (λ b. planes_in a b / 2 ^ j) (x * 4)
  unfolding element lane from_bits planes_in kept up
  broad-element x k l h = broad-planes (λ b. planes_in a b / 2 ^ j) x k l h

  pub broad-by : {one two four eight : ℕ} → one ≡ broad_of j (get_or a 0 0) → two ≡ broad_of j (get_or a 1 0) → four ≡ broad_of j (get_or a 2 0)
      → eight ≡ broad_of j (get_or a 3 0) → Broad a j (one ∷ two ∷ four ∷ eight ∷ [])
  broad-by {one} {two} {four} {eight} p q r s =
      record {
        lanes = λ i h.
            let own : i ≡ i / 4 * 4 + i % 4 = omega arith in
            let e : j + i / 4 * 4 ≡ i / 4 * 4 + j = omega arith in
            let all : one ∷ two ∷ four ∷ eight ∷ [] ≡ broad_list = cc (p, q, r, s) in
            ap₂ element_at all own
            ∙ broad-element (i / 4) (i % 4) (omega arith) (omega arith)
            ∙ element-like gf16 _ (planes_in a) (i / 4 * 4) (j + i / 4 * 4) (lane-down 4 (planes_in a) (i / 4 * 4) j)
            ∙ ap (element_at a) e;
      }
