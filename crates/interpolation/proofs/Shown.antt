-- The coefficient at a key in the two parts, and the bytes of x^16 + x.
use mathlib.Core.Path.{◌≡◌, sym, ap, ap₂, ◌∙◌}
use mathlib.Core.List.{List}
use mathlib.Core.Logic.{◌≢◌}
use Prim.Native.Nat.{ℕ, ◌+◌, ◌-◌, ◌*◌, ◌/◌, ◌%◌, ◌<◌, ◌≤◌}
use native.Mathlib.Decide.{dec_lt, ℕ_discrete}
use native.Mathlib.Omega.{arith}
use lib.ListN.{get_or, set, replicate, get_or-replicate}
use lib.Seq.{get_or-set_same, get_or-set_other}
use Rattle.lists.specs.Listed.{listed, listed-ext, listed-get_d}
use Rattle.algebra.specs.Field.{add-zero, zero-add}
use Rattle.algebra.specs.Coefficients.{unit, unit-at, unit-off}
use Rattle.galois.specs.Field16.{K16, to_f, value, value-to_f, to_f-zero, to_f-one, value-zero}
use Rattle.hermitian.specs.Interpolant.{without-joined, with-joined, gap-joined}
use Rattle.hermitian.specs.Frobenius.{frobenius}
use Rattle.coefficients.specs.Bytes.{coef, coef-at}
use Rattle.interpolant.specs.LeastQ.{byte_key, reading_length}
use Rattle.interpolant.specs.Reading.{byte_of}
use Rattle.parts.specs.Parts.{polynomial_of}
use Rattle.parts.specs.Bytes.{key-plain, key-z}
open K16 use {◌⊕◌, 𝟘, 𝟙}

-- ---- the coefficient at a key
module _ (q0 q1 : List ℕ) (k m : ℕ) where
  pub at-even : k % 2 ≡ 0 → to_f (get_or q0 (k / 2) 0) ≡ polynomial_of m q0 q1 k
  unfolding polynomial_of
  at-even z =
      let e : 2 * (k / 2) ≡ k = omega arith in
      sym (coef-at q0 (k / 2)) ∙ ap (λ f. f (k / 2)) (sym (without-joined K16 m (coef q0) (coef q1))) ∙ ap (polynomial_of m q0 q1) e

  pub at_gap : k % 2 ≢ 0 → k / 2 < m → to_f 0 ≡ polynomial_of m q0 q1 k
  unfolding polynomial_of
  at_gap z h =
      let e : 2 * (k / 2) + 1 ≡ k = omega arith in
      to_f-zero ∙ sym (gap-joined K16 m (coef q0) (coef q1) (k / 2) h) ∙ ap (polynomial_of m q0 q1) e

  pub at-odd : k % 2 ≢ 0 → m ≤ k / 2 → to_f (get_or q1 (k / 2 - m) 0) ≡ polynomial_of m q0 q1 k
  unfolding polynomial_of
  at-odd z g =
      let e : 2 * (k / 2 - m + m) + 1 ≡ k = omega arith in
      sym (coef-at q1 (k / 2 - m)) ∙ ap (λ f. f (k / 2 - m)) (sym (with-joined K16 m (coef q0) (coef q1))) ∙ ap (polynomial_of m q0 q1) e

-- ---- x^16 + x
abbrev plain_zeros : List ℕ
plain_zeros = replicate reading_length 0

abbrev first : List ℕ
first = set plain_zeros 64 1

pub field-bytes : (M : ℕ) → set first 4 1 ≡ listed reading_length (byte_of M (frobenius K16 4 16))
unfolding byte_of
field-bytes M = sym (listed-get_d (set first 4 1) 0) ∙ listed-ext reading_length (λ k. get_or (set first 4 1) k 0) (byte_of M (frobenius K16 4 16)) (λ i h. go i h (ℕ_discrete i 4) (ℕ_discrete i 64) (dec_lt i 65))
  where
    one-is : value 𝟙 ≡ 1
    one-is = ap value (sym to_f-one) ∙ value-to_f 1

    at_key : (i k : ℕ) → byte_key M i ≡ k → value (unit K16 128 k ⊕ unit K16 8 k) ≡ byte_of M (frobenius K16 4 16) i
    at_key i k e = ap (λ j. value (unit K16 128 j ⊕ unit K16 8 j)) (sym e)

    nothing : (k : ℕ) → k ≢ 128 → k ≢ 8 → 0 ≡ value (unit K16 128 k ⊕ unit K16 8 k)
    nothing k a b = sym (ap₂ (λ x y. value (x ⊕ y)) (unit-off K16 128 k a) (unit-off K16 8 k b) ∙ ap value (add-zero K16 𝟘) ∙ value-zero)

    go : (i : ℕ) → i < reading_length → Dec (i ≡ 4) → Dec (i ≡ 64) → Dec (i < 65) → get_or (set first 4 1) i 0 ≡ byte_of M (frobenius K16 4 16) i
    go i h (yes e) f l =
        ap (λ k. get_or (set first 4 1) k 0) e ∙ get_or-set_same first 4 1 0 (omega arith) ∙ sym one-is
        ∙ ap value (sym (zero-add K16 𝟙)) ∙ ap₂ (λ x y. value (x ⊕ y)) (sym (unit-off K16 128 8 (λ (q : 8 ≡ 128). absurd (omega arith)))) (sym (unit-at K16 8))
        ∙ at_key i 8 (key-plain M i (omega arith) ∙ omega arith)
    go i h (no e) (yes f) l =
        get_or-set_other first 4 i 1 0 e ∙ ap (λ k. get_or first k 0) f ∙ get_or-set_same plain_zeros 64 1 0 (omega arith) ∙ sym one-is
        ∙ ap value (sym (add-zero K16 𝟙)) ∙ ap₂ (λ x y. value (x ⊕ y)) (sym (unit-at K16 128)) (sym (unit-off K16 8 128 (λ (q : 128 ≡ 8). absurd (omega arith))))
        ∙ at_key i 128 (key-plain M i (omega arith) ∙ omega arith)
    go i h (no e) (no f) (yes l) =
        get_or-set_other first 4 i 1 0 e ∙ get_or-set_other plain_zeros 64 i 1 0 f ∙ get_or-replicate reading_length i 0 0 h
        ∙ nothing (2 * i) (λ (q : 2 * i ≡ 128). absurd (omega arith)) (λ (q : 2 * i ≡ 8). absurd (omega arith)) ∙ at_key i (2 * i) (key-plain M i (omega arith))
    go i h (no e) (no f) (no l) =
        let k : ℕ = 2 * (i - 65 + M) + 1 in
        get_or-set_other first 4 i 1 0 e ∙ get_or-set_other plain_zeros 64 i 1 0 f ∙ get_or-replicate reading_length i 0 0 h
        ∙ nothing k (λ (q : k ≡ 128). absurd (omega arith)) (λ (q : k ≡ 8). absurd (omega arith)) ∙ at_key i k (key-z M i (omega arith))
