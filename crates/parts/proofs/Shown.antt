-- The bytes of a multiple: where the coefficient of each byte stands in the two parts.
use mathlib.Core.Path.{◌≡◌, sym, ap, ◌∙◌}
use mathlib.Core.List.{List}
use Prim.Native.Nat.{ℕ, ◌-◌, ◌≤◌}
use native.Mathlib.Omega.{arith}
use lib.ListN.{length, get_or, get_or-eq_default}
use Rattle.algebra.specs.Coefficients.{scale}
use Rattle.galois.specs.Gf16.{times}
use Rattle.galois.specs.Field16.{K16, to_f, value}
use Rattle.hermitian.specs.Interpolant.{without-joined, with-joined}
use Rattle.coefficients.specs.Bytes.{coef, coef-at, value-times-to_f}
use Rattle.interpolant.specs.LeastQ.{byte_key}
use Rattle.interpolant.specs.Reading.{byte_of}
use Rattle.parts.specs.Parts.{polynomial_of}
use Rattle.parts.specs.Bytes.{key-plain, key-z}
open K16 use {◌⊗◌}

module _ (q0 q1 : List ℕ) (i : ℕ) where
  pub shown-plain : i ≤ 64 → (M : ℕ) → to_f (get_or q0 i 0) ≡ polynomial_of M q0 q1 (byte_key M i)
  unfolding polynomial_of
  shown-plain h M =
      sym (coef-at q0 i) ∙ ap (λ f. f i) (sym (without-joined K16 M (coef q0) (coef q1))) ∙ ap (polynomial_of M q0 q1) (sym (key-plain M i h))

  -- no order above 63 is read
  pub shown-last : length q0 ≡ 64 → i ≡ 64 → (M : ℕ) → to_f 0 ≡ polynomial_of M q0 q1 (byte_key M i)
  shown-last l e M = ap to_f (sym (get_or-eq_default q0 0 (omega arith))) ∙ shown-plain (omega arith) M

  pub shown-z : 65 ≤ i → (M : ℕ) → to_f (get_or q1 (i - 65) 0) ≡ polynomial_of M q0 q1 (byte_key M i)
  unfolding polynomial_of
  shown-z h M =
      sym (coef-at q1 (i - 65)) ∙ ap (λ f. f (i - 65)) (sym (with-joined K16 M (coef q0) (coef q1))) ∙ ap (polynomial_of M q0 q1) (sym (key-z M i h))

-- a multiple of it
pub scaled-byte : (q0 q1 : List ℕ) (by i s v M : ℕ) → v ≡ times by s → to_f s ≡ polynomial_of M q0 q1 (byte_key M i)
    → v ≡ byte_of M (scale K16 (to_f by) (polynomial_of M q0 q1)) i
unfolding byte_of
scaled-byte q0 q1 by i s v M e f = e ∙ sym (value-times-to_f by s) ∙ ap (λ a. value (to_f by ⊗ a)) f
