-- The two parts of the polynomial that a row holds, read off its values: what values has of them, at this member.
--
--   values_of row           the values of a row by part and place
--   first_at word row p     the value of Q0 at place p: that of Q and the word's symbol times the slope
--   first_of word row, second_of row    the coefficients of Q0 and Q1, by order
--   polynomial_of M q0 q1   the polynomial on keys of two parts by order
--   first-recovered, second-recovered, recovered    where a row has the values of a Q with keys below 2n, these are the parts of Q, and that is Q
use Rattle.std.specs.Prelude.{◌≡◌, List, ℕ, ◌*◌}
use Rattle.std.proofs.Common.{◌∙◌, arith, lit<}
use Rattle.std.proofs.Math.Path.{fun_ext}
use Rattle.algebra.specs.Coefficients.{Below}
use Rattle.galois.specs.Field16.{GF, K16}
use Rattle.hermitian.specs.Interpolant.{Interpolant, without_z, with_z, joined, below-without_z, below-with_z}
use Rattle.family.specs.Member.{m16, places}
use Rattle.planes.specs.Rows.{value_at}
use Rattle.coefficients.specs.Reading.{coefficients_of}
use Rattle.functions.specs.Recovery.{coefficients-recovered}
use Rattle.values.specs.Holds.{Holds}
use Rattle.values.specs.Parts as Values
use Rattle.coefficients.specs.Bytes.{coef, coef-at}

unfoldable pub values_of : List ℕ → ℕ → ℕ → GF
values_of row h p = value_at h row p

abbrev pub first_at : List ℕ → List ℕ → ℕ → ℕ
first_at word row p = Values.first_at m16 word (values_of row) p

abbrev pub second_at : List ℕ → ℕ → ℕ
second_at row p = Values.second_at m16 (values_of row) p

abbrev pub first_of : List ℕ → List ℕ → List ℕ
first_of word row = Values.first_of m16 coefficients_of word (values_of row)

abbrev pub second_of : List ℕ → List ℕ
second_of row = Values.second_of m16 coefficients_of (values_of row)

unfoldable pub polynomial_of : ℕ → List ℕ → List ℕ → ℕ → GF
polynomial_of M q0 q1 = joined K16 M (coef q0) (coef q1)

reads : Values.Recovers m16 coefficients_of
reads = record { recovered = coefficients-recovered m16 }

module _ {M : ℕ} {word : List ℕ} (row : List ℕ) {Q : ℕ → GF} (H : Holds m16 M word (values_of row) Q) where
  is-Q : Interpolant K16 4 M Q
  is-Q = (H.whole 0 (lit< tt)).interpolant

  pub first-recovered : Below K16 (without_z K16 Q) (places m16) → coef (first_of word row) ≡ without_z K16 Q
  first-recovered b = fun_ext (λ o. coef-at (first_of word row) o ∙ Values.first-recovered m16 is-Q H reads b o)

  pub second-recovered : Below K16 (with_z K16 M Q) (places m16) → coef (second_of row) ≡ with_z K16 M Q
  second-recovered b = fun_ext (λ o. coef-at (second_of row) o ∙ Values.second-recovered m16 is-Q H reads b o)

  module _ (small : Below K16 Q (2 * places m16)) where
    pub first-is : coef (first_of word row) ≡ without_z K16 Q
    first-is = first-recovered (below-without_z K16 4 M (places m16) (omega arith) small)

    pub second_is : coef (second_of row) ≡ with_z K16 M Q
    second_is = second-recovered (below-with_z K16 4 M (places m16) (omega arith) small)

    pub recovered : polynomial_of M (first_of word row) (second_of row) ≡ Q
    unfolding polynomial_of
    recovered = Values.parts_join m16 is-Q first-is second_is
