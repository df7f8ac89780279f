-- The row of least lead, divided by its leading coefficient, is the least Q; where every class is spent, x^16 + x is.
use mathlib.Core.Path.{◌≡◌, sym, ap, ap₂, ◌∙◌}
use mathlib.Core.List.{List, []}
use Prim.Native.Nat.{ℕ, ◌<◌, ◌≤◌}
use native.Mathlib.Omega.{arith}
use lib.ListN.{get_or}
use Rattle.lists.specs.Listed.{listed}
use Rattle.algebra.specs.Coefficients.{scale, below-mono}
use Rattle.algebra.specs.Least.{held-least, all-spent}
use Rattle.galois.specs.Field16.{GF, K16, to_f}
use Rattle.hermitian.specs.Interpolation.{through-space}
use Rattle.hermitian.specs.Frobenius.{frobenius}
use Rattle.code.specs.Nodes.{sample_at}
use Rattle.family.specs.Nodes.{Node}
use Rattle.basis.specs.Choice.{lead_at}
use Rattle.basis.specs.Step.{row_values}
use Rattle.interpolant.proofs.Least.{everywhere-least}
use Rattle.interpolant.specs.LeastQ.{reading_length}
use Rattle.interpolant.specs.Reading.{byte_of}
use Rattle.interpolant.proofs.Reading.{reading-least}
use Rattle.interpolation.specs.Extending.{Stored}
use Rattle.parts.specs.Parts.{values_of, first_of, second_of, polynomial_of, recovered}
use Rattle.interpolation.specs.Reading.{Lowest, Interpolated}
open K16 use {inv}

module _ (M : ℕ) (word : List ℕ) (rows : List (List ℕ)) (leads : List ℕ) (best : ℕ) (lowest : Lowest leads best) (bytes : List ℕ) where
  abbrev row : List ℕ
  row = get_or rows best []

  -- the parts read off the row make its polynomial
  held-row : {ns : List Node} (S : Stored M word 127 ns rows leads) → lead_at leads best ≤ 127 → polynomial_of M (first_of word row) (second_of row) ≡ S.polynomials best
  unfolding row_values values_of
  held-row S h = recovered row (S.held best lowest.within h) (below-mono K16 (omega arith) (S.basis.held best lowest.within h).leads.above)

  pub read_held : (q0 q1 : List ℕ) (by : ℕ) → q0 ≡ first_of word row → q1 ≡ second_of row → lead_at leads best ≤ 127
      → to_f by ≡ inv (polynomial_of M q0 q1 (lead_at leads best))
      → bytes ≡ listed reading_length (byte_of M (scale K16 (to_f by) (polynomial_of M q0 q1))) → Interpolated M word rows leads bytes
  read_held q0 q1 by e0 e1 h e b =
      record {
        reading = λ ns S.
            let is : polynomial_of M q0 q1 ≡ S.polynomials best = ap₂ (polynomial_of M) e0 e1 ∙ held-row S h in
            b ∙ ap (λ a. listed reading_length (byte_of M (scale K16 a (polynomial_of M q0 q1)))) e
            ∙ ap (λ (Q : ℕ → GF). listed reading_length (byte_of M (scale K16 (inv (Q (lead_at leads best))) Q))) is
            ∙ sym (reading-least M ns
            (held-least K16 S.basis (through-space K16 4 M (omega arith) sample_at ns)
            (record { within = lowest.within; passes = h; least = λ r l u. lowest.least r l })));
      }

  pub read-spent : 127 < lead_at leads best → bytes ≡ listed reading_length (byte_of M (frobenius K16 4 16)) → Interpolated M word rows leads bytes
  read-spent h b =
      record {
        reading = λ ns S.
            b ∙ sym (reading-least M ns
            (everywhere-least M ns (λ d m w e. all-spent K16 S.basis (omega arith) (λ r l. omega (arith, lowest.least r l)) w e)));
      }
