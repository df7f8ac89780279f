use Prim.Native.Nat.{◌≤◌}
use Rattle.algebra.specs.Coefficients.{Below}
use Rattle.galois.specs.Field16.{K16}
use Rattle.coefficients.specs.Bytes.{coef}
use Rattle.division.proofs.leading.lead.Given as goal

abbrev pub invariant-loop-n : goal.invariant-loop-n
invariant-loop-n l = (l.n ≤ 64) × Below K16 (coef l.c) l.n

abbrev pub decreases-loop-n : goal.decreases-loop-n
decreases-loop-n l = l.n
