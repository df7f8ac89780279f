use mathlib.Core.Path.{◌≡◌}
use mathlib.Core.List.{◌++◌}
use Prim.Native.Nat.{ℕ, ◌≤◌, ◌-◌}
use lib.ListN.{drop, replicate}
use Rattle.lists.specs.Listed.{listed}
use Rattle.algebra.specs.Coefficients.{scale}
use Rattle.galois.specs.Field16.{K16, to_f}
use Rattle.interpolant.specs.LeastQ.{reading_length}
use Rattle.interpolant.specs.Reading.{byte_of}
use Rattle.parts.specs.Parts.{polynomial_of}
use Rattle.parts.proofs.bytes.scaled.Given as goal

abbrev pub invariant-loop-i : goal.invariant-loop-i
invariant-loop-i l =
    (l.i ≤ reading_length) × ((M : ℕ) → l.out ≡ listed l.i (byte_of M (scale K16 (to_f l.by) (polynomial_of M l.q0 l.q1))) ++ drop l.i (replicate reading_length 0))

abbrev pub decreases-loop-i : goal.decreases-loop-i
decreases-loop-i l = reading_length - l.i
