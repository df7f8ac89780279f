use Prim.Native.Nat.{◌-◌, ◌≤◌}
use Rattle.coefficients.proofs.Turns.{FibresTo}
use Rattle.coefficients.proofs.fibres.fibres.Given as goal

abbrev pub invariant-loop-j : goal.invariant-loop-j
invariant-loop-j l = (l.j ≤ 4) × FibresTo l.values l.j l.out

abbrev pub decreases-loop-j : goal.decreases-loop-j
decreases-loop-j l = 4 - l.j
