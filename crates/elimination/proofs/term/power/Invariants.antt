use Prim.Native.Nat.{◌-◌, ◌≤◌}
use Rattle.elimination.specs.Terms.{PowerOf}
use Rattle.elimination.proofs.term.power.Given as goal

abbrev pub invariant-loop-i : goal.invariant-loop-i
invariant-loop-i l = (l.i ≤ l.n) × PowerOf l.base l.i l.out

abbrev pub decreases-loop-i : goal.decreases-loop-i
decreases-loop-i l = l.n - l.i
