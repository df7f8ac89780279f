-- The running number stays small.
use Prim.Native.Nat.{◌<◌}
use Rattle.burst_check.proofs.fill.Given as goal

abbrev pub invariant-loop-symbol : goal.invariant-loop-symbol
invariant-loop-symbol l = l.x < 65537
