use Prim.Native.Nat.{◌-◌, ◌*◌, ◌≤◌}
use lib.ListN.{replicate}
use Rattle.lists.specs.Filled.{Filled}
use Rattle.planes.specs.Arrays.{symbol_at}
use Rattle.planes.proofs.words.symbols.Given as goal

abbrev pub invariant-loop-x : goal.invariant-loop-x
invariant-loop-x l = (l.x ≤ 16) × Filled (replicate 64 0) (symbol_at l.a) (l.x * 4) l.out

abbrev pub decreases-loop-x : goal.decreases-loop-x
decreases-loop-x l = 16 - l.x
