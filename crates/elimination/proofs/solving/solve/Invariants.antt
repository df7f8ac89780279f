use mathlib.Core.Path.{◌≡◌}
use Prim.Native.Nat.{◌+◌, ◌-◌, ◌≤◌}
use lib.ListN.{length}
use Rattle.family.specs.Member.{m16, places}
use Rattle.elimination.proofs.Keys.{Rows}
use Rattle.elimination.proofs.solving.solve.Given as goal

abbrev pub invariant-loop-key : goal.invariant-loop-key
invariant-loop-key l = (l.key ≤ l.limit + 1) × (length l.pivots ≡ places m16) × Rows l.m l.flags l.symbols l.key l.pivots

abbrev pub decreases-loop-key : goal.decreases-loop-key
decreases-loop-key l = l.limit + 1 - l.key
