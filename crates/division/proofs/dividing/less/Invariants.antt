use mathlib.Core.Path.{◌≡◌}
use Prim.Native.Nat.{◌≤◌, ◌-◌}
use lib.ListN.{length}
use Rattle.lists.specs.Passed.{Passed}
use Rattle.galois.specs.Gf16.{gf16}
use Rattle.functions.specs.Less.{Taken}
use Rattle.division.proofs.dividing.less.Given as goal

abbrev pub invariant-loop-k : goal.invariant-loop-k
invariant-loop-k l = (l.up ≤ l.k) × (length l.initial.rest ≡ 64) × (length l.rest ≡ 64) × Passed 0 (Taken gf16 64 l.initial.rest l.by l.function l.up) l.up l.k l.initial.rest l.rest

abbrev pub decreases-loop-k : goal.decreases-loop-k
decreases-loop-k l = 64 - l.k
