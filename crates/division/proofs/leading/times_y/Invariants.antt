use mathlib.Core.Path.{◌≡◌}
use Prim.Native.Nat.{◌≤◌, ◌-◌, ◌%◌}
use lib.ListN.{length, replicate}
use Rattle.lists.specs.Passed.{Passed}
use Rattle.functions.specs.TimesY.{Lower, Folded}
use Rattle.division.proofs.leading.times_y.Given as goal

abbrev pub invariant-loop-o : goal.invariant-loop-o
invariant-loop-o l = (5 ≤ l.o) × Passed 0 (Lower 4 64 l.c) 5 l.o (replicate 64 0) l.out

abbrev pub decreases-loop-o : goal.decreases-loop-o
decreases-loop-o l = 64 - l.o

abbrev pub invariant-loop-folded : goal.invariant-loop-folded
invariant-loop-folded l = (l.folded % 4 ≡ 1) × (l.folded ≤ 57) × (length l.c ≡ 64) × (length l.out ≡ 64) × Folded 4 64 l.c l.folded l.out

abbrev pub decreases-loop-folded : goal.decreases-loop-folded
decreases-loop-folded l = 64 - l.folded
