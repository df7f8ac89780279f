use mathlib.Core.Path.{◌≡◌}
use Rattle.dot_bench.specs.Dot.{dot}
use Rattle.dot_bench.proofs.dot.Given as goal

abbrev pub invariant-loop-i : goal.invariant-loop-i
invariant-loop-i g l = l.sum ≡ dot l.i l.a l.b
