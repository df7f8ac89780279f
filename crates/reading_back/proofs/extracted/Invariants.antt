use mathlib.Core.Path.{◌≡◌}
use Prim.Native.Nat.{◌-◌}
use lib.ListN.{replicate}
use Rattle.lists.specs.Filled.{Filled}
use Rattle.coefficients.specs.Reading.{coefficients_of}
use Rattle.code.specs.Extraction.{message_at}
use Rattle.reading_back.proofs.extracted.Given as goal

abbrev pub invariant-loop-t : goal.invariant-loop-t
invariant-loop-t l = (l.shown ≡ coefficients_of l.word) × Filled (replicate 58 0) (message_at l.word) l.t l.out

abbrev pub decreases-loop-t : goal.decreases-loop-t
decreases-loop-t l = 58 - l.t
