use mathlib.Core.Path.{◌≡◌}
use lib.ListN.{length, drop}
use Rattle.known.specs.Known.{filled_of}
use Rattle.known.proofs.filled.Given as goal

abbrev pub invariant-loop-p : goal.invariant-loop-p
invariant-loop-p l =
    (length l.out ≡ 64)
    × (filled_of l.codeword l.initial.out l.fn.places ≡ filled_of l.codeword l.out (drop l.p-index l.fn.places))
