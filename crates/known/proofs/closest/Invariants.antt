use mathlib.Core.Path.{◌≡◌}
use lib.ListN.{length, drop}
use Rattle.soft.specs.Column.{places, symbols, column_of}
use Rattle.known.specs.Known.{closest_test}
use Rattle.known.proofs.closest.Given as goal

abbrev pub invariant-loop-p : goal.invariant-loop-p
invariant-loop-p l =
    (length l.out ≡ places)
    × (closest_test (column_of symbols l.costs) l.codeword l.initial.out l.fn.places ≡ closest_test (column_of symbols l.costs) l.codeword l.out (drop l.p-index l.fn.places))
