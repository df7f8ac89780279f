use mathlib.Core.Path.{◌≡◌}
use Prim.Native.Nat.{◌+◌, ◌≤◌}
use lib.ListN.{drop}
use Rattle.known.specs.Known.{agreeing_in}
use Rattle.known.proofs.agreeing.Given as goal

abbrev pub invariant-loop-p : goal.invariant-loop-p
invariant-loop-p l =
    (l.n ≤ l.p-index)
    × (agreeing_in l.counts l.codeword l.word l.fn.places ≡ l.n + agreeing_in l.counts l.codeword l.word (drop l.p-index l.fn.places))
