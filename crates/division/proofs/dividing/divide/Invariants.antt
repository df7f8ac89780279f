use mathlib.Core.List.{[]}
use mathlib.Core.Path.{◌≡◌}
use lib.ListN.{length, get_or}
use Rattle.galois.specs.Gf16.{gf16}
use Rattle.functions.specs.Quotients.{Dividing}
use Rattle.division.proofs.dividing.divide.Given as goal

abbrev pub invariant-loop-left : goal.invariant-loop-left
invariant-loop-left l = (length l.rest ≡ 64) × (length l.out ≡ 64) × Dividing gf16 4 64 l.initial.rest (get_or l.powers 0 []) l.powers l.m l.lead l.by l.left l.rest l.out

abbrev pub decreases-loop-left : goal.decreases-loop-left
decreases-loop-left l = l.left
