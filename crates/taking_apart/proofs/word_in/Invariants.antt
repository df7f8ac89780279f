use Prim.Native.Nat.{◌+◌, ◌*◌}
use lib.ListN.{replicate}
use Rattle.lists.specs.Filled.{Filled}
use Rattle.soft.specs.Column.{places}
use Rattle.superframe.specs.Superframe.{words, symbol_in}
use Rattle.taking_apart.proofs.word_in.Given as goal

abbrev pub invariant-loop-place : goal.invariant-loop-place
invariant-loop-place l = Filled (replicate places 0) (λ p. symbol_in l.frame (words * p + l.v)) l.place l.out
