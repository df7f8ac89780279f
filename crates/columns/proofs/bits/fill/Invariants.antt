use Prim.Native.Nat.{◌-◌}
use Rattle.lists.specs.Filled.{Filled}
use Rattle.soft.specs.Bits.{symbol_cost}
use Rattle.columns.proofs.bits.fill.Given as goal

abbrev pub invariant-loop-symbol : goal.invariant-loop-symbol
invariant-loop-symbol l = Filled l.initial.out (symbol_cost 4 l.values) l.symbol l.out

abbrev pub decreases-loop-symbol : goal.decreases-loop-symbol
decreases-loop-symbol l = l.symbol-end - l.symbol
