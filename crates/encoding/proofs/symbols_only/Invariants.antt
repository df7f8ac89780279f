use Rattle.encoding.proofs.Symbols.{Passed}
use Rattle.encoding.proofs.symbols_only.Given as goal

abbrev pub invariant-loop-byte : goal.invariant-loop-byte
invariant-loop-byte l = Passed 4 l.bytes l.byte-index l.all
