-- After some symbols their digits are written.
use Rattle.std.proofs.Common.{take, map}
use Rattle.std.specs.Fmt.{HasWritten, IsPlainFormatter}
use Rattle.text.specs.Text.{hex_of}
use Rattle.text.proofs.SymbolsDisplay.fmt.Given as goal

abbrev pub invariant-loop-symbol : goal.invariant-loop-symbol
invariant-loop-symbol g l =
    IsPlainFormatter l.initial.f → HasWritten g.W.Write.write_str_gives l.initial.f (map hex_of (take l.symbol-index l.symbol-items)) l.f
