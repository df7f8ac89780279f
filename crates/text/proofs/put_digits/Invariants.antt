use mathlib.Core.List.{map}
use Rattle.text.specs.Text.{hex_of}
use Rattle.text.proofs.Put.{Putting}
use Rattle.text.proofs.put_digits.Given as goal

abbrev pub invariant-loop-i : goal.invariant-loop-i
invariant-loop-i l = Putting l.initial.out l.at (map hex_of l.symbols) l.i l.out
