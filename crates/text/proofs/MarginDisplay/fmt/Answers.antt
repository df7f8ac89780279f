-- A number or a dash, and the end of the line.
use native.Mathlib.Omega.{arith}
use Rattle.std.proofs.Common.{sym, ap, ◌∙◌}
use Rattle.std.proofs.Output.{has_written_of_eq}
use Rattle.text.specs.Text.{margin_shown}
use Rattle.text.proofs.Printed.{line-is}
use Rattle.text.proofs.MarginDisplay.fmt.Goals as goal

pub returns-in-Some-clause-writes : goal.returns-in-Some-clause-writes
unfolding margin_shown
returns-in-Some-clause-writes g c plain ok =
    has_written_of_eq _ _ _ _ _ (line-is c.in-Some.margin 10 (omega arith) ∙ sym (ap margin_shown c.in-Some.is)) (c.writeln.ensures.writes plain ok)

pub returns-in-None-clause-writes : goal.returns-in-None-clause-writes
unfolding margin_shown
returns-in-None-clause-writes g c plain ok =
    has_written_of_eq _ _ _ _ _ (sym (ap margin_shown c.in-None.is)) (c.writeln-in-None.ensures.writes plain ok)
