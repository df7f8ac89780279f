-- Six numbers, and then the margin.
use native.Mathlib.Omega.{arith}
use Rattle.std.proofs.Output.{has_written_of_eq}
use Rattle.text.proofs.Printed.{heading-is}
use Rattle.text.proofs.HeadingDisplay.fmt.Goals as goal

pub returns-clause-writes : goal.returns-clause-writes
returns-clause-writes g c plain ok =
    has_written_of_eq _ _ _ _ _
    (heading-is c.args.self.now.rate c.args.self.now.doubt _ _ _ _ c.args.self.now.report _
    (omega arith) (omega arith) (omega arith) (omega arith) (omega arith) (omega arith)
    c.total_in-total.ensures c.tests_in-tests.ensures c.byte-pinned.ensures.0 c.byte-changed.ensures.0 c.margin_of.ensures)
    (c.write.ensures.writes plain ok)
