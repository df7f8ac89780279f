-- `report` meets its contract: each byte is what the definition divides out, and the margin's are those that were made.
use native.Mathlib.Omega.{arith}
use Rattle.totals.proofs.Turns.{report_bytes}
use Rattle.totals.proofs.report.report.Goals as goal

pub returns : goal.returns
returns c =
    report_bytes _ _ _ _ _ _ c.to_be_bytes.ensures c.to_be_bytes-2.ensures c.margin_bytes.ensures
    (omega arith) (omega arith) (omega arith) (omega arith) (omega arith)
