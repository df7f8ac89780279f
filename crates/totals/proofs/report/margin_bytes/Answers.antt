-- `margin_bytes` meets its contract: each byte is what the definition divides out.
use native.Mathlib.Omega.{arith}
use Rattle.totals.proofs.Turns.{absent-bytes, present-bytes}
use Rattle.totals.proofs.report.margin_bytes.Goals as goal

pub returns-in_default : goal.returns-in_default
returns-in_default c = absent-bytes c.in_default.is

pub returns : goal.returns
returns c = present-bytes c.in-Some.is c.to_be_bytes.ensures (omega arith)
