-- The digits, and then the byte that ends them.
use native.Mathlib.Omega.{arith}
use Rattle.text.specs.Text.{number_line}
use Rattle.text.specs.Appended.{appended-both}
use Rattle.text.proofs.put_number.Goals as goal

pub returns : goal.returns
unfolding number_line
returns c =
    let p = c.put_decimal-after.ensures in
    let q = c.put_bytes.ensures in
    (appended-both p.0 q, omega (arith, p.1, q.end))
