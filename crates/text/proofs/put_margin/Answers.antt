-- The mark says which of the two texts it is.
use native.Mathlib.Omega.{arith}
use Rattle.text.specs.Appended.{appended-as}
use Rattle.text.proofs.Marked.{absent, present}
use Rattle.text.proofs.put_margin.Goals as goal

pub returns-then-report-ne1 : goal.returns-then-report-ne1
returns-then-report-ne1 c =
    let p = c.put_bytes.ensures in
    (appended-as (absent _ c.if-report-ne1.true) p, omega (arith, p.end))

pub returns : goal.returns
returns c =
    let p = c.put_number.ensures in (
      appended-as (present _ c.if-report-ne1.false c.margin_in.ensures) p.0,
      p.1,
    )
