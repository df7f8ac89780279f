-- The library's digits are those of the definition, at most 20.
use mathlib.Core.Path.{◌∙◌}
use Prim.Native.Nat.{◌≤◌}
use native.Mathlib.Omega.{arith}
use Rattle.text.specs.Appended.{appended-as}
use Rattle.text.proofs.Decimal.{decimal-digits, decimal-short}
use Rattle.text.proofs.put_decimal.Goals as goal

pub put_bytes-requires : goal.put_bytes-requires
put_bytes-requires c =
    omega (arith, c.decimal-count.ensures.in_bounds, decimal-short c.decimal-count.result c.args.n (omega arith) c.decimal-count.ensures.len)

pub returns : goal.returns
returns c =
    let n = c.args.n in
    let p = c.put_bytes.ensures in
    let short : c.decimal-count.result ≤ 20 = decimal-short c.decimal-count.result n (omega arith) c.decimal-count.ensures.len in
    (appended-as (c.decimal-count.ensures.digits ∙ decimal-digits 20 c.decimal-count.result n short c.decimal-count.ensures.len) p, omega (arith, p.end, c.decimal-count.ensures.in_bounds))
