-- Three numbers, one behind the other.
use native.Mathlib.Omega.{arith}
use Rattle.text.specs.Appended.{appended-both}
use Rattle.text.proofs.put_cost.Goals as goal

pub returns : goal.returns
returns c =
    let rate = c.put_number-after_rate.ensures in
    let doubt = c.put_number-after_doubt.ensures in
    let total = c.put_number.ensures in
    (appended-both (appended-both rate.0 doubt.0) total.0, omega (arith, rate.1, doubt.1, total.1))
