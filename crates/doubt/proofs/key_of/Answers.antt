-- `doubt::key_of` meets its contract: a gap has two bytes, so the key of a place that is not blank stays below that of a blank one.
use mathlib.Core.Path.{ap}
use Prim.Native.Nat.{◌+◌, ◌*◌}
use native.Mathlib.Omega.{arith}
use Rattle.weighing.specs.Doubting.{key-open, key-blank}
use Rattle.doubt.proofs.key_of.Goals as goal

pub returns-then-flag-eq1 : goal.returns-then-flag-eq1
returns-then-flag-eq1 c =
    let a = c.args in
    key-open c.if-flag-eq1.true (ap (λ g. g * 64 + a.place) c.counted.ensures) (omega arith)

pub returns : goal.returns
returns c = key-blank c.if-flag-eq1.false (omega arith)
