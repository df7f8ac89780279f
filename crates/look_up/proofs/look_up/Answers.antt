-- `look_up::look_up` meets its contract: what is refused has no part, and what is accepted has that of the place.
use mathlib.Core.Path.{sym, ◌∙◌}
use native.Mathlib.Omega.{arith}
use Rattle.book64.specs.captures.LookUpLaws.{look-up-above, look-up-refused}
use Rattle.look_up.proofs.Found.{accepted-number, declined-number, there}
use Rattle.look_up.proofs.look_up.Goals as goal

pub returns-then-place-ge-PLACES : goal.returns-then-place-ge-PLACES
returns-then-place-ge-PLACES c = sym (look-up-above _ _ c.if-place-ge-PLACES.true)

pub returns-then-is_err : goal.returns-then-is_err
returns-then-is_err c =
    sym (look-up-refused _ _ (declined-number _ _ c.try_open_capture.ensures (sym c.is_err.ensures.value ∙ c.if-is_err.true)))

pub column_in-requires : goal.column_in-requires
column_in-requires c =
    let passed = sym c.is_err.ensures.value ∙ c.if-is_err.false in
    (omega arith, accepted-number _ _ c.try_open_capture.ensures passed, there _ _ _ (omega arith) c.try_open_capture.ensures passed)
