-- What the contracts of delivery and of a withdrawal say is a step.
use mathlib.Core.Bool.{true}
use mathlib.Core.Path.{◌≡◌}
use mathlib.Core.List.{List, []}
use Prim.Native.Nat.{ℕ}
use lib.ListN.{length}
use Rattle.std.specs.Prelude.{Result}
use Rattle.lists.specs.Distinct.{below}
use Rattle.refusals.specs.Numbers.{number_of}
use Rattle.refusals.specs.declared.Refusal.{Refusal}
use Rattle.book64.specs.calls.Calls.{deliver, withdraw}
use Rattle.book64.specs.Here.{width}
use Rattle.session.specs.declared.Session.{Session}
use Rattle.session.specs.Calls.{ended, Delivery, Withdrawal}
use Rattle.runs.specs.Step.{Step, answer_with, typed-column, delivery-step, withdrawal-step}

pub delivery-made : (s left : Session) (p : ℕ) (column : List ℕ) (r : Result Unit Refusal) → Delivery s p column (ended r left) → length column ≡ width
    → below 65536 column ≡ true → Step s (deliver p column) (answer_with (number_of r) [] []) left
delivery-made s left p column r d long costs = delivery-step d (typed-column column long costs)

pub withdrawal-made : (s left : Session) (p : ℕ) (r : Result Unit Refusal) → Withdrawal s p (ended r left)
    → Step s (withdraw p) (answer_with (number_of r) [] []) left
withdrawal-made s left p r w = withdrawal-step w

pub ruleset steps = (delivery-made, withdrawal-made)
