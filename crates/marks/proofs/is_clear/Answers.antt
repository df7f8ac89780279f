-- An excess above all gaps, and the count.
use mathlib.Core.Bool.{◌&&◌}
use mathlib.Core.Path.{sym, ap, ◌∙◌}
use native.Mathlib.Omega.{arith}
use lib.Dec.{ltb}
use borrow.Author.Tests.{le-ltb, lt-ltb}
use Rattle.soft.specs.Column.{places}
use Rattle.weighing.specs.Low.{above, below_by, clear_of}
use Rattle.marks.proofs.is_clear.Goals as goal

pub returns-then-due-ge-ABOVE : goal.returns-then-due-ge-ABOVE
unfolding clear_of
returns-then-due-ge-ABOVE c = let a = c.args in sym (ap (λ b. b && ltb (below_by places a.due a.gaps) a.few) (le-ltb a.due above c.if-due-ge-ABOVE.true))

pub returns : goal.returns
unfolding clear_of
returns c = let a = c.args in ap (λ n. ltb n a.few) c.count_below.ensures.0 ∙ sym (ap (λ b. b && ltb (below_by places a.due a.gaps) a.few) (lt-ltb a.due above (omega arith)))
