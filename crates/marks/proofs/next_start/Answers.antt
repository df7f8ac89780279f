-- The two halves.
use mathlib.Core.Path.{sym, ap}
use Prim.Native.Nat.{◌+◌}
use mathlib.Core.Bool.{cond}
use borrow.Author.Tests.{le-leb, lt-leb}
use Rattle.marks.proofs.next_start.Goals as goal

pub returns-then-few-below : goal.returns-then-few-below
returns-then-few-below c =
    let a = c.args in
    sym (ap (λ b. cond b (a.start + a.half) a.start) (lt-leb a.below a.few c.if-few-below.true))

pub returns : goal.returns
returns c =
    let a = c.args in
    sym (ap (λ b. cond b (a.start + a.half) a.start) (le-leb a.below a.few c.if-few-below.false))
