-- Below the limit, and not.
use mathlib.Core.Path.{sym, ap}
use native.Mathlib.Omega.{arith}
use mathlib.Core.Bool.{cond}
use borrow.Author.Tests.{lt-ltb, le-ltb}
use Rattle.marks.proofs.small.Goals as goal

pub returns-then-gap-limit : goal.returns-then-gap-limit
returns-then-gap-limit c = let a = c.args in (sym (ap (λ b. cond b a.gap 0) (lt-ltb a.gap a.limit c.if-gap-limit.true)), omega arith)

pub returns : goal.returns
returns c = let a = c.args in (sym (ap (λ b. cond b a.gap 0) (le-ltb a.gap a.limit c.if-gap-limit.false)), omega arith)
