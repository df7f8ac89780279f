-- Place by place: zero at the places passed that count.
use mathlib.Core.Path.{◌≡◌}
use native.Mathlib.Omega.{arith}
use Rattle.elimination.proofs.Clearing.{turn, stopped, ended}
use borrow.Author.Rules.{rules}
use Rattle.elimination.proofs.reducing.reduce.Goals as goal

pub loop-place-init : goal.loop-place-init
loop-place-init c = (omega arith, record { reduced = λ M key word P R. R })

pub returns-then-stuck : goal.returns-then-stuck
returns-then-stuck c = stopped (search rules) c.stuck.ensures c.if-stuck.true c.loop-place.invariant.1

pub loop-place-preserved : goal.loop-place-preserved
loop-place-preserved c = (search rules, turn (search rules) c.stuck.ensures c.if-stuck.false c.cleared-next.ensures c.loop-place.invariant.1)

pub returns : goal.returns
returns c =
    let e : c.loop-place.place ≡ 64 = omega arith in
    rw e at (ended c.loop-place.invariant.0 c.loop-place-test.false c.loop-place.invariant.1)
