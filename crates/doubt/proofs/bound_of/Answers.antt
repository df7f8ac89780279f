-- `doubt::bound_of` meets its contract. The loop's invariant: the bound is above as many of the least keys as rounds have passed.
use mathlib.Core.Path.{◌≡◌, subst}
use native.Mathlib.Omega.{arith}
use Rattle.doubt.specs.Keys.{far}
use Rattle.weighing.specs.Bound.{Bound, bound-start, bound-next, bound-far}
use Rattle.doubt.proofs.bound_of.Goals as goal

pub loop-round-init : goal.loop-round-init
loop-round-init c = (omega arith, bound-start 64 far _)

pub returns-then-bound-eq-FAR : goal.returns-then-bound-eq-FAR
returns-then-bound-eq-FAR c = bound-far 64 far _ _ c.loop-round.invariant.1 c.if-bound-eq-FAR.true (omega arith)

pub loop-round-preserved : goal.loop-round-preserved
loop-round-preserved c = (
  omega arith,
  bound-next 64 far _ c.requires c.loop-round.invariant.1 _ _ c.least_from.ensures
      c.past-bound.ensures,
)

pub returns : goal.returns
returns c =
    let e : c.loop-round.round ≡ c.args.doubt = omega arith in
    subst (λ d. Bound 64 far c.args.keys d c.loop-round.bound) e c.loop-round.invariant.1
