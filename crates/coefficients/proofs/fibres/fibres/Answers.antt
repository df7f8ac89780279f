-- `fibres` meets its contract. The loop's invariant: the sums over the fibres against the powers of y passed.
use native.Mathlib.Omega.{arith}
use Rattle.coefficients.proofs.Turns.{fibres-start, fibres-turn, fibres-end}
use borrow.Author.Rules.{rules}
use Rattle.coefficients.proofs.fibres.fibres.Goals as goal

pub loop-j-init : goal.loop-j-init
loop-j-init c = (search rules, fibres-start _)

pub loop-j-preserved : goal.loop-j-preserved
loop-j-preserved c = (
  search rules,
  fibres-turn _ _ _ _ _ c.loop-j.invariant.1
      (c.y_duals-duals.ensures.entries _ c.loop-j-test.true) c.fibre.ensures c.sum-next.ensures,
)

pub returns : goal.returns
returns c = fibres-end _ _ _ (omega arith) c.loop-j.invariant.1
