-- `function_of` meets its contract: from order 12 on the symbols stand one after the other, and behind the last of them zeros.
use mathlib.Core.Path.{refl}
use native.Mathlib.Omega.{arith}
use Rattle.lists.specs.Filled.{filled-turn}
use Rattle.hermitian.specs.Present.{genus}
use Rattle.family.specs.Member.{m16}
use Rattle.family.specs.Evaluation as Evaluation
use Rattle.encoding.proofs.Symbols.{filled-rest, large-coefficient, large-beyond}
use borrow.Author.Rules.{rules}
use Rattle.encoding.proofs.function_of.Goals as goal

pub loop-order-init : goal.loop-order-init
loop-order-init c = (search rules, search rules, c.end_of-end.ensures, c.lowest-out.ensures)

pub loop-order-preserved : goal.loop-order-preserved
unfolding genus
loop-order-preserved c =
    let inv = c.loop-order.invariant in
    (search rules, search rules, inv.2, filled-turn 0 inv.3 _ (search rules) (large-coefficient m16 _ _ inv.0))

pub returns : goal.returns
unfolding Evaluation.function_of genus
returns c =
    let inv = c.loop-order.invariant in
    filled-rest 64 refl inv.3 (λ k l h. large-beyond m16 64 _ k (omega arith) (omega arith) h)
