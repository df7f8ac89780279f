-- `summary::held_of` meets its contract. The loop's invariant: the arrays hold what the symbols passed say.
use mathlib.Core.Path.{◌≡◌}
use native.Mathlib.Omega.{arith}
use Rattle.summary.proofs.Turns.{held_start}
use Rattle.summary.proofs.held_of.Goals as goal

pub loop-symbol-init : goal.loop-symbol-init
loop-symbol-init c = (omega arith, held_start _)

pub loop-symbol-preserved : goal.loop-symbol-preserved
loop-symbol-preserved c = (omega arith, c.turned-held.ensures)

pub returns : goal.returns
returns c =
    let e : c.loop-symbol.symbol ≡ 16 = omega arith in
    rw e at c.loop-symbol.invariant.1
