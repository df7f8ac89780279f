-- `summary::padded` meets its contract. The loop's invariant: the costs passed are stored, the rest is as it was.
use mathlib.Core.Path.{◌≡◌}
use native.Mathlib.Omega.{arith}
use Rattle.lists.specs.Listed.{listed_start, listed-store, listed-end}
use Rattle.summary.proofs.padded.Goals as goal

pub loop-i-init : goal.loop-i-init
loop-i-init c = (omega arith, listed_start _ _)

pub loop-i-preserved : goal.loop-i-preserved
loop-i-preserved c = (omega arith, listed-store 0 _ _ _ _ _ (omega arith) c.entry_or.ensures c.loop-i.invariant.1)

pub returns : goal.returns
returns c =
    let e : c.loop-i.i ≡ 1024 = omega arith in
    rw e at (listed-end _ _ _ _ (omega arith) c.loop-i.invariant.1)
