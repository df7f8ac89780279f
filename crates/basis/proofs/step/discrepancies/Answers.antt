-- Each class passed holds its discrepancy.
use borrow.Author.Rules.{rules}
use mathlib.Core.Path.{◌≡◌}
use native.Mathlib.Omega.{arith}
use lib.ListN.{replicate}
use Rattle.lists.specs.Listed.{listed_start, listed-store, listed-end}
use Rattle.basis.specs.Choice.{lead_at}
use Rattle.basis.specs.Step.{discrepancy_at}
use Rattle.basis.proofs.step.discrepancies.Goals as goal

pub loop-r-init : goal.loop-r-init
loop-r-init c = (search rules, search rules, listed_start _ _)

pub loop-r-preserved : goal.loop-r-preserved
unfolding discrepancy_at lead_at
loop-r-preserved c =
    let i = c.loop-r.invariant in
    (search rules, i.1, listed-store 0 _ (replicate 8 0) _ _ _ (search rules) c.discrepancy.ensures i.2)

pub returns : goal.returns
returns c =
    let e : c.loop-r.r ≡ 8 = omega arith in
    rw e at (listed-end _ (replicate 8 0) _ _ (search rules) c.loop-r.invariant.2)
