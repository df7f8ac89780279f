-- Each class passed holds its first key.
use mathlib.Core.Path.{◌≡◌}
use native.Mathlib.Omega.{arith}
use lib.ListN.{replicate}
use borrow.Author.Rules.{rules}
use Rattle.lists.specs.Listed.{listed_start, listed-store, listed-end}
use Rattle.interpolation.proofs.start.start_leads.Goals as goal

pub loop-r-init : goal.loop-r-init
loop-r-init c = (search rules, listed_start _ _)

pub loop-r-preserved : goal.loop-r-preserved
loop-r-preserved c = (search rules, listed-store 0 _ (replicate 8 0) _ _ _ (search rules) c.start_lead.ensures c.loop-r.invariant.1)

pub returns : goal.returns
returns c =
    let e : c.loop-r.r ≡ 8 = omega arith in
    rw e at (listed-end _ (replicate 8 0) _ _ (search rules) c.loop-r.invariant.1)
