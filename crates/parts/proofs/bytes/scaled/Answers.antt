-- Each byte passed is the product with the coefficient that it shows.
use borrow.Author.Rules.{rules}
use mathlib.Core.Path.{◌≡◌}
use native.Mathlib.Omega.{arith}
use lib.ListN.{replicate}
use Rattle.lists.specs.Listed.{listed_start, listed-store, listed-end}
use Rattle.interpolant.specs.LeastQ.{reading_length}
use Rattle.parts.proofs.Shown.{scaled-byte}
use Rattle.parts.proofs.bytes.scaled.Goals as goal

pub loop-i-init : goal.loop-i-init
loop-i-init c = (search rules, λ M. listed_start _ _)

pub loop-i-preserved : goal.loop-i-preserved
loop-i-preserved c =
    (search rules, λ M. listed-store 0 _ (replicate reading_length 0) _ _ _ (search rules) (scaled-byte _ _ _ _ _ _ M c.product.ensures (c.shown.ensures M)) (c.loop-i.invariant.1 M))

pub returns : goal.returns
returns c = λ M.
    let e : c.loop-i.i ≡ reading_length = omega arith in
    rw e at (listed-end _ (replicate reading_length 0) _ _ (search rules) (c.loop-i.invariant.1 M))
