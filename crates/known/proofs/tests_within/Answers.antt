-- The closest test word is too far; every test word is near enough; or those are that change few of its symbols.
use mathlib.Core.Path.{refl}
use native.Mathlib.Omega.{arith}
use Rattle.family.specs.Member.{m16}
use Rattle.search.specs.Counting.{counted-far, counted-every, counted-some}
use borrow.Author.Rules.{rules}
use Rattle.known.proofs.tests_within.Goals as goal

pub returns-then-most-apart : goal.returns-then-most-apart
returns-then-most-apart c =
    counted-far m16 _ _ c.args.counted.now.counts _ _ _ _ _ (search rules) (search rules) refl _ c.closest-nearest.ensures _ _ c.reach-most.ensures
    c.distance-apart.ensures c.if-most-apart.true

pub returns-then-agreed-spare : goal.returns-then-agreed-spare
returns-then-agreed-spare c =
    counted-every m16 _ _ c.args.counted.now.counts _ _ _ _ _ (search rules) (search rules) refl _ c.closest-nearest.ensures _ _ c.reach-most.ensures
    c.distance-apart.ensures _ c.agreeing-agreed.ensures.number c.if-most-apart.false c.if-agreed-spare.true 64 (omega arith)

pub returns : goal.returns
returns c =
    counted-some m16 _ _ c.args.counted.now.counts _ _ _ _ _ (search rules) (search rules) refl _ c.closest-nearest.ensures _ _ c.reach-most.ensures
    c.distance-apart.ensures _ c.agreeing-agreed.ensures.number c.if-most-apart.false _ c.choices.ensures 64 (omega arith)
