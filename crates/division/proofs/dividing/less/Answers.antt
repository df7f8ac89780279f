-- Zero changes nothing; otherwise each position passed holds the sum there.
use borrow.Author.Rules.{rules}
use mathlib.Core.Path.{◌∙◌}
use Rattle.lists.specs.Passed.{passed_start}
use Rattle.galois.specs.Gf16.{gf16}
use Rattle.functions.specs.Less.{taken-nothing, taken-turn, taken-all}
use Rattle.division.proofs.dividing.less.Goals as goal

pub returns-then-by-eq0 : goal.returns-then-by-eq0
returns-then-by-eq0 c = taken-nothing gf16 64 _ _ _ _ c.if-by-eq0.true (search rules)

pub loop-k-init : goal.loop-k-init
loop-k-init c = (search rules, search rules, search rules, passed_start _ _ _ _)

pub loop-k-preserved : goal.loop-k-preserved
loop-k-preserved c =
    let i = c.loop-k.invariant in
    let P = taken-turn gf16 64 _ _ _ _ _ _ _ i.0 (search rules) c.product.ensures i.3 in
    (search rules, i.1, P.as_long ∙ i.1, P)

pub returns : goal.returns
returns c = taken-all gf16 64 _ _ _ _ _ c.loop-k.invariant.2 c.loop-k-test.false c.loop-k.invariant.3
