-- `divide` meets its contract: a turn of the loop is a step of the division.
use mathlib.Core.Path.{ap, ◌∙◌}
use lib.Dec.{lit≤}
use lib.ListN.{length, length-set}
use borrow.Author.Rules.{rules}
use Rattle.lists.specs.Listed.{listed-length}
use Rattle.galois.specs.Gf16.{gf16}
use Rattle.functions.specs.Dividing.{coef-less}
use Rattle.functions.specs.Quotients.{dividing-start, dividing-turn, dividing-end}
use Rattle.division.proofs.dividing.divide.Goals as goal

pub loop-left-init : goal.loop-left-init
loop-left-init c = (
  search rules,
  search rules,
  dividing-start gf16 4 64 (lit≤ tt) _ _ _ _ _ _ c.requires (search rules) c.lead-lead.ensures c.inverse-by.ensures c.y_powers-powers.ensures,
)

pub loop-left-preserved : goal.loop-left-preserved
loop-left-preserved c =
    let i = c.loop-left.invariant in
    let long = ap length c.less.ensures ∙ listed-length 64 _ in (
      long,
      simp length-set i.1,
      dividing-turn gf16 4 64 (lit≤ tt) i.2 _ _ _ c.loop-left-test.true c.next_at-a.ensures c.x_moves.ensures long (coef-less gf16 64 _ _ _ _ c.less.ensures),
    )

pub returns : goal.returns
returns c =
    dividing-end gf16 4 64 (lit≤ tt) _ c.loop-left.invariant.2 c.y_powers-powers.ensures c.loop-left-test.false
