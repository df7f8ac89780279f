-- A flag other than 1, a cost below the least, and the difference.
use native.Mathlib.Omega.{arith}
use borrow.Author.Tests.{ne_eqb}
use Rattle.soft.specs.Column.{column_of}
use Rattle.soft.specs.Total.{cost_in}
use Rattle.weighing.specs.Marking.{over_none, over-made}
use Rattle.marks.proofs.over.Goals as goal

pub returns-then-flag-ne1 : goal.returns-then-flag-ne1
returns-then-flag-ne1 c =
    let a = c.args in
    (over_none a.flag (cost_in (column_of 16 a.costs.now) a.word.now a.place) a.least (ne_eqb a.flag 1 c.if-flag-ne1.true), omega arith)

pub returns : goal.returns
returns c =
    let a = c.args in (
      over-made (column_of 16 a.costs.now) a.word.now a.place a.least c.if-flag-ne1.false c.entry_or.ensures
          c.cost_of.ensures c.saturating_sub.ensures,
      omega arith,
    )
