-- `summary::flag_of` meets its contract: a place with a gap is not blank.
use mathlib.Core.Path.{ap, ◌∙◌}
use native.Mathlib.Omega.{arith}
use Rattle.lists.specs.Count.{bit, from_bit}
use Rattle.soft.specs.Column.{column_of}
use Rattle.soft.specs.ColumnLaws.{column-length}
use Rattle.summary.proofs.Turns.{gap-open}
use Rattle.summary.proofs.flag_of.Goals as goal

pub returns-then-gap-ne0 : goal.returns-then-gap-ne0
returns-then-gap-ne0 c =
    let a = c.args in
    gap-open (column_of 16 a.costs.now) a.place (omega (arith, column-length 16 a.costs.now a.place)) _ c.requires c.if-gap-ne0.true

pub returns : goal.returns
returns c = (from_bit _ c.from.ensures).0 ∙ ap bit c.is_open.ensures
