-- A power of y, or that power times the symbols, with itself as slope.
use borrow.Author.Rules.{rules}
use mathlib.Core.Path.{refl}
use Rattle.interpolation.proofs.Starting.{row_plain, row-z}
use Rattle.interpolation.proofs.start.start_row.Goals as goal

pub returns-then-r-eq0 : goal.returns-then-r-eq0
returns-then-r-eq0 c = row_plain _ _ (search rules) _ c.requires.1 _ c.if-r-eq0.true c.joined.ensures

pub returns : goal.returns
returns c = row-z _ _ (search rules) _ c.requires.1 _ c.if-r-eq0.false refl c.times.ensures c.joined-2.ensures
