-- `coefficient` meets its contract: a missing order, or the symbol that stands there, and 0 past the last.
use mathlib.Core.Path.{◌∙◌}
use Rattle.family.specs.Member.{m16}
use Rattle.encoding.proofs.Symbols.{missing-coefficient, symbol-coefficient}
use Rattle.encoding.proofs.coefficient.Goals as goal

pub returns-then-order : goal.returns-then-order
returns-then-order c = missing-coefficient m16 _ _ c.if-order.true

pub returns : goal.returns
returns c = c.entry_or.ensures ∙ symbol-coefficient m16 _ _ c.if-order.false c.rank.ensures
