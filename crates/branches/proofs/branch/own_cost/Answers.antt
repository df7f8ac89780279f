-- A blank place, a byte that is no symbol, and a symbol.
use mathlib.Core.Path.{sym, ◌∙◌}
use native.Mathlib.Omega.{arith}
use Rattle.branches.proofs.Fading.{own-blank, own-none, own-symbol}
use Rattle.branches.proofs.branch.own_cost.Goals as goal

pub returns-then-is_among : goal.returns-then-is_among
returns-then-is_among c = own-blank _ _ _ _ (sym c.is_among.ensures ∙ c.if-is_among.true)

pub returns-then-entry_or-gt15 : goal.returns-then-entry_or-gt15
returns-then-entry_or-gt15 c = own-none _ _ _ (omega arith)

pub returns : goal.returns
returns c = own-symbol _ _ _ (omega arith) (sym c.is_among.ensures ∙ c.if-is_among.false) (omega arith)
