-- The two cases.
use mathlib.Core.Path.{refl}
use mathlib.Core.Logic.{inl, inr}
use Rattle.basis.specs.Choice.{lead_at}
use borrow.Author.Rules.{rules}
use Rattle.tree.proofs.lower.Goals as goal

pub returns-then-leads-q : goal.returns-then-leads-q
unfolding lead_at
returns-then-leads-q c = (search rules, search rules, search rules, inr refl)

pub returns : goal.returns
unfolding lead_at
returns c = (search rules, search rules, search rules, inl refl)
