-- The cases of two margins.
use Rattle.search.specs.Joining.{lesser-absent, lesser-unrivalled, lesser_both}
use borrow.Author.Rules.{rules}
use Rattle.answers.proofs.lesser.Goals as goal

pub returns-in-Some-Some : goal.returns-in-Some-Some
returns-in-Some-Some c = lesser_both _ _ c.in-Some-Some.is-0 c.in-Some-Some.is-1 (search rules)

pub returns-in-None-default : goal.returns-in-None-default
returns-in-None-default c = lesser-absent _ _ c.in-None-default.is-0

pub returns-in_default-None : goal.returns-in_default-None
returns-in_default-None c = lesser-unrivalled _ _ c.in_default-None.is-1
