-- The key of the first term, without z or with.
use borrow.Author.Rules.{rules}
use Rattle.family.specs.Member.{m16}
use Rattle.stepping.specs.Starting.{lead_plain, lead-z}
use Rattle.interpolation.proofs.start.start_lead.Goals as goal

pub returns-then-r-eq0 : goal.returns-then-r-eq0
returns-then-r-eq0 c = lead_plain m16 _ _ (search rules) c.if-r-eq0.true

pub returns : goal.returns
returns c = lead-z m16 _ _ (search rules) c.if-r-eq0.false
