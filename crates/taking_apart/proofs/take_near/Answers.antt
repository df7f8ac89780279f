-- Decoded by its costs, without doubt.
use Rattle.taking_apart.proofs.Apart.{word-askable, near-taken}
use borrow.Author.Rules.{rules}
use Rattle.taking_apart.proofs.take_near.Goals as goal

pub decode-requires : goal.decode-requires
decode-requires c = (word-askable _ c.requires.0 c.hard_costs.ensures.0 c.requires.1 (search rules), c.summary_of-summary.ensures)

pub returns : goal.returns
returns c = near-taken _ _ _ c.hard_costs.ensures.1 c.decode.ensures
