-- The session is the one that delivery of the column leaves.
use borrow.Author.Rules.{rules}
use Rattle.stream.proofs.Answering.{delivered-as}
use Rattle.stream.proofs.replies.deliver.Goals as goal

pub returns : goal.returns
returns c = search (rules, delivered-as)
