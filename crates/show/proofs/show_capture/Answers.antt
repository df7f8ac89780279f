-- The lines are those of the capture's book, opened or refused.
use borrow.Author.Rules.{rules}
use Rattle.show.proofs.Cases.{accepted_shown, refused_shown}
use Rattle.show.proofs.show_capture.Goals as goal

pub returns-in-Ok : goal.returns-in-Ok
returns-in-Ok c = search (rules, accepted_shown)

pub returns-in-Err : goal.returns-in-Err
returns-in-Err c = search (rules, refused_shown)
