-- `write_opened` meets its contract: of an accepted opening what writing answers is handed on.
use borrow.Author.Rules.{rules}
use Rattle.captures.proofs.Cases.{accepted_on}
use Rattle.captures.proofs.write_opened.Goals as goal

pub returns-in-Ok : goal.returns-in-Ok
returns-in-Ok c = search (rules, accepted_on)
