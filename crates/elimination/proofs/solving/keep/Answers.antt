-- Only a place has a row.
use Rattle.elimination.proofs.Keys.{kept_row, no_row}
use borrow.Author.Rules.{rules}
use Rattle.elimination.proofs.solving.keep.Goals as goal

pub returns-then-place-lt-PLACES : goal.returns-then-place-lt-PLACES
returns-then-place-lt-PLACES c = kept_row _ _ _ (search rules) (search rules)

pub returns-else-place-lt-PLACES : goal.returns-else-place-lt-PLACES
returns-else-place-lt-PLACES c = no_row _ _ _ c.if-place-lt-PLACES.false
