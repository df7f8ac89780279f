-- A key that is no term has no row; the row of a term is reduced.
use Rattle.elimination.proofs.Keys.{term-tries}
use Rattle.elimination.proofs.solving.tried.Goals as goal

pub returns-then-not-is_term : goal.returns-then-not-is_term
returns-then-not-is_term c = c.is_term.ensures.fails (c.if-not-is_term.true)

pub term-requires : goal.term-requires
term-requires c = c.is_term.ensures.holds (c.if-not-is_term.false)

pub returns : goal.returns
returns c = term-tries _ _ _ _ _ _ (c.is_term.ensures.holds (c.if-not-is_term.false)) c.term.ensures c.reduce.ensures
