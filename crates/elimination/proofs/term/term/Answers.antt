-- The monomial alone, or times the symbols, with itself as slope.
use Rattle.hermitian.specs.Keys.{key-even, key-odd}
use Rattle.elimination.proofs.Monomials.{term-plain, term-z}
use Rattle.elimination.proofs.term.term.Goals as goal

pub monomial-requires : goal.monomial-requires
monomial-requires c = key-even c.if-key-eq0.true c.requires

pub returns-then-key-eq0 : goal.returns-then-key-eq0
returns-then-key-eq0 c = term-plain _ _ _ _ c.if-key-eq0.true c.monomial.ensures c.spread.ensures c.joined.ensures

pub overflow_sub-order : goal.overflow_sub-order
overflow_sub-order c = (key-odd c.if-key-eq0.false c.requires).0

pub monomial-values-requires : goal.monomial-values-requires
monomial-values-requires c = (key-odd c.if-key-eq0.false c.requires).1

pub returns : goal.returns
returns c = term-z _ _ _ _ c.if-key-eq0.false c.monomial-values.ensures c.times.ensures c.joined-2.ensures
