-- Of the classes passed none with the parity has a smaller lead.
use native.Mathlib.Omega.{arith}
use Rattle.search.specs.Searching.{lowest-turn}
use borrow.Author.Rules.{rules}
use Rattle.tree.proofs.least_from.Goals as goal

pub loop-q-init : goal.loop-q-init
loop-q-init c = (search rules, search rules, record { within = search rules; alike = omega arith; lowest = λ p h e. absurd (omega arith) })

pub loop-q-preserved : goal.loop-q-preserved
loop-q-preserved c = (search rules, search rules, lowest-turn _ _ _ _ _ c.loop-q.invariant.1 c.lower-r.ensures.0 c.lower-r.ensures.1 c.lower-r.ensures.2 c.lower-r.ensures.3 c.loop-q.invariant.2)

pub returns : goal.returns
returns c =
    let low = c.loop-q.invariant.2 in
    record { within = low.within; alike = low.alike; lowest = λ p h e. low.lowest p (omega arith) e }
