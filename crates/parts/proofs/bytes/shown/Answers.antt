-- Where the coefficient of a byte stands in the parts: without z, at order 64, or with z.
use borrow.Author.Rules.{rules}
use native.Mathlib.Omega.{arith}
use Rattle.parts.proofs.Shown.{shown-plain, shown-last, shown-z}
use Rattle.parts.proofs.bytes.shown.Goals as goal

pub returns-then-i-lt-PLACES : goal.returns-then-i-lt-PLACES
returns-then-i-lt-PLACES c = shown-plain _ _ _ (search rules)

pub returns-then-i-eq-PLACES : goal.returns-then-i-eq-PLACES
returns-then-i-eq-PLACES c = shown-last _ _ _ (search rules) c.if-i-eq-PLACES.true

pub returns : goal.returns
returns c = shown-z _ _ _ (omega arith)
