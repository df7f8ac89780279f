-- Key by key: the rows are those of the terms passed, in echelon form.
use mathlib.Core.Path.{◌∙◌}
use native.Mathlib.Omega.{arith}
use Rattle.elimination.proofs.Keys.{no_rows, key-absent, key-turn, key-found, key-none}
use borrow.Author.Rules.{rules}
use Rattle.elimination.proofs.solving.solve.Goals as goal

pub loop-key-init : goal.loop-key-init
loop-key-init c = (omega arith, search rules, no_rows _ _ _)

pub returns-then-place-eq-PLACES : goal.returns-then-place-eq-PLACES
returns-then-place-eq-PLACES c =
    key-found c.loop-key.invariant.2 c.in-Some.ensures c.planes-symbols.ensures (omega (arith, c.if-place-eq-PLACES.true)) (omega (arith, c.loop-key-test.true))

pub loop-key-preserved-in_default : goal.loop-key-preserved-in_default
loop-key-preserved-in_default c = (omega arith, c.loop-key.invariant.1, key-absent c.loop-key.invariant.2 c.in_default.ensures)

pub loop-key-preserved : goal.loop-key-preserved
loop-key-preserved c =
    (omega arith, c.keep.ensures.as_long ∙ c.loop-key.invariant.1, key-turn c.loop-key.invariant.2 c.in-Some.ensures c.if-place-eq-PLACES.false c.keep.ensures)

pub returns : goal.returns
returns c = key-none c.loop-key.invariant.2 c.args.word c.args.limit c.planes-symbols.ensures (omega arith)
