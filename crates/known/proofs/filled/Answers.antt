-- The loop's invariant: the word so far, filled at the places still to come, is the whole word filled.
use mathlib.Core.Path.{sym, ◌∙◌, refl}
use Rattle.soft.specs.Column.{places}
use Rattle.known.proofs.Passing.{written-next, written-none}
use borrow.Author.Rules.{rules}
use Rattle.known.proofs.filled.Goals as goal

pub loop-p-preserved : goal.loop-p-preserved
loop-p-preserved c =
    let i = c.loop-p.invariant in
    (search rules, i.1 ∙ written-next c.args.places.now c.loop-p.p-index places _ _ (search rules) refl)

pub returns : goal.returns
returns c = sym (c.loop-p.invariant.1 ∙ written-none c.args.places.now c.loop-p.p-index places _ _ (search rules))
