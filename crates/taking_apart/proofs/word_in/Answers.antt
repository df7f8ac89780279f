-- The symbols passed are stored.
use mathlib.Core.Path.{refl}
use Rattle.lists.specs.Filled.{filled-start, filled-turn, filled-end}
use Rattle.soft.specs.Column.{places}
use Rattle.superframe.specs.Superframe.{symbol_in, word_in}
use borrow.Author.Rules.{rules}
use Rattle.taking_apart.proofs.word_in.Goals as goal

pub loop-place-init : goal.loop-place-init
loop-place-init c = filled-start _ _

pub loop-place-preserved : goal.loop-place-preserved
unfolding symbol_in
loop-place-preserved c = filled-turn 0 c.loop-place.invariant _ (search rules) refl

pub returns : goal.returns
unfolding word_in
returns c = filled-end 0 c.loop-place.invariant places refl c.loop-place-test.false
