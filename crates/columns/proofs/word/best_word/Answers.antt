-- `soft::doubt::best_word` meets its contract. The loop's invariant: the places passed are stored, the rest is as it was.
use mathlib.Core.Path.{◌≡◌, ap, ◌∙◌}
use native.Mathlib.Omega.{arith}
use Rattle.lists.specs.Listed.{listed_start, listed-store, listed-end}
use Rattle.soft.specs.Column.{best_of}
use Rattle.soft.specs.TestWord.{best_word}
use Rattle.columns.proofs.word.best_word.Goals as goal

pub loop-place-init : goal.loop-place-init
loop-place-init c = (omega arith, listed_start _ _)

pub loop-place-preserved : goal.loop-place-preserved
loop-place-preserved c = (
  omega arith,
  listed-store 0 _ _ _ _ _ (omega arith) (c.best.ensures ∙ ap best_of c.column_of.ensures) c.loop-place.invariant.1,
)

pub returns : goal.returns
unfolding best_word
returns c =
    let e : c.loop-place.place ≡ 64 = omega arith in
    rw e at (listed-end _ _ _ _ (omega arith) c.loop-place.invariant.1)
