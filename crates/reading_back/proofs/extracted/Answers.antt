-- `extracted` meets its contract: the loop stores each message symbol, which is the coefficient of its order.
use mathlib.Core.Path.{refl, ap, ◌∙◌}
use lib.ListN.{length}
use Rattle.lists.specs.Padded.{padded-same}
use Rattle.lists.specs.Filled.{filled-start, filled-turn, filled-end}
use Rattle.lists.specs.Words.{all_below}
use Rattle.coefficients.specs.Reading.{coefficients_of}
use Rattle.code.specs.Rates.{order-fits}
use Rattle.family.specs.Extraction as Extraction
use Rattle.reading_back.proofs.Shown.{shown-word, message-entry}
use borrow.Author.Rules.{rules}
use Rattle.reading_back.proofs.extracted.Goals as goal

pub loop-t-init : goal.loop-t-init
loop-t-init c =
    let same = c.padded.ensures ∙ padded-same 64 _ c.requires.0 in (
      c.coefficients-shown.ensures
          ∙ ap coefficients_of (shown-word _ _ (ap length same ∙ c.requires.0) (ap (all_below 16) same ∙ c.requires.1) c.planes.ensures ∙ same),
      filled-start _ _,
    )

pub bounds-shown-order : goal.bounds-shown-order
bounds-shown-order c = (order-fits _ c.order.ensures).1

pub loop-t-preserved : goal.loop-t-preserved
loop-t-preserved c =
    let inv = c.loop-t.invariant in
    (inv.0, filled-turn 0 inv.1 _ (search rules) (message-entry _ _ c.loop-t-test.true inv.0 c.order.ensures))

pub returns : goal.returns
unfolding Extraction.extract_of
returns c = filled-end 0 c.loop-t.invariant.1 58 refl c.loop-t-test.false
