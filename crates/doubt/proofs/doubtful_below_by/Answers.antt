-- `doubt::doubtful_below_by` meets its contract: a threshold has two bytes, so no blank place is counted below it, and the number counted, one at least and the
-- most at most, is the doubt with which the places chosen by the keys are those of the threshold.
use mathlib.Core.Path.{ap, ◌∙◌}
use native.Mathlib.Omega.{arith}
use lib.Dec.{lit<}
use Rattle.soft.specs.Threshold.{clamp_of}
use Rattle.weighing.specs.Keys.{chosen-closest}
use Rattle.weighing.specs.Summed.{keyed-by-apart, keyed-summary}
use Rattle.doubt.specs.Picked.{picked_same}
use Rattle.doubt.proofs.doubtful_below_by.Goals as goal

pub picked_by-requires : goal.picked_by-requires
picked_by-requires c = keyed-by-apart c.keys_of-keys.ensures

pub returns : goal.returns
returns c =
    λ columns S. picked_same
    (chosen-closest (keyed-summary S (lit< tt) c.keys_of-keys.ensures) _ _ _ (omega arith)
    (c.clamp.ensures ∙ ap (clamp_of _) c.count_below-below.ensures))
    c.picked_by.ensures
