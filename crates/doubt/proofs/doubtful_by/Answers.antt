-- `doubt::doubtful_by` meets its contract: the places chosen by the keys are the doubtful ones, and without doubt there are none.
use lib.Dec.{lit<}
use Rattle.soft.specs.Doubt.{most_doubt}
use Rattle.weighing.specs.Keys.{chosen-doubtful}
use Rattle.weighing.specs.Summed.{keyed-by-apart, keyed-summary}
use Rattle.doubt.specs.Picked.{picked_same}
use Rattle.weighing.specs.Doubting.{skipped-places, skipped-count}
use Rattle.doubt.proofs.doubtful_by.Goals as goal

pub returns-then-doubt-eq0 : goal.returns-then-doubt-eq0
returns-then-doubt-eq0 c = λ columns S. record { places = skipped-places _ columns _ c.if-doubt-eq0.true most_doubt; count = skipped-count _ columns _ c.if-doubt-eq0.true }

pub picked_by-requires : goal.picked_by-requires
picked_by-requires c = keyed-by-apart c.keys_of-keys.ensures

pub returns : goal.returns
returns c = λ columns S. picked_same (chosen-doubtful (keyed-summary S (lit< tt) c.keys_of-keys.ensures) _) c.picked_by.ensures
