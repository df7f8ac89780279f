-- `ys` meets its contract: the table's rule, which is computed once over all its entries.
use Rattle.lists.specs.Count.{kept}
use Rattle.lists.specs.Listed.{listed}
use Rattle.lists.specs.Same.{same, same-yes}
use Rattle.galois.specs.Binary as Binary
use Rattle.family.specs.Curve as Family
use Rattle.curve.proofs.ys.Goals as goal

pub returns : goal.returns
unfolding same listed Family.y_of Family.fibre kept Family.is_on_curve Binary.power Binary.times Binary.shift_add Binary.xtime
returns c = same-yes _ _ tt
