-- `galois::inverse` meets its contract: the table is the list of the inverses, by one computation over all its entries.
use mathlib.Core.Path.{◌∙◌}
use borrow.Author.Rules.{rules}
use Rattle.lists.specs.Listed.{listed, listed_at}
use Rattle.galois.specs.Binary as Binary
use Rattle.galois.specs.Gf16.{inverse}
use Rattle.galois.specs.Field16.{inverse-mod}
use Rattle.galois.proofs.inverse.Goals as goal

pub returns : goal.returns
unfolding listed Binary.inverse Binary.power Binary.times Binary.shift_add Binary.xtime
returns c = listed_at 16 _ inverse 0 (search rules) ∙ inverse-mod c.args.a
