-- `galois::power` meets its contract: the table is the list of the powers of α, by one computation, and powers go round.
use mathlib.Core.Path.{◌∙◌}
use borrow.Author.Rules.{rules}
use Rattle.lists.specs.Listed.{listed, listed_at}
use Rattle.galois.specs.Binary as Binary
use Rattle.galois.specs.Gf16.{alpha}
use Rattle.galois.specs.Field16.{alpha-cycle}
use Rattle.galois.proofs.power.Goals as goal

pub returns : goal.returns
unfolding listed alpha Binary.power Binary.times Binary.shift_add Binary.xtime
returns c = listed_at 15 _ alpha 0 (search rules) ∙ alpha-cycle c.args.n
