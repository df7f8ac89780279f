-- Where every class counts, the class chosen has the least lead; and there is one.
use Rattle.std.specs.Prelude.{ℕ, List, Option, Some, None, unwrap_or, replicate}
use Rattle.std.proofs.Common.{arith}
use lib.Dec.{lit<}
use Rattle.basis.specs.Choice.{Chosen}
use Rattle.stepping.specs.Choice.{lowest-is}
use Rattle.interpolation.specs.Reading.{Lowest}
use Rattle.interpolation.proofs.lowest.lowest.Goals as goal

least : (leads : List ℕ) (o : Option ℕ) → Chosen 8 (replicate 8 1) leads (unwrap_or o 8) → Lowest leads (unwrap_or o 0)
least leads None h = absurd (omega (arith, (lowest-is 8 leads 8 (lit< tt) h).within))
least leads (Some r) h = lowest-is 8 leads r (lit< tt) h

pub returns : goal.returns
returns c = rw c.unwrap_or.ensures (least _ c.choice.result c.choice.ensures.0)
