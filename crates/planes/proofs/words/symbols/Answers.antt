-- `symbols` meets its contract: the loop stores what each lane holds, four at a time.
use mathlib.Core.Path.{refl}
use native.Mathlib.Omega.{arith}
use Rattle.lists.specs.Filled.{filled-start, filled-end}
use Rattle.planes.specs.Words.{word_of}
use Rattle.planes.proofs.Unpacked.{stored-four}
use borrow.Author.Rules.{rules}
use Rattle.planes.proofs.words.symbols.Goals as goal

pub loop-x-init : goal.loop-x-init
loop-x-init c = (search rules, filled-start _ _)

pub loop-x-preserved : goal.loop-x-preserved
loop-x-preserved c = (
  search rules,
  stored-four c.args.a _ _ c.loop-x-test.true refl c.four-four.ensures c.loop-x.invariant.1,
)

pub returns : goal.returns
unfolding word_of
returns c = filled-end 0 c.loop-x.invariant.1 64 refl (omega arith)
