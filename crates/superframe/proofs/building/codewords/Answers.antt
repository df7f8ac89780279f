-- The codewords of the messages passed are stored.
use mathlib.Core.List.{[]}
use mathlib.Core.Path.{refl, ◌∙◌}
use native.Mathlib.Omega.{arith}
use Rattle.lists.specs.Block.{row-end}
use Rattle.lists.specs.Filled.{filled-start, filled-turn, filled-end}
use Rattle.code.specs.Rates.{known-bounds}
use Rattle.superframe.specs.Superframe.{words}
use Rattle.superframe.proofs.Built.{part-encoded}
use borrow.Author.Rules.{rules}
use Rattle.superframe.proofs.building.codewords.Goals as goal

pub loop-v-init : goal.loop-v-init
loop-v-init c = filled-start _ _

pub overflow_mul-at : goal.overflow_mul-at
overflow_mul-at c = omega (arith, row-end c.args.rate c.loop-v.v words c.loop-v-test.true, known-bounds _ c.requires.0)

pub overflow_add-end : goal.overflow_add-end
overflow_add-end c = omega (arith, row-end c.args.rate c.loop-v.v words c.loop-v-test.true, known-bounds _ c.requires.0)

pub slice_bounds-codeword_of-end : goal.slice_bounds-codeword_of-end
slice_bounds-codeword_of-end c = omega (arith, row-end c.args.rate c.loop-v.v words c.loop-v-test.true, c.requires.1)

pub loop-v-preserved : goal.loop-v-preserved
loop-v-preserved c = filled-turn [] c.loop-v.invariant _ (search rules) (c.codeword_of.ensures ∙ part-encoded _ _ _ c.requires.0)

pub returns : goal.returns
returns c = filled-end [] c.loop-v.invariant words refl c.loop-v-test.false
