-- The words passed are named, and their parts stand before what is left of the buffer.
use mathlib.Core.Path.{refl}
use native.Mathlib.Omega.{arith}
use Rattle.lists.specs.Block.{row-end}
use Rattle.refusals.specs.Numbers.{number_of}
use Rattle.code.specs.Rates.{known-bounds}
use Rattle.superframe.specs.Superframe.{words}
use Rattle.taking_apart.proofs.Apart.{named-most, up-to-none, small, out-long, lent-long, word-turn, words-taken}
use Rattle.taking_apart.proofs.take_words.Goals as goal

pub loop-v-init : goal.loop-v-init
loop-v-init c = up-to-none _ _ _

pub overflow_mul-at : goal.overflow_mul-at
overflow_mul-at c = omega (arith, row-end c.args.rate c.loop-v.v words c.loop-v-test.true, known-bounds _ c.requires.0)

pub overflow_add-end : goal.overflow_add-end
overflow_add-end c = omega (arith, row-end c.args.rate c.loop-v.v words c.loop-v-test.true, known-bounds _ c.requires.0)

pub slice_bounds-take_word-end : goal.slice_bounds-take_word-end
slice_bounds-take_word-end c = omega (arith, row-end c.args.rate c.loop-v.v words c.loop-v-test.true, c.requires.2, out-long c.requires.2 c.loop-v.invariant)

pub take_word-answer-requires : goal.take_word-answer-requires
take_word-answer-requires c = (c.requires.0, c.requires.1, c.loop-v-test.true, lent-long c.requires.2 c.loop-v.invariant c.loop-v-test.true)

pub overflow_add-status : goal.overflow_add-status
overflow_add-status c = omega (arith, small c.requires.2 c.loop-v.invariant, named-most (number_of c.take_word-answer.result) c.named-status.ensures)

pub overflow_mul-weight : goal.overflow_mul-weight
overflow_mul-weight c = omega (arith, small c.requires.2 c.loop-v.invariant)

pub loop-v-preserved : goal.loop-v-preserved
loop-v-preserved c = word-turn c.requires.2 c.loop-v.invariant c.loop-v-test.true c.take_word-answer.ensures c.named-status.ensures

pub overflow_cast-result : goal.overflow_cast-result
overflow_cast-result c = omega (arith, small c.requires.2 c.loop-v.invariant)

pub shape_of-messages : goal.shape_of-messages
shape_of-messages c = out-long c.requires.2 c.loop-v.invariant

pub returns : goal.returns
returns c = words-taken c.requires.2 c.loop-v.invariant c.loop-v-test.false refl
