-- `reading::flags` meets its contract. The loop's invariant: the flags of the places passed are stored.
use mathlib.Core.Path.{refl}
use borrow.Author.Rules.{rules}
use Rattle.lists.specs.Filled.{filled-start, filled-turn, filled-end}
use Rattle.reading.specs.Flags.{read_flag}
use Rattle.reading.proofs.flags.Goals as goal

pub loop-place-init : goal.loop-place-init
loop-place-init c = filled-start _ _

pub loop-place-preserved : goal.loop-place-preserved
unfolding read_flag
loop-place-preserved c = filled-turn 0 c.loop-place.invariant _ (search rules) c.flag.ensures

pub returns : goal.returns
returns c = filled-end 0 c.loop-place.invariant 64 refl c.loop-place-test.false
