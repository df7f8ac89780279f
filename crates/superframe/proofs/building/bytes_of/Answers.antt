-- The bytes passed are stored.
use mathlib.Core.Path.{refl}
use Rattle.lists.specs.Filled.{filled-start, filled-turn, filled-end}
use Rattle.superframe.specs.Superframe.{frame_length}
use Rattle.superframe.proofs.Built.{frame_made}
use borrow.Author.Rules.{rules}
use Rattle.superframe.proofs.building.bytes_of.Goals as goal

pub loop-i-init : goal.loop-i-init
loop-i-init c = filled-start _ _

pub loop-i-preserved : goal.loop-i-preserved
loop-i-preserved c = filled-turn 0 c.loop-i.invariant _ (search rules) c.byte_of.ensures

pub returns : goal.returns
returns c = frame_made _ _ (filled-end 0 c.loop-i.invariant frame_length refl c.loop-i-test.false)
