-- The bytes stand behind the text, one more at each turn.
use mathlib.Core.Path.{refl}
use Rattle.text.proofs.Put.{putting-start, putting-turn, putting-whole, putting-room, putting-length}
use Rattle.text.proofs.put_bytes.Goals as goal

pub loop-i-init : goal.loop-i-init
loop-i-init c = putting-start c.args.out.now c.args.at c.args.bytes.now c.requires

pub bounds-out-at : goal.bounds-out-at
bounds-out-at c = putting-room c.loop-i.invariant c.loop-i-test.true

pub loop-i-preserved : goal.loop-i-preserved
loop-i-preserved c = putting-turn c.loop-i.invariant c.loop-i-test.true refl

pub shape_of-out : goal.shape_of-out
shape_of-out c = putting-length c.loop-i.invariant

pub returns : goal.returns
returns c = putting-whole c.loop-i.invariant c.loop-i-test.false refl
