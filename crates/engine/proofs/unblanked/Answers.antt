-- The flags of the places passed are stored.
use mathlib.Core.Bool.{Bool, true, false, not}
use mathlib.Core.Path.{◌≡◌, refl, ap, ◌∙◌}
use mir.Val.{bool_byte}
use borrow.Author.Tests.{lt-ltb}
use borrow.Author.Rules.{rules}
use Rattle.lists.specs.Count.{bit}
use Rattle.lists.specs.Filled.{filled-start, filled-turn, filled-end}
use Rattle.book64.specs.engine.Engine.{unblanked_by}
use Rattle.engine.proofs.unblanked.Goals as goal

pub loop-place-init : goal.loop-place-init
loop-place-init c = filled-start _ _

byte-bit : (b : Bool) → bool_byte b ≡ bit b
byte-bit true = refl
byte-bit false = refl

pub loop-place-preserved : goal.loop-place-preserved
unfolding unblanked_by
loop-place-preserved c =
    filled-turn 0 c.loop-place.invariant _ (search rules)
    (c.from.ensures ∙ byte-bit _ ∙ rw (lt-ltb _ _ c.loop-place-test.true) (ap (λ b. bit (not b)) c.is_among.ensures))

pub returns : goal.returns
returns c = filled-end 0 c.loop-place.invariant 64 refl c.loop-place-test.false
