-- By the two cases of a digit.
use borrow.Author.Tests.{lt-ltb, le-ltb}
use Rattle.text.specs.Text.{hex_of}
use Rattle.text.proofs.hex_digit.Goals as goal

pub returns-then-digit-lt10 : goal.returns-then-digit-lt10
unfolding hex_of
returns-then-digit-lt10 c = simp (lt-ltb _ _ c.if-digit-lt10.true)

pub returns : goal.returns
unfolding hex_of
returns c = simp (le-ltb _ _ c.if-digit-lt10.false)
