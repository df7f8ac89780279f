-- The margin to the runner-up, as the code has it and as the theory has it.
--
--   Margin             the code's margin: a number, or none where there is no runner-up
--   margin_is d        the theory's margin of the code's
--   margin_from o      the code's of the theory's; is-from, from_is: the two are inverse to each other
use Rattle.std.specs.Prelude.{◌≡◌, refl, ℕ, Some, None}
use Rattle.std.specs.Prelude as Code
use Rattle.std.proofs.Math.Option.{Option, none, some}

abbrev pub Margin : Type 0
Margin = Code.Option ℕ

unfoldable pub margin_is : Margin → Option ℕ
margin_is None = none
margin_is (Some d) = some d

unfoldable pub margin_from : Option ℕ → Margin
margin_from none = None
margin_from (some d) = Some d

pub is-from : (o : Option ℕ) → margin_is (margin_from o) ≡ o
unfolding margin_is margin_from
is-from none = refl
is-from (some d) = refl

pub from_is : (d : Margin) → margin_from (margin_is d) ≡ d
unfolding margin_is margin_from
from_is None = refl
from_is (Some d) = refl
