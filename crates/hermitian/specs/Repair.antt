-- The least Q through a word gives the function near it: the decoding theorem on keys.
--
--   limit w M T        2(o + M) + 1, where T points have a locator up to the order o = order_of w T: the largest key that decoding needs
use Rattle.std.specs.Prelude.{List, get_or}
use Prim.Native.Nat.{ℕ, ◌+◌, ◌*◌}
use Rattle.algebra.specs.Field.{Field}
use Rattle.hermitian.specs.Orders.{order_of}
use Rattle.hermitian.specs.Interpolation.{Sample}

unfoldable pub limit : ℕ → ℕ → ℕ → ℕ
limit w M T = 2 * (order_of w T + M) + 1

module _ {F : Type 0} (K : Field F) (w M : ℕ) {P : Type 0} (sample : P → Sample K w) (d : P) (ps : List P) where
  -- the points and the word, by index
  abbrev pub x_at : ℕ → F
  x_at i = (sample (get_or ps i d)).x

  abbrev pub y_at : ℕ → F
  y_at i = (sample (get_or ps i d)).y

  abbrev pub z_at : ℕ → F
  z_at i = (sample (get_or ps i d)).z
