-- Why the decoder repairs: a word with at most T wrong values has its function in every small Q that passes through it.
--
--   Radius w M T n       2T + M + g < n: so many wrong values can be repaired
--   Near K w M T n x y t f    f is a function of order at most M whose values differ from t in at most T of n points
--   Vanishes K w px py z q r  Q = q + r·z is zero at the point (px, py) and z
--   PassesThrough K w n x y t q r   Q vanishes at each point (x i, y i) and t i, i < n
--   Small K w M L q r    q and r are functions of orders at most L + M and L: the key of Q is at most 2(L + M) + 1
use Rattle.std.specs.Prelude.{ℕ, suc, ◌+◌, ◌*◌, ◌<◌, ◌≤◌}
use Rattle.algebra.specs.Field.{Field}
use Rattle.algebra.specs.Coefficients.{Below}
use Rattle.algebra.specs.Distance.{differing}
use Rattle.hermitian.specs.Present.{genus}
use Rattle.hermitian.specs.Ring.{Fn}
use Rattle.hermitian.specs.Value.{Val}

abbrev pub Radius : ℕ → ℕ → ℕ → ℕ → Type 0
Radius w M T n = 2 * T + M + genus w < n

module _ {F : Type 0} (K : Field F) (w : ℕ) where
  open K use {◌⊗◌}

  pub record Near (M T n : ℕ) (x y t f : ℕ → F) : Type 0 where
    pub fn : Fn K w f
    pub order : Below K f (suc M)
    pub value : ℕ → F
    pub val : (i : ℕ) → i < n → Val K w (x i) (y i) f (value i)
    pub few : differing K n value t ≤ T

  -- Q0's value is z times Q1's, so that Q0 + Q1 z is zero there
  pub record Vanishes (px py z : F) (q r : ℕ → F) : Type 0 where
    pub value : F
    pub val_with_z : Val K w px py r value
    pub val_plain : Val K w px py q (z ⊗ value)

  abbrev pub PassesThrough : ℕ → (ℕ → F) → (ℕ → F) → (ℕ → F) → (ℕ → F) → (ℕ → F) → Type 0
  PassesThrough n x y t q r = (i : ℕ) → i < n → Vanishes (x i) (y i) (t i) q r

  pub record Small (M L : ℕ) (q r : ℕ → F) : Type 0 where
    pub fn_plain : Fn K w q
    pub fn_with_z : Fn K w r
    pub order_plain : Below K q (suc (L + M))
    pub order_with_z : Below K r (suc L)
