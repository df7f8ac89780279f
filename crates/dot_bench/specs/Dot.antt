-- The sum of the products of two rows.
--
--   dot n a b   of their first n entries
--   dot-next    one entry more
use Rattle.std.specs.Prelude.{List, ◌≡◌, ℕ, zero, suc, ◌+◌, get_or}
use Rattle.std.proofs.Common.{ap, ap₂, sym, ◌∙◌, add-one}
use Rattle.std.specs.Int.Bits.{bit_xor}
use Rattle.galois.specs.Gf16.{times}

unfoldable pub dot : ℕ → List ℕ → List ℕ → ℕ
dot zero a b = 0
dot (suc n) a b = bit_xor (dot n a b) (times (get_or a n 0) (get_or b n 0))

pub dot-next : (n : ℕ) (a b : List ℕ) {sum r : ℕ} → sum ≡ dot n a b → r ≡ times (get_or a n 0) (get_or b n 0) → bit_xor sum r ≡ dot (n + 1) a b
unfolding dot
dot-next n a b p q = ap₂ bit_xor p q ∙ ap (λ m. dot m a b) (sym (add-one n))
