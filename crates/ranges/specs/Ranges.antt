-- A list each of whose numbers is below a bound.
--
--   below-from           it is below the bound
use Rattle.std.specs.Prelude.{true, ◌≡◌, refl, List, [], ◌∷◌, ℕ, suc, ◌<◌, ltb, length, get_or}
use Rattle.std.proofs.Common.{arith, lt-ltb}
use Rattle.lists.specs.Distinct.{below, and_both}

pub below-from : (n : ℕ) (l : List ℕ) → ((i : ℕ) → get_or l i 0 < n) → below n l ≡ true
unfolding below
below-from n [] h = refl
below-from n (x ∷ l) h = and_both (ltb x n) (below n l) (lt-ltb x n (h 0)) (below-from n l (λ i. h (suc i)))
