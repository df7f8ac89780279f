-- Which places a threshold makes doubtful: of those that are not blank the first, whatever its gap, and then each whose gap is smaller than the
-- threshold, until there are as many as the maximum allows. What a gap is, and which place is first, is said in Doubt.
--
--   is_close n t m counts gap q   place q counts, fewer than m of the n places that count are ahead of it, and none is or its gap is below t
--   closest n t m counts gap     the places below n that are, rising
--   closest_of n t m columns      the doubtful places of a table with the threshold t and the maximum m
--   below_of n t counts gap       how many of the n places count and have a gap below t
--   clamp_of m c                  the number c, but 1 at least and m at most: how many places are chosen
--   doubt_below n t m columns     the doubt with which the places of smallest gap are the same
use Rattle.std.specs.Prelude.{Bool, cond, ◌&&◌, ◌||◌, List, ℕ, ltb, eqb}
use Rattle.lists.specs.Count.{count, kept}
use Rattle.soft.specs.Blank.{open_at}
use Rattle.soft.specs.Doubt.{ahead_of, gap_at}

-- the first of the order whatever its gap, every other one only below the threshold, and none with m ahead of it
abbrev pub is_close : ℕ → ℕ → ℕ → (ℕ → Bool) → (ℕ → ℕ) → ℕ → Bool
is_close n t m counts gap q =
    counts q && (ltb (ahead_of n counts gap q) m && (eqb (ahead_of n counts gap q) 0 || ltb (gap q) t))

unfoldable pub closest : ℕ → ℕ → ℕ → (ℕ → Bool) → (ℕ → ℕ) → List ℕ
closest n t m counts gap = kept n (is_close n t m counts gap)

unfoldable pub closest_of : ℕ → ℕ → ℕ → (ℕ → List ℕ) → List ℕ
closest_of n t m columns = closest n t m (open_at columns) (gap_at columns)

unfoldable pub below_of : ℕ → ℕ → (ℕ → Bool) → (ℕ → ℕ) → ℕ
below_of n t counts gap = count n (λ p. counts p && ltb (gap p) t)

unfoldable pub clamp_of : ℕ → ℕ → ℕ
clamp_of m c = cond (ltb c m) (cond (eqb c 0) 1 c) m

unfoldable pub doubt_below : ℕ → ℕ → ℕ → (ℕ → List ℕ) → ℕ
doubt_below n t m columns = clamp_of m (below_of n t (open_at columns) (gap_at columns))
