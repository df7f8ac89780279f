-- Which places are doubtful (the least reliable positions): of those that are not blank the d places of smallest gap, equal gaps to the lower
-- place. A second cost at the ceiling over a lower best counts as a gap of 65535 here.
--
--   most_doubt              12, the largest doubt
--   ahead_by g p h q        place p with gap g is ahead of place q with gap h: its gap is smaller, or equal and p is the lower place
--   ahead gap p q          the same of two places of a table, where gap p is the gap at place p
--   ahead_of n counts gap q   how many of those of the n places that count are ahead of place q
--   smallest n d counts gap  of those of the n places that count the d with the smallest gaps, rising: those with fewer than d of them ahead;
--                          all of them, where they are fewer
--   gap_at columns p        the gap of the column at place p, as it counts for choosing
--   doubtful_of n d columns the doubtful places of a table with doubt d: blank places are neither chosen nor counted ahead
use Rattle.std.specs.Prelude.{Bool, ◌&&◌, ◌||◌, List, ℕ, ltb, eqb}
use Rattle.lists.specs.Count.{count, kept}
use Rattle.soft.specs.Column.{doubt_gap_of}
use Rattle.soft.specs.Blank.{open_at}

-- the largest doubt, and the length of the longest doubtful list: document 02 has it rise from 8 to 12
abbrev pub most_doubt : ℕ
most_doubt = 12

unfoldable pub ahead_by : ℕ → ℕ → ℕ → ℕ → Bool
ahead_by g p h q = ltb g h || (eqb g h && ltb p q)

abbrev pub ahead : (ℕ → ℕ) → ℕ → ℕ → Bool
ahead gap p q = ahead_by (gap p) p (gap q) q

unfoldable pub ahead_of : ℕ → (ℕ → Bool) → (ℕ → ℕ) → ℕ → ℕ
ahead_of n counts gap q = count n (λ p. counts p && ahead gap p q)

abbrev pub few_ahead : ℕ → ℕ → (ℕ → Bool) → (ℕ → ℕ) → ℕ → Bool
few_ahead n d counts gap q = counts q && ltb (ahead_of n counts gap q) d

unfoldable pub smallest : ℕ → ℕ → (ℕ → Bool) → (ℕ → ℕ) → List ℕ
smallest n d counts gap = kept n (few_ahead n d counts gap)

abbrev pub gap_at : (ℕ → List ℕ) → ℕ → ℕ
gap_at columns p = doubt_gap_of (columns p)

unfoldable pub doubtful_of : ℕ → ℕ → (ℕ → List ℕ) → List ℕ
doubtful_of n d columns = smallest n d (open_at columns) (gap_at columns)
