-- The mark of a word that no codeword undercuts, near or not: over the sum of all best costs it costs no more than changing it to another codeword
-- must cost.
--
--   is_below counts gap t p   place p counts and has a gap below t
--   sum_in n counts f       the sum of f over those of the n places that count
--   low_sum n j counts gap  the sum of the j smallest gaps of the places that count; of all of them, where fewer count
--   best_cost columns p     the cost of the best symbol at place p; best_total n columns: the sum over all n places
--   plain_gap columns p     the gap at place p, second cost minus best cost, also where a pinned second counts as more for choosing doubtful places
--   unchanged columns word p   place p is not changed: it is blank, or the word has the best symbol there
--   slack n far columns word   the sum of the smallest far − c plain gaps over unchanged places, where c places are changed; 0 where that number
--                          is not positive. A blank place is unchanged, and its gap is 0 as it stands (MarkLaws blank-gap)
--   excess_in n counts columns word   what the word costs over the best costs at those of n places that count, place by place
--   is_marked n far columns word   the word's total, minus the sum of all best costs, is at most the slack
use Rattle.std.specs.Prelude.{Bool, not, cond, ◌&&◌, List, ℕ, ◌-◌, leb, ltb}
use Rattle.lists.specs.Count.{sum_of}
use Rattle.soft.specs.Column.{cost_of, best_of, gap_of}
use Rattle.soft.specs.Doubt.{few_ahead}
use Rattle.soft.specs.Total.{cost_in, total_of, changed_at, changed_of}

abbrev pub is_below : (ℕ → Bool) → (ℕ → ℕ) → ℕ → ℕ → Bool
is_below counts gap t p = counts p && ltb (gap p) t

unfoldable pub sum_in : ℕ → (ℕ → Bool) → (ℕ → ℕ) → ℕ
sum_in n counts f = sum_of n (λ p. cond (counts p) (f p) 0)

unfoldable pub low_sum : ℕ → ℕ → (ℕ → Bool) → (ℕ → ℕ) → ℕ
low_sum n j counts gap = sum_in n (few_ahead n j counts gap) gap

abbrev pub best_cost : (ℕ → List ℕ) → ℕ → ℕ
best_cost columns p = cost_of (columns p) (best_of (columns p))

unfoldable pub best_total : ℕ → (ℕ → List ℕ) → ℕ
best_total n columns = sum_of n (best_cost columns)

abbrev pub plain_gap : (ℕ → List ℕ) → ℕ → ℕ
plain_gap columns p = gap_of (columns p)

abbrev pub unchanged : (ℕ → List ℕ) → List ℕ → ℕ → Bool
unchanged columns word p = not (changed_at columns word p)

-- the difference of natural numbers is 0 where it would not be positive
unfoldable pub slack : ℕ → ℕ → (ℕ → List ℕ) → List ℕ → ℕ
slack n far columns word = low_sum n (far - changed_of n columns word) (unchanged columns word) (plain_gap columns)

unfoldable pub is_marked : ℕ → ℕ → (ℕ → List ℕ) → List ℕ → Bool
is_marked n far columns word = leb (total_of n columns word - best_total n columns) (slack n far columns word)

unfoldable pub excess_in : ℕ → (ℕ → Bool) → (ℕ → List ℕ) → List ℕ → ℕ
excess_in n counts columns word = sum_in n counts (λ p. cost_in columns word p - best_cost columns p)
