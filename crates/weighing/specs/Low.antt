-- The sum of the smallest gaps as it is computed, for any number of places: changed places have a gap above all, and a threshold parts the others.
--
--   above                65,536: above all gaps
--   excess_by n counts columns word least   what the word costs over the costs of an array at those of n places that count, place by place;
--                        excess-best: over the best costs it is the excess
--   GapBy gap flag g     g is the gap, or above all where the flag is 1
--   gaps_of n columns flags   the list of them by the plain gaps; Gaps places columns flags gaps: so the entries of an array are
--   below_by n t gaps, sum_below n t gaps   how many of the first n entries are below t, and their sum
--   Splits places gaps few t   at most so few entries are below t, and at least so few are up to t
--   LowSum places gaps few r   r is the sum of the entries below such a t, and t for the rest of so few
--   clear_of places gaps due few   fewer entries than so few are below `due`, which is no larger than a gap may be
--   Markable places symbols columns word flags far   the word has a symbol of its column at each place, the flags are those of its changed places,
--                        and `far` is at most the number of places
use Rattle.std.specs.Prelude.{Bool, false, cond, ◌&&◌, ◌≡◌, List, ℕ, suc, ◌+◌, ◌-◌, ◌*◌, ◌<◌, ◌≤◌, eqb, ltb, length, get_or}
use Rattle.std.proofs.Common.{ap, ◌∙◌}
use Rattle.lists.specs.Count.{count, sum_of-ext}
use Rattle.lists.specs.Listed.{listed, listed_at}
use Rattle.soft.specs.Column.{ceiling, gap_of}
use Rattle.soft.specs.Blank.{flag_at}
use Rattle.soft.specs.Total.{symbol_at, cost_in, changed_flags}
use Rattle.soft.specs.Mark.{sum_in, best_cost, excess_in}

abbrev pub above : ℕ
above = suc ceiling

unfoldable pub excess_by : ℕ → (ℕ → Bool) → (ℕ → List ℕ) → List ℕ → List ℕ → ℕ
excess_by n counts columns word least = sum_in n counts (λ p. cost_in columns word p - get_or least p 0)

pub excess-best : (n : ℕ) (counts : ℕ → Bool) (columns : ℕ → List ℕ) (word : List ℕ) {least : List ℕ} → least ≡ listed n (best_cost columns)
    → excess_by n counts columns word least ≡ excess_in n counts columns word
unfolding excess_by excess_in sum_in
excess-best n counts columns word e =
    sum_of-ext n _ _
    (λ p l. ap (λ x. cond (counts p) (cost_in columns word p - x) 0) (ap (λ (c : List ℕ). get_or c p 0) e ∙ listed_at n p (best_cost columns) 0 l))

pub record GapBy (gap flag g : ℕ) : Type 0 where
  pub is : g ≡ cond (eqb flag 1) above gap
  pub small : gap < above

-- the rule of an entry by the arrays
abbrev pub gap_rule : List ℕ → List ℕ → ℕ → ℕ → Type 0
gap_rule plain flags p g = GapBy (get_or plain p 0) (get_or flags p 0) g

unfoldable pub gaps_of : ℕ → (ℕ → List ℕ) → List ℕ → List ℕ
gaps_of n columns flags = listed n (λ p. cond (flag_at flags p) above (gap_of (columns p)))

pub record Gaps (places : ℕ) (columns : ℕ → List ℕ) (flags gaps : List ℕ) : Type 0 where
  pub is : gaps ≡ gaps_of places columns flags
  pub small : (p : ℕ) → p < places → flag_at flags p ≡ false → gap_of (columns p) < above

unfoldable pub below_by : ℕ → ℕ → List ℕ → ℕ
below_by n t gaps = count n (λ p. ltb (get_or gaps p 0) t)

unfoldable pub sum_below : ℕ → ℕ → List ℕ → ℕ
sum_below n t gaps = sum_in n (λ p. ltb (get_or gaps p 0) t) (λ p. get_or gaps p 0)

pub record Splits (places : ℕ) (gaps : List ℕ) (few t : ℕ) : Type 0 where
  pub within : t < above
  pub at_most : below_by places t gaps ≤ few
  pub at_least : few ≤ below_by places (suc t) gaps

pub record LowSum (places : ℕ) (gaps : List ℕ) (few r : ℕ) : Type 0 where
  pub t : ℕ
  pub splits : Splits places gaps few t
  pub is : r ≡ sum_below places t gaps + (few - below_by places t gaps) * t

unfoldable pub clear_of : ℕ → List ℕ → ℕ → ℕ → Bool
clear_of places gaps due few = ltb due above && ltb (below_by places due gaps) few

pub record Markable (places symbols : ℕ) (columns : ℕ → List ℕ) (word flags : List ℕ) (far : ℕ) : Type 0 where
  pub wide : (p : ℕ) → p < places → length (columns p) ≡ symbols
  pub symbol : (p : ℕ) → p < places → symbol_at word p < symbols
  pub changed : flags ≡ changed_flags places columns word
  pub few : far ≤ places
