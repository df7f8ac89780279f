-- What the columns of a table of 64 places say of each place, as the structs hold it: `weighing` Summary, by their fields.
--
--   entry_of l p            the entry of place p; symbol_in l p: the symbol there; apart a b p: how much more b has there than a
--   InOrder a b            at no place b has less than a
--   best_to columns n p, least_to columns n p, next_to columns n p   of the first n symbols of place p the best, and the least and the next of their costs
--   HeldTo columns n best least next   the three arrays hold them of all places
--   SummaryOf columns s    s holds of all places the best symbol, its cost, the plain gap, and 1 where the place is not blank, else 0, in columns of
--                          costs for all symbols
use Rattle.std.specs.Prelude.{◌≡◌, List, ℕ, ◌-◌, ◌%◌, ◌<◌, ◌≤◌, get_or}
use Rattle.lists.specs.Least.{least_of, next_of}
use Rattle.lists.specs.Listed.{listed}
use Rattle.soft.specs.Column.{places, symbols, ceiling, cost_of, best_but}
use Rattle.weighing.specs.Summary.{SummaryBy}
use Rattle.summary.specs.declared.Summary.{Summary}

abbrev pub entry_of : List ℕ → ℕ → ℕ
entry_of l p = get_or l p 0

abbrev pub symbol_in : List ℕ → ℕ → ℕ
symbol_in l p = get_or l p 0 % symbols

abbrev pub apart : List ℕ → List ℕ → ℕ → ℕ
apart a b p = get_or b p 0 - get_or a p 0

pub record InOrder (a b : List ℕ) : Type 0 where
  pub at_place : (p : ℕ) → p < places → get_or a p 0 ≤ get_or b p 0

abbrev pub best_to : (ℕ → List ℕ) → ℕ → ℕ → ℕ
best_to columns n p = best_but (columns p) symbols n

abbrev pub least_to : (ℕ → List ℕ) → ℕ → ℕ → ℕ
least_to columns n p = least_of ceiling n (cost_of (columns p))

abbrev pub next_to : (ℕ → List ℕ) → ℕ → ℕ → ℕ
next_to columns n p = next_of ceiling n (cost_of (columns p))

pub record HeldTo (columns : ℕ → List ℕ) (n : ℕ) (best least next : List ℕ) : Type 0 where
  pub bests : best ≡ listed places (best_to columns n)
  pub leasts : least ≡ listed places (least_to columns n)
  pub nexts : next ≡ listed places (next_to columns n)

abbrev pub SummaryOf : (ℕ → List ℕ) → Summary → Type 0
SummaryOf columns s = SummaryBy places symbols columns s.best s.least s.gaps s.counts
