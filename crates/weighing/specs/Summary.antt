-- What the columns of a table say of each place, in arrays by place, for any number of places and symbols.
--
--   SummaryBy places symbols columns best least gaps counts   lists of them of all places, in columns of costs for all symbols
--   least_at, gap-at, counts-at   their entries
--   summary-second         the second cost of a place is the best cost and the gap
use Rattle.std.specs.Prelude.{◌≡◌, List, ℕ, ◌+◌, ◌<◌, length, get_or}
use Rattle.std.proofs.Common.{ap, ◌∙◌, arith}
use Rattle.lists.specs.Listed.{listed, listed_at}
use Rattle.soft.specs.Column.{cost_of, second_of}
use Rattle.soft.specs.ColumnLaws.{gap-cost}
use Rattle.soft.specs.Blank.{open_at, flags_of, flag_at}
use Rattle.soft.specs.BlankLaws.{flags-at}
use Rattle.soft.specs.TestWord.{best_word}
use Rattle.soft.specs.Mark.{best_cost, plain_gap}

pub record SummaryBy (places symbols : ℕ) (columns : ℕ → List ℕ) (b l g c : List ℕ) : Type 0 where
  pub wide : (p : ℕ) → p < places → length (columns p) ≡ symbols
  pub best : b ≡ best_word places columns
  pub least : l ≡ listed places (best_cost columns)
  pub gaps : g ≡ listed places (plain_gap columns)
  pub counts : c ≡ flags_of places columns

module _ {places symbols : ℕ} {columns : ℕ → List ℕ} {best least gaps counts : List ℕ} (S : SummaryBy places symbols columns best least gaps counts) (p : ℕ)
    (l : p < places) where
  pub least_at : get_or least p 0 ≡ best_cost columns p
  least_at = ap (λ (e : List ℕ). get_or e p 0) S.least ∙ listed_at places p (best_cost columns) 0 l

  pub gap-at : get_or gaps p 0 ≡ plain_gap columns p
  gap-at = ap (λ (e : List ℕ). get_or e p 0) S.gaps ∙ listed_at places p (plain_gap columns) 0 l

  pub counts-at : flag_at counts p ≡ open_at columns p
  counts-at = ap (λ (e : List ℕ). flag_at e p) S.counts ∙ flags-at places columns p l

  pub summary-second : 1 < symbols → best_cost columns p + plain_gap columns p ≡ cost_of (columns p) (second_of (columns p))
  summary-second two = gap-cost (columns p) (omega (arith, S.wide p l))
