-- The column of a symbol that was received with no word on how sure it is: cost 0 for it and 1 for each other (a hard decision). For any number of symbols.
--
--   hard_column q s       the column, of q symbols
--   hard-length, hard-own, hard-other   how long it is, what the symbol costs, and what another does
--   hard-best            its best symbol is the one received
--   hard-open            it is not blank
use Rattle.std.specs.Prelude.{Bool, true, false, not, ◌≡◌, refl, List, ◌≢◌, ℕ, ◌-◌, ◌<◌, eqb, length}
use Rattle.std.proofs.Common.{sym, ap, ◌∙◌, arith, eq-eqb, ne_eqb}
use Rattle.std.proofs.Math.Decide.{ℕ_discrete}
use Rattle.lists.specs.Count.{bit}
use Rattle.lists.specs.Listed.{listed, listed-length, listed_at}
use Rattle.soft.specs.Column.{cost_of, best_of, is_blank}
use Rattle.soft.specs.ColumnLaws.{best-below, best-least}
use Rattle.soft.specs.BlankLaws.{blank-same}

abbrev pub hard_cost : ℕ → ℕ → ℕ
hard_cost s t = bit (not (eqb s t))

unfoldable pub hard_column : ℕ → ℕ → List ℕ
hard_column q s = listed q (hard_cost s)

pub hard-length : (q s : ℕ) → length (hard_column q s) ≡ q
unfolding hard_column
hard-length q s = listed-length q (hard_cost s)

pub hard-own : (q s : ℕ) → s < q → cost_of (hard_column q s) s ≡ 0
unfolding hard_column
hard-own q s l = listed_at q s (hard_cost s) 0 l ∙ ap (λ b. bit (not b)) (eq-eqb s s refl)

pub hard-other : (q s t : ℕ) → t < q → s ≢ t → cost_of (hard_column q s) t ≡ 1
unfolding hard_column
hard-other q s t l d = listed_at q t (hard_cost s) 0 l ∙ ap (λ b. bit (not b)) (ne_eqb s t d)

module _ (q s : ℕ) (two : 1 < q) (l : s < q) where
  pub hard-best : best_of (hard_column q s) ≡ s
  hard-best = go (ℕ_discrete (best_of (hard_column q s)) s)
    where
      some : 1 < length (hard_column q s)
      some = omega (arith, two, hard-length q s)

      go : Dec (best_of (hard_column q s) ≡ s) → best_of (hard_column q s) ≡ s
      go (yes e) = e
      go (no d) =
          absurd
          (omega (
            arith,
            hard-own q s l,
            hard-other q s (best_of (hard_column q s)) (omega (arith, best-below (hard_column q s) some, hard-length q s)) (λ e. d (sym e)),
            best-least (hard_column q s) some s (omega (arith, l, hard-length q s)),
          ))

  -- the symbols s and 1 − s differ
  pub hard-open : is_blank (hard_column q s) ≡ false
  hard-open = go (is_blank (hard_column q s)) refl
    where
      go : (b : Bool) → is_blank (hard_column q s) ≡ b → b ≡ false
      go true e =
          absurd
          (omega (
            arith,
            (blank-same (hard_column q s)).0 e s (1 - s) (omega (arith, l, hard-length q s)) (omega (arith, two, hard-length q s)),
            hard-own q s l,
            hard-other q s (1 - s) (omega (arith, two)) (omega arith),
          ))
      go false e = refl
