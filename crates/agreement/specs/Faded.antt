-- For every test word and every list of blank places there are columns that are blank at the list and nowhere else, with the word's symbols as the
-- best ones; so that engine and tree agree on it with nothing else to be known.
--
--   faded_cost blanks word p s   what the symbol s costs at place p: 0 for the word's own symbol at a place that is not in the list, and else 1
--   faded_costs blanks word      these costs, place by place
--   faded-cost            what they hold at a place and a symbol
--   faded-out             at the places of the list all symbols cost the same; faded-own, faded-other: at the others the word's symbol costs less
--   faded-blank           so the blank places are those of the list,
--   faded-best            and the best symbols are the word's
--   engine-tree           'for every rate, test word and list of blank places': what the engine answers, and what the tree finds with these columns
use Rattle.std.specs.Prelude.{Bool, true, false, not, ◌&&◌, ◌≡◌, refl, List, ◌≢◌, ℕ, ◌+◌, ◌-◌, ◌*◌, ◌/◌, ◌%◌, ◌<◌, length, get_or}
use Rattle.std.proofs.Common.{sym, ◌∙◌, eq-eqb, ne_eqb}
use Rattle.std.proofs.Math.Path.{ap, ap₂}
use Rattle.std.proofs.Math.Decide.{ℕ_discrete}
use native.Mathlib.Omega.{arith}
use Rattle.std.proofs.Math.Dec.{eqb}
use Rattle.lists.specs.Count.{bit}
use Rattle.lists.specs.Every.{true-T}
use Rattle.lists.specs.Listed.{listed, listed-length, listed_at}
use Rattle.lists.specs.Words.{all_below, all_below-at}
use Rattle.soft.specs.Column.{symbols, cost_of, column_of, is_blank}
use Rattle.soft.specs.ColumnLaws.{best-below, best-least, column-length, cost-column}
use Rattle.soft.specs.BlankLaws.{blank-same}
use Rattle.soft.specs.TestWord.{best_at}
use Rattle.chase.specs.Call.{nearest_of}
use Rattle.book64.specs.Here.{places}
use Rattle.book64.specs.engine.Engine.{unblanked_by, engine_of}
use Rattle.book64.specs.engine.EngineLaws.{EnginePassed}
use Rattle.book64.specs.engine.Single.{BlankAt}
use Rattle.agreement.specs.Agreement.{Agrees, engine-nearest}
use Rattle.agreement.specs.Both.{undoubted, asked-alone}

unfoldable pub faded_cost : List ℕ → List ℕ → ℕ → ℕ → ℕ
faded_cost blanks word p s = bit (not (unblanked_by blanks p && eqb (get_or word p 0) s))

unfoldable pub faded_costs : List ℕ → List ℕ → List ℕ
faded_costs blanks word = listed (places * symbols) (λ i. faded_cost blanks word (i / symbols) (i % symbols))

module _ (blanks word : List ℕ) where
  abbrev columns : ℕ → List ℕ
  columns = column_of symbols (faded_costs blanks word)

  pub faded-length : length (faded_costs blanks word) ≡ places * symbols
  unfolding faded_costs
  faded-length = listed-length (places * symbols) (λ i. faded_cost blanks word (i / symbols) (i % symbols))

  module _ (p : ℕ) (h : p < places) where
    long : length (columns p) ≡ symbols
    long = column-length symbols (faded_costs blanks word) p

    two : 1 < length (columns p)
    two = omega (arith, long)

    pub faded-cost : (s : ℕ) → s < symbols → cost_of (columns p) s ≡ faded_cost blanks word p s
    unfolding faded_costs
    faded-cost s l =
        let q : (p * symbols + s) / symbols ≡ p = omega arith in
        let r : (p * symbols + s) % symbols ≡ s = omega arith in
        cost-column symbols (faded_costs blanks word) p s l
        ∙ listed_at (places * symbols) (p * symbols + s) (λ i. faded_cost blanks word (i / symbols) (i % symbols)) 0 (omega arith)
        ∙ ap₂ (faded_cost blanks word) q r

    pub faded-out : unblanked_by blanks p ≡ false → (s : ℕ) → s < symbols → cost_of (columns p) s ≡ 1
    unfolding faded_cost
    faded-out e s l = faded-cost s l ∙ ap (λ b. bit (not (b && eqb (get_or word p 0) s))) e

    module _ (e : unblanked_by blanks p ≡ true) (own : get_or word p 0 < symbols) where
      pub faded-own : cost_of (columns p) (get_or word p 0) ≡ 0
      unfolding faded_cost
      faded-own =
          faded-cost (get_or word p 0) own ∙ ap₂ (λ a b. bit (not (a && b))) e (eq-eqb (get_or word p 0) (get_or word p 0) refl)

      pub faded-other : (s : ℕ) → s < symbols → get_or word p 0 ≢ s → cost_of (columns p) s ≡ 1
      unfolding faded_cost
      faded-other s l d = faded-cost s l ∙ ap₂ (λ a b. bit (not (a && b))) e (ne_eqb (get_or word p 0) s d)

      best-own : get_or word p 0 ≡ best_at columns p
      best-own = go (ℕ_discrete (get_or word p 0) (best_at columns p))
        where
          go : Dec (get_or word p 0 ≡ best_at columns p) → get_or word p 0 ≡ best_at columns p
          go (yes q) = q
          go (no d) =
              absurd
              (omega (
                arith,
                faded-own,
                faded-other (best_at columns p) (omega (arith, best-below (columns p) two, long)) d,
                best-least (columns p) two (get_or word p 0) (omega (arith, long)),
              ))

      -- the word's symbol and another have different costs
      not-blank : is_blank (columns p) ≡ false
      not-blank = go (is_blank (columns p)) refl
        where
          go : (b : Bool) → is_blank (columns p) ≡ b → b ≡ false
          go true q =
              absurd
              (omega (
                arith,
                (blank-same (columns p)).0 q (get_or word p 0) (1 - get_or word p 0) (omega (arith, long)) (omega (arith, long)),
                faded-own,
                faded-other (1 - get_or word p 0) (omega arith) (omega arith),
              ))
          go false q = refl

  module _ (sized : length word ≡ places) (small : all_below symbols word ≡ true) where
    symbol-at : (p : ℕ) → p < places → get_or word p 0 < symbols
    symbol-at p h = all_below-at symbols word (true-T (all_below symbols word) small) p (omega arith)

    pub faded-blank : BlankAt blanks columns
    faded-blank p h = go (unblanked_by blanks p) refl
      where
        go : (b : Bool) → unblanked_by blanks p ≡ b → not (is_blank (columns p)) ≡ b
        go true e = ap not (not-blank p h e (symbol-at p h))
        go false e =
            ap not
            ((blank-same (columns p)).1
            (λ s t ls lt. faded-out p h e s (omega (arith, long p h)) ∙ sym (faded-out p h e t (omega (arith, long p h)))))

    pub faded-best : (p : ℕ) → p < places → unblanked_by blanks p ≡ true → get_or word p 0 ≡ best_at columns p
    faded-best p h e = best-own p h e (symbol-at p h)

pub engine-tree : (k : ℕ) (word blanks codeword q : List ℕ) → EnginePassed k word blanks (length codeword) (length q)
    → Agrees (engine_of k word blanks codeword q) (nearest_of k (faded_costs blanks word) undoubted 0)
engine-tree k word blanks codeword q P =
    let blank = faded-blank blanks word P.word_long P.symbols in
    engine-nearest k word blanks codeword q P (faded_costs blanks word) blank (faded-best blanks word P.word_long P.symbols) undoubted
    (asked-alone P (faded_costs blanks word) (faded-length blanks word) blank undoubted) refl
