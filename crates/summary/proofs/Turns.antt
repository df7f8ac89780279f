-- Single steps of the functions, over plain lists and numbers.
--
--   held-cost              the best of the first symbols costs the least of their costs
--   best-turn              one symbol more
--   best-all, least-all, next-all   all symbols passed: the best symbol, its cost and the second's cost
--   costs-most             the costs of a column are those of the table
--   held_start             no symbol passed
--   best-stored, least-stored, next-stored   one symbol more at a place
--   held-order             at no place the next cost is less than the least
--   symbols-end, least-end, gaps-end   the best symbols, their costs and the gaps, when all symbols are passed
--   gap-open               a place with a gap is not blank; all-open: none is, where the smallest gap is not 0
--   padded-column          a table with zeros for the costs that it lacks has the same columns
--   summary-same           the same columns up to the last place have the same summary
use mathlib.Core.Bool.{Bool, true, false, not, cond}
use mathlib.Core.Path.{◌≡◌, refl, sym, ap, ap₂, ◌∙◌}
use mathlib.Core.List.{List}
use mathlib.Core.Logic.{◌≢◌}
use Prim.Native.Nat.{ℕ, zero, suc, ◌+◌, ◌-◌, ◌*◌, ◌%◌, ◌<◌, ◌≤◌, min, max}
use native.Mathlib.Nat.{mod-eq_of_lt}
use native.Mathlib.Decide.{dec_lt}
use native.Mathlib.Numerals.{add-one}
use native.Mathlib.Omega.{arith}
use lib.Dec.{ltb}
use lib.ListN.{length, get_or, replicate, get_or-replicate, length-replicate}
use borrow.Author.Tests.{lt-ltb, le-ltb}
use Rattle.lists.specs.Count.{bit}
use Rattle.lists.specs.Least.{least_of, next_of, least-is, next-is, least-nil, next-nil, least-turn, next-turn, least-next, least-le}
use Rattle.lists.specs.Listed.{listed, listed_at, listed_by, listed-ext}
use Rattle.soft.specs.Column.{places, symbols, ceiling, cost_of, column_of, best_but, best_of, second_of, gap_of, is_blank}
use Rattle.soft.specs.ColumnLaws.{best_but-nil, best_but-suc, best_but-best, first_but-other, cheaper-next, cheaper-held, best-below, best-least, second-best, cost-column}
use Rattle.soft.specs.Blank.{open_at, flags_of}
use Rattle.soft.specs.TestWord.{best_word}
use Rattle.soft.specs.Mark.{best_cost, plain_gap}
use Rattle.soft.specs.MarkLaws.{blank-gap}
use Rattle.summary.specs.Summary.{entry_of, symbol_in, apart, InOrder, best_to, least_to, next_to, HeldTo, SummaryOf}
use Rattle.summary.specs.declared.Summary.{Summary}

-- a column of w costs up to the ceiling
module _ (w : ℕ) (two : 1 < w) (column : List ℕ) (wide : length column ≡ w) (most : (s : ℕ) → s < w → cost_of column s ≤ ceiling) where
  held-cost : (n : ℕ) → 0 < n → n ≤ w → cost_of column (best_but column w n) ≡ least_of ceiling n (cost_of column)
  held-cost n some fits =
      let b = best_but-best column w n (omega (arith, first_but-other w (omega arith))) in
      let l : best_but column w n < n = b.below in
      sym
      (least-is ceiling (cost_of column) n (best_but column w n) l (most _ (omega arith)) (λ k h. b.least k h (λ (e : k ≡ w). absurd (omega arith))))

  pub best-turn : (n : ℕ) → n < w → cond (ltb (cost_of column n) (least_of ceiling n (cost_of column))) n (best_but column w n) ≡ best_but column w (suc n)
  best-turn zero l =
      let b = best_but-best column w 1 (omega (arith, first_but-other w (omega arith))) in
      let z : best_but column w 1 ≡ 0 = omega (arith, b.below) in
      none (ltb (cost_of column 0) (least_of ceiling 0 (cost_of column))) (best_but column w 0) (best_but-nil column w ∙ first_but-other w (omega arith)) ∙ sym z
    where
      none : (b : Bool) (x : ℕ) → x ≡ 0 → cond b 0 x ≡ 0
      none true x e = refl
      none false x e = e
  best-turn (suc n) l = go (held-cost (suc n) (omega arith) (omega arith)) (dec_lt (cost_of column (suc n)) (least_of ceiling (suc n) (cost_of column)))
    where
      held : ℕ
      held = best_but column w (suc n)

      go : cost_of column held ≡ least_of ceiling (suc n) (cost_of column) → Dec (cost_of column (suc n) < least_of ceiling (suc n) (cost_of column))
          → cond (ltb (cost_of column (suc n)) (least_of ceiling (suc n) (cost_of column))) (suc n) held ≡ best_but column w (suc (suc n))
      go e (yes h) =
          ap (λ b. cond b (suc n) held) (lt-ltb (cost_of column (suc n)) (least_of ceiling (suc n) (cost_of column)) h)
          ∙ sym (best_but-suc column w (suc n) ∙ cheaper-next w held (cost_of column held) (suc n) (cost_of column (suc n)) (omega arith) (omega arith))
      go e (no h) =
          ap (λ b. cond b (suc n) held) (le-ltb (cost_of column (suc n)) (least_of ceiling (suc n) (cost_of column)) (omega arith))
          ∙ sym (best_but-suc column w (suc n) ∙ cheaper-held w held (cost_of column held) (suc n) (cost_of column (suc n)) (omega arith) (omega arith))

  -- all symbols passed
  pub best-all : best_but column w w ≡ best_of column
  unfolding best_of
  best-all = ap (λ n. best_but column n n) (sym wide)

  pub least-all : least_of ceiling w (cost_of column) ≡ cost_of column (best_of column)
  least-all = sym (held-cost w (omega arith) (omega arith)) ∙ ap (cost_of column) best-all

  pub next-all : next_of ceiling w (cost_of column) ≡ cost_of column (second_of column)
  next-all =
      let far : 1 < length column = omega arith in
      let t = second-best column far in
      let b : best_of column < w = omega (arith, best-below column far) in
      let s : second_of column < w = omega (arith, t.below) in
      next-is ceiling (cost_of column) w (best_of column) (second_of column) b s (λ e. t.other (sym e)) (best-least column far (second_of column) t.below)
      (most (second_of column) s) (λ k l n. t.least k (omega arith) n)

pub costs-most : (costs : List ℕ) → ((i : ℕ) → get_or costs i 0 ≤ ceiling) → (p s : ℕ) → s < symbols → cost_of (column_of symbols costs p) s ≤ ceiling
costs-most costs h p s l = omega (arith, cost-column symbols costs p s l, h (p * symbols + s))

filled : (v : ℕ) (f : ℕ → ℕ) → ((p : ℕ) → p < places → v ≡ f p) → replicate places v ≡ listed places f
filled v f e = listed_by 0 places (replicate places v) f (length-replicate places v) (λ p l. get_or-replicate places p v 0 l ∙ e p l)

module _ (columns : ℕ → List ℕ) where
  pub held_start : HeldTo columns 0 (replicate places 0) (replicate places ceiling) (replicate places ceiling)
  held_start =
      record {
        bests = filled 0 (best_to columns 0) (λ p l. sym (best_but-nil (columns p) symbols ∙ first_but-other symbols (omega arith)));
        leasts = filled ceiling (least_to columns 0) (λ p l. sym (least-nil ceiling (cost_of (columns p))));
        nexts = filled ceiling (next_to columns 0) (λ p l. sym (next-nil ceiling (cost_of (columns p))));
      }

  module _ {n : ℕ} {best least next : List ℕ} (H : HeldTo columns n best least next) {p : ℕ} (l : p < places) where
    best-held : get_or best p 0 ≡ best_to columns n p
    best-held = ap (λ e. get_or e p 0) H.bests ∙ listed_at places p (best_to columns n) 0 l

    least-held : get_or least p 0 ≡ least_to columns n p
    least-held = ap (λ e. get_or e p 0) H.leasts ∙ listed_at places p (least_to columns n) 0 l

    next-held : get_or next p 0 ≡ next_to columns n p
    next-held = ap (λ e. get_or e p 0) H.nexts ∙ listed_at places p (next_to columns n) 0 l

    pub least-stored : {cost r : ℕ} → cost ≡ cost_of (columns p) n → r ≡ min (get_or least p 0) cost → r ≡ least_to columns (n + 1) p
    least-stored c e = least-turn ceiling (cost_of (columns p)) n _ _ _ least-held c e

    pub next-stored : {cost r : ℕ} → cost ≡ cost_of (columns p) n → r ≡ min (get_or next p 0) (max (get_or least p 0) cost)
        → r ≡ next_to columns (n + 1) p
    next-stored c e = next-turn ceiling (cost_of (columns p)) n _ _ _ _ next-held least-held c e

  pub held-order : {n : ℕ} {best least next : List ℕ} → HeldTo columns n best least next → InOrder least next
  held-order {n} H =
      record { at_place = λ p l. omega (arith, least-held H l, next-held H l, least-next ceiling (cost_of (columns p)) n) }

  module _ (wide : (p : ℕ) → p < places → length (columns p) ≡ symbols) (most : (p s : ℕ) → s < symbols → cost_of (columns p) s ≤ ceiling) where
    pub best-stored : {n : ℕ} {best least next : List ℕ} → HeldTo columns n best least next → n < symbols → {p cost r : ℕ} → p < places
        → cost ≡ cost_of (columns p) n → r ≡ cond (ltb cost (get_or least p 0)) n (get_or best p 0) → r ≡ best_to columns (n + 1) p
    best-stored {n} H few {p} l c e =
        e ∙ ap₂ (λ t x. cond t n x) (ap₂ ltb c (least-held H l)) (best-held H l)
        ∙ best-turn symbols (omega arith) (columns p) (wide p l) (most p) n few ∙ ap (λ k. best_to columns k p) (sym (add-one n))

    module _ {best least next : List ℕ} (H : HeldTo columns symbols best least next) where
      pub symbols-end : listed places (symbol_in best) ≡ best_word places columns
      unfolding best_word
      symbols-end =
          listed-ext places (symbol_in best) (λ p. best_of (columns p)) (λ p l.
          ap (λ x. x % symbols) (best-held H l ∙ best-all symbols (omega arith) (columns p) (wide p l) (most p))
          ∙ mod-eq_of_lt (omega (arith, wide p l, best-below (columns p) (omega (arith, wide p l)))))

      pub least-end : least ≡ listed places (best_cost columns)
      least-end =
          H.leasts ∙ listed-ext places (least_to columns symbols) (best_cost columns) (λ p l. least-all symbols (omega arith) (columns p) (wide p l) (most p))

      pub gaps-end : listed places (apart least next) ≡ listed places (plain_gap columns)
      unfolding gap_of
      gaps-end =
          listed-ext places (apart least next) (plain_gap columns) (λ p l.
          ap₂ (λ x y. x - y) (next-held H l ∙ next-all symbols (omega arith) (columns p) (wide p l) (most p))
          (least-held H l ∙ least-all symbols (omega arith) (columns p) (wide p l) (most p)))

module _ (columns : ℕ → List ℕ) where
  pub gap-open : (p : ℕ) → 1 < length (columns p) → (gap : ℕ) → gap ≡ plain_gap columns p → gap ≢ 0 → 1 ≡ bit (open_at columns p)
  gap-open p two gap e n = go (is_blank (columns p)) refl
    where
      go : (b : Bool) → is_blank (columns p) ≡ b → 1 ≡ bit (open_at columns p)
      go true b = absurd (n (e ∙ blank-gap (columns p) two b))
      go false b = sym (ap (λ t. bit (not t)) b)

  -- no place lacks a gap
  pub all_open : ((p : ℕ) → p < places → length (columns p) ≡ symbols) → (gaps : List ℕ) → gaps ≡ listed places (plain_gap columns)
      → least_of ceiling places (entry_of gaps) ≢ 0 → replicate places 1 ≡ flags_of places columns
  unfolding flags_of
  all_open wide gaps e n =
      filled 1 (λ p. bit (open_at columns p)) (λ p l.
      gap-open p (omega (arith, wide p l)) (get_or gaps p 0) (ap (λ g. get_or g p 0) e ∙ listed_at places p (plain_gap columns) 0 l)
      (λ (z : get_or gaps p 0 ≡ 0). n (omega (arith, least-le ceiling (entry_of gaps) places p l))))

-- a table that is padded with zeros
pub padded-column : (costs : List ℕ) (p : ℕ) → p < places → column_of symbols (listed (places * symbols) (entry_of costs)) p ≡ column_of symbols costs p
unfolding column_of
padded-column costs p l = listed-ext symbols _ _ (λ s k. listed_at (places * symbols) (p * symbols + s) (entry_of costs) 0 (omega arith))

pub summary-same : (a b : ℕ → List ℕ) → ((p : ℕ) → p < places → a p ≡ b p) → {s : Summary} → SummaryOf a s → SummaryOf b s
unfolding best_word flags_of
summary-same a b same S =
    record {
      wide = λ p l. ap length (sym (same p l)) ∙ S.wide p l;
      best = S.best ∙ listed-ext places _ _ (λ p l. ap best_of (same p l));
      least = S.least ∙ listed-ext places (best_cost a) (best_cost b) (λ p l. ap (λ (k : List ℕ). cost_of k (best_of k)) (same p l));
      gaps = S.gaps ∙ listed-ext places (plain_gap a) (plain_gap b) (λ p l. ap gap_of (same p l));
      counts = S.counts ∙ listed-ext places _ _ (λ p l. ap (λ k. bit (not (is_blank k))) (same p l));
    }
