-- Laws of a column's best symbol, second symbol and gap, and of the gap as it counts for choosing doubtful places.
--
--   first_but-zero, first_but-other, cheaper-left, cheaper-next, cheaper-held, best_but-nil, best_but-suc   the definitions step by step
--   BestBut column b n r   r is the best of the first n symbols other than b: least cost, and among equal costs the smallest
--   best_but-best           best_but finds it
--   best-best              the best symbol is the best with none left out; best-least, best-first: its cost is least, equal costs are at no smaller symbol
--   second-best            the second symbol is the best of the others; second-other: it differs from the best
--   best-below, second_below   both are symbols of the column
--   key-lt                 of two numbers first · width + second the one with the smaller first is smaller, where its second is below the width
--   best-number, second-number   of the symbols' numbers, for any width up to which they go, the best symbol's is the least and the second's the next
--   gap-cost               best cost and gap make the second cost
--   counted-pinned, counted-open, counted-level   the gap of two costs as it counts: with the second at the ceiling and the best lower; with the
--                          second elsewhere; with the best at the ceiling; counted-most: never more than the ceiling
--   PinnedSecond column    the second cost is at the ceiling and the best is lower
--   doubt-gap-pinned       the gap then counts as the ceiling; doubt-gap-open: it counts as it is where the second is not at the ceiling,
--   doubt-gap-level        and where the best is at the ceiling too: it is 0
--   doubt-gap-most         it counts as no more than the ceiling; doubt-gap-below: and as less where the second is below the ceiling
--   column-length, cost-column, cost-none   a column read off a list of costs: how long it is, and what it holds
--   column-block           it is the row of the table that the list is
--   costs-length           how many costs are read from bytes
--   table-column           a column of a table of bytes is read from its own bytes
use Rattle.std.specs.Prelude.{◌≡◌, refl, List, ◌≢◌, ◌⊎◌, ℕ, zero, suc, ◌+◌, ◌-◌, ◌*◌, ◌<◌, ◌≤◌, length, get_or, take, drop}
use Rattle.std.proofs.Common.{sym, ap, ap₂, ◌∙◌, subst, inl, inr, ⊎_elim, eq-or-lt_of_le, le_of_suc-le-suc, le_antisymm, mul-le-mul_right, suc-mul, mul_comm, get_or-take, get_or-drop, ext_get_or, lt-ltb, le-ltb, eq-eqb, ne_eqb}
use Rattle.std.proofs.Math.Decide.{dec_le, ℕ_discrete}
use native.Mathlib.Omega.{arith}
use Rattle.std.proofs.Math.ListN.{get_or-eq_default}
use Rattle.lists.specs.Block.{block, block-length, block_at}
use Rattle.lists.specs.Least.{least_of, next_of, least-is, next-is}
use Rattle.lists.specs.Listed.{listed, listed-length, listed_at, listed-ext}
use Rattle.soft.specs.Column.{ceiling, cost_of, cost_from, costs_from, cost_at, column_of, first_but, cheaper_of, better_in, best_but, best_of, second_of, number_of, gap_of, counted_gap, doubt_gap_of}

pub first_but-zero : (b : ℕ) → b ≡ 0 → first_but b ≡ 1
unfolding first_but
first_but-zero b e = simp (eq-eqb b 0 e)

pub first_but-other : (b : ℕ) → b ≢ 0 → first_but b ≡ 0
unfolding first_but
first_but-other b e = simp (ne_eqb b 0 e)

pub cheaper-left : (b held least next cost : ℕ) → next ≡ b → cheaper_of b held least next cost ≡ held
unfolding cheaper_of
cheaper-left b held least next cost e = simp (eq-eqb next b e)

pub cheaper-next : (b held least next cost : ℕ) → next ≢ b → cost < least → cheaper_of b held least next cost ≡ next
unfolding cheaper_of
cheaper-next b held least next cost e l = simp (ne_eqb next b e, lt-ltb cost least l)

pub cheaper-held : (b held least next cost : ℕ) → next ≢ b → least ≤ cost → cheaper_of b held least next cost ≡ held
unfolding cheaper_of
cheaper-held b held least next cost e l = simp (ne_eqb next b e, le-ltb cost least l)

pub best_but-nil : (column : List ℕ) (b : ℕ) → best_but column b 0 ≡ first_but b
unfolding best_but
best_but-nil column b = refl

pub best_but-suc : (column : List ℕ) (b n : ℕ) → best_but column b (suc n) ≡ better_in column b (best_but column b n) n
unfolding best_but
best_but-suc column b n = refl

pub record BestBut (column : List ℕ) (b n r : ℕ) : Type 0 where
  pub below : r < n
  pub other : r ≢ b
  pub least : (s : ℕ) → s < n → s ≢ b → cost_of column r ≤ cost_of column s
  pub first : (s : ℕ) → s < n → s ≢ b → cost_of column s ≡ cost_of column r → r ≤ s

-- the symbol held after n of them: it may be the first, which is not among them yet
record HeldSymbol (column : List ℕ) (b n r : ℕ) : Type 0 where
  place : r < n ⊎ (r ≡ first_but b)
  other : r ≢ b
  least : (s : ℕ) → s < n → s ≢ b → cost_of column r ≤ cost_of column s
  first : (s : ℕ) → s < n → s ≢ b → cost_of column s ≡ cost_of column r → r ≤ s

first-le : (b n : ℕ) → n ≢ b → first_but b ≤ n
first-le b n e = go (ℕ_discrete b 0)
  where
    go : Dec (b ≡ 0) → first_but b ≤ n
    go (yes z) = omega (arith, first_but-zero b z)
    go (no z) = omega (arith, first_but-other b z)

first_but-le : (b : ℕ) → first_but b ≤ 1
first_but-le b = go (ℕ_discrete b 0)
  where
    go : Dec (b ≡ 0) → first_but b ≤ 1
    go (yes z) = omega (arith, first_but-zero b z)
    go (no z) = omega (arith, first_but-other b z)

first-other : (b : ℕ) → first_but b ≢ b
first-other b = go (ℕ_discrete b 0)
  where
    go : Dec (b ≡ 0) → first_but b ≢ b
    go (yes z) e = omega (arith, first_but-zero b z)
    go (no z) e = omega (arith, first_but-other b z)

module _ (column : List ℕ) (b : ℕ) where
  held-step : (n r : ℕ) → HeldSymbol column b n r → HeldSymbol column b (suc n) (better_in column b r n)
  held-step n r h = go (ℕ_discrete n b) (dec_le (cost_of column r) (cost_of column n))
    where
      -- one symbol more: a fact of the earlier ones and of this one
      more : {P : ℕ → Type 0} → ((s : ℕ) → s < n → s ≢ b → P s) → (n ≢ b → P n) → (s : ℕ) → s < suc n → s ≢ b → P s
      more {P} f g s l e =
          ⊎_elim (λ (q : s ≡ n). subst P (sym q) (g (λ z. e (q ∙ z)))) (λ k. f s k e) (eq-or-lt_of_le (le_of_suc-le-suc l))

      later : r < n ⊎ (r ≡ first_but b) → r < suc n ⊎ (r ≡ first_but b)
      later (inl l) = inl (omega arith)
      later (inr q) = inr q

      at : n ≢ b → r ≤ n
      at e = ⊎_elim (λ l. omega arith) (λ (q : r ≡ first_but b). omega (arith, first-le b n e)) h.place

      keep : (n ≢ b → cost_of column r ≤ cost_of column n) → HeldSymbol column b (suc n) r
      keep l =
          record {
            place = later h.place;
            other = h.other;
            least = more {P = λ s. cost_of column r ≤ cost_of column s} h.least l;
            first = more {P = λ s. cost_of column s ≡ cost_of column r → r ≤ s} h.first (λ e q. at e);
          }

      exchanged : n ≢ b → cost_of column n < cost_of column r → HeldSymbol column b (suc n) n
      exchanged e l =
          record {
            place = inl (omega arith);
            other = e;
            least =
                more {P = λ s. cost_of column n ≤ cost_of column s} (λ s k z. omega (arith, h.least s k z)) (λ z. omega arith);
            first =
                more {P = λ s. cost_of column s ≡ cost_of column n → n ≤ s}
                (λ s k z q. absurd (omega (arith, h.least s k z)))
                (λ z q. omega arith);
          }

      go : Dec (n ≡ b) → Dec (cost_of column r ≤ cost_of column n) → HeldSymbol column b (suc n) (better_in column b r n)
      go (yes e) d = rw (cheaper-left b r (cost_of column r) n (cost_of column n) e) (keep (λ z. absurd (z e)))
      go (no e) (yes l) = rw (cheaper-held b r (cost_of column r) n (cost_of column n) e l) (keep (λ z. l))
      go (no e) (no l) =
          rw (cheaper-next b r (cost_of column r) n (cost_of column n) e (omega arith)) (exchanged e (omega arith))

  held_all : (n : ℕ) → HeldSymbol column b n (best_but column b n)
  held_all zero =
      rw best_but-nil
      (record { place = inr refl; other = first-other b; least = λ s l. absurd (omega arith); first = λ s l. absurd (omega arith) })
  held_all (suc n) = rw best_but-suc (held-step n (best_but column b n) (held_all n))

  pub best_but-best : (n : ℕ) → first_but b < n → BestBut column b n (best_but column b n)
  best_but-best n l =
      let h = held_all n in
      record {
        below = ⊎_elim (λ k. k) (λ (q : best_but column b n ≡ first_but b). omega arith) h.place;
        other = h.other;
        least = h.least;
        first = h.first;
      }

module _ (column : List ℕ) (two : 1 < length column) where
  -- the best symbol: no symbol of the column is left out
  pub best-best : BestBut column (length column) (length column) (best_of column)
  unfolding best_of
  best-best = best_but-best column (length column) (length column) (omega (arith, first_but-other (length column) (omega arith)))

  pub second-best : BestBut column (best_of column) (length column) (second_of column)
  unfolding second_of
  second-best = best_but-best column (best_of column) (length column) (omega (arith, first_but-le (best_of column)))

  pub best-below : best_of column < length column
  best-below = best-best.below

  pub second_below : second_of column < length column
  second_below = second-best.below

  pub second-other : second_of column ≢ best_of column
  second-other = second-best.other

  -- every symbol of the column costs at least as much as the best one, and an equal cost is at no smaller symbol
  pub best-least : (s : ℕ) → s < length column → cost_of column (best_of column) ≤ cost_of column s
  best-least s l = best-best.least s l (omega arith)

  pub best-first : (s : ℕ) → s < length column → cost_of column s ≡ cost_of column (best_of column) → best_of column ≤ s
  best-first s l e = best-best.first s l (omega arith) e

  pub gap-cost : cost_of column (best_of column) + gap_of column ≡ cost_of column (second_of column)
  unfolding gap_of
  gap-cost = let l : cost_of column (best_of column) ≤ cost_of column (second_of column) = best-least (second_of column) second_below in omega arith

pub key-lt : (w g h p q : ℕ) → g < h → p < w → g * w + p < h * w + q
key-lt w g h p q l k = let m : suc g * w ≤ h * w = mul-le-mul_right w l in omega (arith, suc-mul g w)

-- by their numbers the symbols are in order of cost, equal costs to the smaller symbol
module _ (column : List ℕ) (two : 1 < length column) (w : ℕ) (wide : length column ≤ w) where
  number-le : (s t : ℕ) → s < length column → cost_of column s ≤ cost_of column t → (cost_of column t ≡ cost_of column s → s ≤ t)
      → number_of w column s ≤ number_of w column t
  number-le s t l c f =
      ⊎_elim (λ (e : cost_of column s ≡ cost_of column t). omega (arith, f (sym e), ap (λ x. x * w) e))
      (λ h. omega (arith, key-lt w (cost_of column s) (cost_of column t) s t h (omega arith))) (eq-or-lt_of_le c)

  module _ (above : ℕ) (most : (s : ℕ) → s < length column → number_of w column s ≤ above) where
    pub best-number : least_of above (length column) (number_of w column) ≡ number_of w column (best_of column)
    best-number =
        let b = best-below column two in
        least-is above (number_of w column) (length column) (best_of column) b (most (best_of column) b)
        (λ s l. number-le (best_of column) s b (best-least column two s l) (best-first column two s l))

    pub second-number : next_of above (length column) (number_of w column) ≡ number_of w column (second_of column)
    second-number =
        let b = best-below column two in
        let t = second-best column two in
        next-is above (number_of w column) (length column) (best_of column) (second_of column) b t.below (λ e. t.other (sym e))
        (number-le (best_of column) (second_of column) b (best-least column two (second_of column) t.below)
        (best-first column two (second_of column) t.below))
        (most (second_of column) t.below) (λ s l e. number-le (second_of column) s t.below (t.least s l e) (t.first s l e))

-- the gap of two costs as it counts for choosing doubtful places
pub counted-pinned : (best second : ℕ) → second ≡ ceiling → best < ceiling → counted_gap best second ≡ ceiling
unfolding counted_gap
counted-pinned best second e l = simp (eq-eqb second ceiling e, lt-ltb best ceiling l)

pub counted-open : (best second : ℕ) → second ≢ ceiling → counted_gap best second ≡ second - best
unfolding counted_gap
counted-open best second e = simp (ne_eqb second ceiling e)

pub counted-level : (best second : ℕ) → ceiling ≤ best → counted_gap best second ≡ second - best
unfolding counted_gap
counted-level best second l = go (ℕ_discrete second ceiling)
  where
    go : Dec (second ≡ ceiling) → counted_gap best second ≡ second - best
    go (yes e) = simp (eq-eqb second ceiling e, le-ltb best ceiling l)
    go (no e) = counted-open best second e

pub counted-most : (best second : ℕ) → second ≤ ceiling → counted_gap best second ≤ ceiling
counted-most best second l = go (ℕ_discrete second ceiling) (dec_le ceiling best)
  where
    go : Dec (second ≡ ceiling) → Dec (ceiling ≤ best) → counted_gap best second ≤ ceiling
    go (no e) b = omega (arith, counted-open best second e)
    go (yes e) (no b) = omega (arith, counted-pinned best second e (omega arith))
    go (yes e) (yes b) = omega (arith, counted-level best second b)

pub record PinnedSecond (column : List ℕ) : Type 0 where
  pub second : cost_of column (second_of column) ≡ ceiling
  pub best : cost_of column (best_of column) < ceiling

module _ (column : List ℕ) where
  pub doubt-gap-pinned : PinnedSecond column → doubt_gap_of column ≡ ceiling
  unfolding doubt_gap_of
  doubt-gap-pinned h = counted-pinned (cost_of column (best_of column)) (cost_of column (second_of column)) h.second h.best

  pub doubt-gap-open : cost_of column (second_of column) ≢ ceiling → doubt_gap_of column ≡ gap_of column
  unfolding doubt_gap_of gap_of
  doubt-gap-open e = counted-open (cost_of column (best_of column)) (cost_of column (second_of column)) e

  pub doubt-gap-below : cost_of column (second_of column) < ceiling → doubt_gap_of column < ceiling
  unfolding gap_of
  doubt-gap-below l = omega (arith, doubt-gap-open (omega arith))

  pub doubt-gap-level : cost_of column (best_of column) ≡ ceiling → cost_of column (second_of column) ≤ ceiling
      → (doubt_gap_of column ≡ gap_of column) × (gap_of column ≡ 0)
  unfolding doubt_gap_of gap_of
  doubt-gap-level e l = (counted-level (cost_of column (best_of column)) (cost_of column (second_of column)) (omega arith), omega arith)

  pub doubt-gap-most : cost_of column (second_of column) ≤ ceiling → doubt_gap_of column ≤ ceiling
  unfolding doubt_gap_of
  doubt-gap-most l = counted-most (cost_of column (best_of column)) (cost_of column (second_of column)) l

-- a column read off a list of costs has q costs, and its cost of a symbol is the one that stands there
pub column-length : (q : ℕ) (costs : List ℕ) (p : ℕ) → length (column_of q costs p) ≡ q
unfolding column_of
column-length q costs p = listed-length q (cost_at q costs p)

pub cost-column : (q : ℕ) (costs : List ℕ) (p s : ℕ) → s < q → cost_of (column_of q costs p) s ≡ cost_at q costs p s
unfolding column_of
cost-column q costs p s l = listed_at q s (cost_at q costs p) 0 l

pub cost-none : (q : ℕ) (costs : List ℕ) (p s : ℕ) → q ≤ s → cost_of (column_of q costs p) s ≡ 0
cost-none q costs p s l = get_or-eq_default (column_of q costs p) 0 (omega (arith, column-length q costs p))

-- where the list is long enough, a column is its row number p
pub column-block : (q : ℕ) (costs : List ℕ) (p : ℕ) → q * p + q ≤ length costs → column_of q costs p ≡ block q p costs
column-block q costs p h =
    let e : length (block q p costs) ≡ q = block-length q p costs h in
    ext_get_or 0 (column_of q costs p) (block q p costs) (column-length q costs p ∙ sym e)
    (λ s l.
    let k : s < q = omega (arith, column-length q costs p) in
    cost-column q costs p s k ∙ ap (λ j. get_or costs (j + s) 0) (mul_comm p q) ∙ sym (block_at q p costs s 0 k))

pub costs-length : (n : ℕ) (bytes : List ℕ) → length (costs_from n bytes) ≡ n
unfolding costs_from
costs-length n bytes = listed-length n (cost_from bytes)

-- n columns of q costs, two bytes each, one after the other
pub table-column : (n q : ℕ) (bytes : List ℕ) (p : ℕ) → p < n
    → column_of q (costs_from (n * q) bytes) p ≡ costs_from q (take (q * 2) (drop (p * q * 2) bytes))
unfolding column_of costs_from
table-column n q bytes p l =
    listed-ext q (cost_at q (costs_from (n * q) bytes) p) (cost_from (take (q * 2) (drop (p * q * 2) bytes))) (λ s k. at s k)
  where
    byte : (i : ℕ) → i < q * 2 → (j : ℕ) → p * q * 2 + i ≡ j → get_or (take (q * 2) (drop (p * q * 2) bytes)) i 0 ≡ get_or bytes j 0
    byte i b j e =
        get_or-take (q * 2) (drop (p * q * 2) bytes) i 0 b ∙ get_or-drop (p * q * 2) bytes i 0 ∙ ap (λ x. get_or bytes x 0) e

    at : (s : ℕ) → s < q → get_or (listed (n * q) (cost_from bytes)) (p * q + s) 0 ≡ cost_from (take (q * 2) (drop (p * q * 2) bytes)) s
    at s k =
        let m : suc p * q ≤ n * q = mul-le-mul_right q l in
        listed_at (n * q) (p * q + s) (cost_from bytes) 0 (omega (arith, suc-mul p q))
        ∙ ap₂ (λ x y. x * 256 + y) (sym (byte (s * 2) (omega arith) ((p * q + s) * 2) (omega arith))) (sym (byte (s * 2 + 1) (omega arith) ((p * q + s) * 2 + 1) (omega arith)))
