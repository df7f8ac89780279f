-- Laws of the mark: its sum of smallest gaps is what it says, and a marked word is undercut by none that differs from it in far places.
--
--   sum_in-same             where f is the same at every place, the sum is so many times that
--   low_count              where at least j places count, exactly j of them are summed; low-most: never more
--   low_sum-none            none where j is 0
--   low_sum-le              the sum of any at least j places that count is no smaller
--   low_sum-threshold       by any t that at most j gaps are below, and at least j are up to: the sum of those below, and t for each of the rest
--   excess-ext             of the excess only the n places matter; excess-total: a word of symbols costs over all best costs what its changed places do
--   blank-gap              the plain gap of a blank column is 0
--   unchanged-count        changed and unchanged places are all
--   unchanged-cases        an unchanged place is blank, or the word has the best symbol there
--   slack-none             the slack is 0 where no fewer than far places are changed
--   marked-total, total-marked   a word is marked exactly if it costs at most all best costs and the slack
--   marked-least           no word of symbols costs less than a marked one, if it differs from that in at least far of the n places
use Rattle.std.proofs.Math.Bool.{Bool, true, false, cond}
use Rattle.std.specs.Prelude.{not, ◌&&◌, ◌≡◌, List, ◌≢◌, ◌⊎◌, T, ltb, eqb, leb, length}
use Rattle.std.proofs.Math.Path.{refl, sym, ap}
use Rattle.std.proofs.Common.{ap₂, ◌∙◌, inl, inr, ⊎_elim, eq-or-lt_of_le, le_of_suc-le-suc, T_not, lt→ltb, eqb-true}
use Prim.Native.Nat.{ℕ, zero, suc, ◌+◌, ◌-◌, ◌*◌, ◌<◌, ◌≤◌}
use Rattle.std.proofs.Math.Nat.{mul-le-mul_right, add-mul}
use Rattle.std.proofs.Math.Decide.{dec_le}
use native.Mathlib.Omega.{arith}
use Rattle.std.proofs.Math.Dec.{leb→le, le→leb, ltb→lt}
use Rattle.lists.specs.Count.{bit, sum_of-nil, sum_of-suc, sum_of-ext, sum_of-mono, sum_of-plus, sum_of-bound, count, count-nil, count-suc, count-mono, count-strict, count-split, kept-length, kept-member, kept-passes}
use Rattle.lists.specs.Every.{both_left, both_right, both-intro, T_true, true-T}
use Rattle.soft.specs.Column.{cost_of, best_of, second_of, gap_of, is_blank}
use Rattle.soft.specs.ColumnLaws.{best-below, best-least, second_below, second-best, gap-cost}
use Rattle.soft.specs.BlankLaws.{blank-same, opposite}
use Rattle.soft.specs.Doubt.{ahead, ahead_by, ahead_of, few_ahead, smallest}
use Rattle.soft.specs.DoubtLaws.{ahead-cases, smaller-ahead, smallest-length, smallest-most, smallest-ahead}
use Rattle.soft.specs.TestWord.{best_at}
use Rattle.soft.specs.Total.{symbol_at, cost_in, total_of, changed_at, changed_of, agree, differ_at, differing_in, differing}
use Rattle.soft.specs.TotalLaws.{agree-true}
use Rattle.soft.specs.Threshold.{below_of}
use Rattle.soft.specs.Mark.{is_below, sum_in, low_sum, best_cost, best_total, plain_gap, unchanged, slack, is_marked, excess_in}

-- ---- sums over the places that count

pub sum_in-same : (n : ℕ) (counts : ℕ → Bool) (t : ℕ) → sum_in n counts (λ p. t) ≡ count n counts * t
unfolding sum_in
sum_in-same zero counts t = sum_of-nil (λ p. cond (counts p) t 0) ∙ omega (arith, ap (λ c. c * t) (count-nil counts))
sum_in-same (suc n) counts t =
    omega (
      arith,
      sum_in-same n counts t,
      sum_of-suc n (λ p. cond (counts p) t 0),
      ap (λ c. c * t) (count-suc n counts),
      once (counts n),
    )
  where
    once : (b : Bool) → cond b t 0 ≡ bit b * t
    once true = omega arith
    once false = omega arith

-- the largest of the n numbers of f, or 0
record Top (n : ℕ) (f : ℕ → ℕ) (t : ℕ) : Type 0 where
  above : (p : ℕ) → p < n → f p ≤ t
  least : (u : ℕ) → ((p : ℕ) → p < n → f p ≤ u) → t ≤ u

top : (n : ℕ) (f : ℕ → ℕ) → (t : ℕ) × Top n f t
top zero f = (0, record { above = λ p l. absurd (omega arith); least = λ u h. omega arith })
top (suc n) f = go (top n f)
  where
    up_to : {t : ℕ} → ((p : ℕ) → p < n → f p ≤ t) → f n ≤ t → (p : ℕ) → p < suc n → f p ≤ t
    up_to h l p b = ⊎_elim (λ (e : p ≡ n). omega (arith, ap f e)) (h p) (eq-or-lt_of_le (le_of_suc-le-suc b))

    go : (t : ℕ) × Top n f t → (t : ℕ) × Top (suc n) f t
    go r = larger (dec_le (f n) r.0)
      where
        larger : Dec (f n ≤ r.0) → (t : ℕ) × Top (suc n) f t
        larger (yes l) =
            (r.0, record { above = up_to r.1.above l; least = λ u h. r.1.least u (λ p b. h p (omega arith)) })
        larger (no l) =
            (f n, record { above = up_to (λ p b. omega (arith, r.1.above p b)) (omega arith); least = λ u h. h n (omega arith) })

-- ---- the smallest gaps

ahead-le : (g p h q : ℕ) → T (ahead_by g p h q) → g ≤ h
ahead-le g p h q a = ⊎_elim (λ l. omega arith) (λ r. omega (arith, r.0)) (ahead-cases g p h q a)

ahead-self : (g p : ℕ) → T (ahead_by g p g p) → ⊥
ahead-self g p a = ⊎_elim (λ l. omega arith) (λ r. omega (arith, r.1)) (ahead-cases g p g p a)

module _ (n j : ℕ) (counts : ℕ → Bool) (gap : ℕ → ℕ) where
  abbrev low : ℕ → Bool
  low p = few_ahead n j counts gap p

  pub low_count : j ≤ count n counts → count n (few_ahead n j counts gap) ≡ j
  unfolding smallest
  low_count h = sym (kept-length n low) ∙ smallest-length n gap counts j h

  pub low-most : count n (few_ahead n j counts gap) ≤ j
  unfolding smallest
  low-most = omega (arith, kept-length n low, smallest-most n gap counts j)

  -- a place that counts and is not among them has no smaller gap than one of them
  low-ahead : (p q : ℕ) → p < n → q < n → T (low p) → T (counts q) → (T (low q) → ⊥) → gap p ≤ gap q
  unfolding smallest
  low-ahead p q lp lq chosen c out =
      ahead-le (gap p) p (gap q) q
      (smallest-ahead n gap counts j p q (kept-member n low p lp chosen) lq (T_true (counts q) c) (λ m. out (kept-passes n low q m).1))

  -- one place: with t between the gaps of the low places and those of the others that count
  exchanged : (a b : Bool) (g t : ℕ) → (T a → g ≤ t) → (T b → (T a → ⊥) → t ≤ g) → cond a g 0 + cond b t 0 ≤ cond b g 0 + cond a t 0
  exchanged true true g t h k = omega arith
  exchanged true false g t h k = omega (arith, h tt)
  exchanged false true g t h k = omega (arith, k tt (λ x. x))
  exchanged false false g t h k = omega arith

  held : (b : Bool) (g t : ℕ) → cond b g 0 ≤ t → T b → g ≤ t
  held true g t h s = h
  held false g t h s = absurd s

  spared : (b : Bool) (g t : ℕ) → (T b → g ≤ t) → cond b g 0 ≤ t
  spared true g t h = h tt
  spared false g t h = omega arith

  pub low_sum-le : (chosen : ℕ → Bool) → ((p : ℕ) → p < n → T (chosen p) → T (counts p)) → j ≤ count n chosen
      → low_sum n j counts gap ≤ sum_in n chosen gap
  unfolding low_sum sum_in
  low_sum-le chosen all enough = below (top n (λ p. cond (low p) (gap p) 0))
    where
      below : (t : ℕ) × Top n (λ p. cond (low p) (gap p) 0) t → low_sum n j counts gap ≤ sum_in n chosen gap
      below (t, h) =
          omega (
            arith,
            sum_of-mono n (λ p. cond (low p) (gap p) 0 + cond (chosen p) t 0) (λ p. cond (chosen p) (gap p) 0 + cond (low p) t 0)
                (λ q l.
                exchanged (low q) (chosen q) (gap q) t (held (low q) (gap q) t (h.above q l))
                (λ c out. h.least (gap q) (λ p b. spared (low p) (gap p) (gap q) (λ s. low-ahead p q b l s (all q l c) out)))),
            sum_of-plus n (λ p. cond (low p) (gap p) 0) (λ p. cond (chosen p) t 0),
            sum_of-plus n (λ p. cond (chosen p) (gap p) 0) (λ p. cond (low p) t 0),
            sum_in-same n chosen t,
            sum_in-same n low t,
            mul-le-mul_right t (fewer),
          )
        where
          fewer : count n low ≤ count n chosen
          fewer = omega (arith, low-most)

pub low_sum-none : (n : ℕ) (counts : ℕ → Bool) (gap : ℕ → ℕ) → low_sum n 0 counts gap ≡ 0
unfolding sum_in
low_sum-none n counts gap =
    omega (arith, low_sum-le n 0 counts gap (λ p. false) (λ p l t. absurd t) (omega arith), sum_of-bound n 0 (λ p. 0) (λ p l. omega arith))

-- by a threshold: the gaps below t, and t itself for each of the others
module _ (n j : ℕ) (counts : ℕ → Bool) (gap : ℕ → ℕ) (t : ℕ) where
  abbrev below : ℕ → Bool
  below p = is_below counts gap t p

  abbrev up_to : ℕ → Bool
  up_to p = is_below counts gap (suc t) p

  module _ (few : below_of n t counts gap ≤ j) (enough : j ≤ below_of n (suc t) counts gap) where
    -- what is ahead of a place below t is below t, and the place is not ahead of itself
    below-low : (p : ℕ) → p < n → T (below p) → T (few_ahead n j counts gap p)
    unfolding ahead_of below_of
    below-low p l b =
        let c = both_left (counts p) (ltb (gap p) t) b in
        let g = ltb→lt (gap p) t (both_right (counts p) (ltb (gap p) t) b) in
        both-intro (counts p) (ltb (ahead_of n counts gap p) j) c
        (lt→ltb (ahead_of n counts gap p) j
        (omega (
          arith,
          count-strict n p (λ q. counts q && ahead gap q p) below
              (λ q k a.
              both-intro (counts q) (ltb (gap q) t) (both_left (counts q) (ahead gap q p) a)
              (lt→ltb (gap q) t (omega (arith, ahead-le (gap q) q (gap p) p (both_right (counts q) (ahead gap q p) a)))))
              l (λ a. ahead-self (gap p) p (both_right (counts p) (ahead gap p p) a)) b,
        )))

    -- all up to t are ahead of a place above it
    low-up_to : (p : ℕ) → p < n → T (few_ahead n j counts gap p) → gap p ≤ t
    unfolding ahead_of below_of
    low-up_to p l a = go (dec_le (gap p) t)
      where
        go : Dec (gap p ≤ t) → gap p ≤ t
        go (yes h) = h
        go (no h) =
            absurd
            (omega (
              arith,
              ltb→lt (ahead_of n counts gap p) j (both_right (counts p) (ltb (ahead_of n counts gap p) j) a),
              count-mono n up_to (λ q. counts q && ahead gap q p)
                  (λ q k u.
                  both-intro (counts q) (ahead gap q p) (both_left (counts q) (ltb (gap q) (suc t)) u)
                  (smaller-ahead (gap q) q (gap p) p (omega (arith, ltb→lt (gap q) (suc t) (both_right (counts q) (ltb (gap q) (suc t)) u))))),
            ))

    -- one place: a low one that is not below t has the gap t
    level : (a b : Bool) (g : ℕ) → (T b → T a) → (T a → g ≤ t) → (T a → (T b → ⊥) → t ≤ g) → cond a g 0 + cond b t 0 ≡ cond b g 0 + cond a t 0
    level true true g h k l = omega arith
    level true false g h k l = omega (arith, k tt, l tt (λ x. x))
    level false true g h k l = absurd (h tt)
    level false false g h k l = omega arith

    not-below : (p : ℕ) → T (few_ahead n j counts gap p) → (T (below p) → ⊥) → t ≤ gap p
    not-below p a out = go (dec_le t (gap p))
      where
        go : Dec (t ≤ gap p) → t ≤ gap p
        go (yes h) = h
        go (no h) =
            absurd
            (out
            (both-intro (counts p) (ltb (gap p) t) (both_left (counts p) (ltb (ahead_of n counts gap p) j) a) (lt→ltb (gap p) t (omega arith))))

    pub low_sum-threshold : low_sum n j counts gap ≡ sum_in n (is_below counts gap t) gap + (j - below_of n t counts gap) * t
    unfolding low_sum sum_in below_of
    low_sum-threshold =
        let low : ℕ → Bool = few_ahead n j counts gap in
        let all : count n low ≡ j =
        low_count n j counts gap (omega (arith, count-mono n up_to counts (λ p l u. both_left (counts p) (ltb (gap p) (suc t)) u))) in
        let rest : j ≡ count n below + (j - count n below) = omega arith in
        omega (
          arith,
          sum_of-ext n (λ p. cond (low p) (gap p) 0 + cond (below p) t 0) (λ p. cond (below p) (gap p) 0 + cond (low p) t 0)
              (λ p l. level (low p) (below p) (gap p) (below-low p l) (low-up_to p l) (not-below p)),
          sum_of-plus n (λ p. cond (low p) (gap p) 0) (λ p. cond (below p) t 0),
          sum_of-plus n (λ p. cond (below p) (gap p) 0) (λ p. cond (low p) t 0),
          sum_in-same n below t,
          sum_in-same n low t,
          ap (λ c. c * t) all,
          ap (λ c. c * t) rest ∙ add-mul (count n below) (j - count n below) t,
        )

-- ---- best costs and unchanged places

pub blank-gap : (column : List ℕ) → 1 < length column → is_blank column ≡ true → gap_of column ≡ 0
blank-gap column two e =
    let same : cost_of column (second_of column) ≡ cost_of column (best_of column) = (blank-same column).0 e (second_of column) (best_of column) (second_below column two) (best-below column two) in
    omega (arith, gap-cost column two)

module _ (columns : ℕ → List ℕ) (word : List ℕ) (p : ℕ) where
  pub unchanged-cases : T (unchanged columns word p) → (is_blank (columns p) ≡ true) ⊎ (symbol_at word p ≡ best_at columns p)
  unchanged-cases t = go (is_blank (columns p)) refl (eqb (symbol_at word p) (best_at columns p)) refl t
    where
      go : (b : Bool) → is_blank (columns p) ≡ b → (s : Bool) → eqb (symbol_at word p) (best_at columns p) ≡ s → T (not (not b && not s))
          → (is_blank (columns p) ≡ true) ⊎ (symbol_at word p ≡ best_at columns p)
      go true e s q u = inl e
      go false e true q u = inr (eqb-true (symbol_at word p) (best_at columns p) q)
      go false e false q u = absurd u

pub unchanged-count : (n : ℕ) (columns : ℕ → List ℕ) (word : List ℕ) → changed_of n columns word + count n (unchanged columns word) ≡ n
unfolding changed_of
unchanged-count zero columns word = omega (arith, count-nil (changed_at columns word), count-nil (unchanged columns word))
unchanged-count (suc n) columns word =
    omega (
      arith,
      unchanged-count n columns word,
      count-suc n (changed_at columns word),
      count-suc n (unchanged columns word),
      opposite (changed_at columns word n),
    )

-- ---- what a word costs over all best costs

pub excess-ext : (n : ℕ) (c e : ℕ → Bool) (columns : ℕ → List ℕ) (word : List ℕ) → ((p : ℕ) → p < n → c p ≡ e p)
    → excess_in n c columns word ≡ excess_in n e columns word
unfolding excess_in sum_in
excess-ext n c e columns word h = sum_of-ext n _ _ (λ p l. ap (λ b. cond b (cost_in columns word p - best_cost columns p) 0) (h p l))

module _ (n : ℕ) (columns : ℕ → List ℕ) (word : List ℕ) (two : (p : ℕ) → p < n → 1 < length (columns p))
    (symbols : (p : ℕ) → p < n → symbol_at word p < length (columns p)) where
  over-best : (p : ℕ) → p < n → (cost_in columns word p - best_cost columns p) + best_cost columns p ≡ cost_in columns word p
  over-best p l = omega (arith, best-least (columns p) (two p l) (symbol_at word p) (symbols p l))

  -- an unchanged place costs its best cost
  nothing-over : (p : ℕ) → p < n → changed_at columns word p ≡ false → cost_in columns word p - best_cost columns p ≡ 0
  nothing-over p l e =
      ⊎_elim
      (λ b. omega (arith, (blank-same (columns p)).0 b (symbol_at word p) (best_of (columns p)) (symbols p l) (best-below (columns p) (two p l))))
      (λ s. omega (arith, ap (cost_of (columns p)) s))
      (unchanged-cases columns word p (true-T (unchanged columns word p) (ap not e)))

  pub excess-total : excess_in n (changed_at columns word) columns word ≡ total_of n columns word - best_total n columns
  unfolding excess_in sum_in total_of best_total
  excess-total =
      omega (
        arith,
        sum_of-ext n (λ p. cond (changed_at columns word p) (cost_in columns word p - best_cost columns p) 0) (λ p. cost_in columns word p - best_cost columns p)
            (λ p l. go p l (changed_at columns word p) refl),
        sum_of-plus n (λ p. cost_in columns word p - best_cost columns p) (best_cost columns),
        sum_of-ext n (λ p. (cost_in columns word p - best_cost columns p) + best_cost columns p) (cost_in columns word) over-best,
      )
    where
      go : (p : ℕ) → p < n → (b : Bool) → changed_at columns word p ≡ b
          → cond b (cost_in columns word p - best_cost columns p) 0 ≡ cost_in columns word p - best_cost columns p
      go p l true e = refl
      go p l false e = sym (nothing-over p l e)

-- ---- the mark

module _ (n far : ℕ) (columns : ℕ → List ℕ) (word : List ℕ) where
  pub slack-none : far ≤ changed_of n columns word → slack n far columns word ≡ 0
  unfolding slack
  slack-none h =
      let e : far - changed_of n columns word ≡ 0 = omega arith in
      ap (λ j. low_sum n j (unchanged columns word) (plain_gap columns)) e ∙ low_sum-none n (unchanged columns word) (plain_gap columns)

  pub marked-total : T (is_marked n far columns word) → total_of n columns word ≤ best_total n columns + slack n far columns word
  unfolding is_marked
  marked-total t = omega (arith, leb→le (total_of n columns word - best_total n columns) (slack n far columns word) t)

  pub total-marked : total_of n columns word ≤ best_total n columns + slack n far columns word → T (is_marked n far columns word)
  unfolding is_marked
  total-marked h = le→leb (total_of n columns word - best_total n columns) (slack n far columns word) (omega arith)

  module _ (other : List ℕ) (two : (p : ℕ) → p < n → 1 < length (columns p)) (symbols : (p : ℕ) → p < n → symbol_at other p < length (columns p)) where
    -- at an unchanged place another symbol costs the gap more than the best one
    gap_more : (p : ℕ) → p < n → T (unchanged columns word p) → symbol_at word p ≢ symbol_at other p
        → best_cost columns p + plain_gap columns p ≤ cost_in columns other p
    gap_more p l t ne =
        ⊎_elim
        (λ e. omega (arith, blank-gap (columns p) (two p l) e, best-least (columns p) (two p l) (symbol_at other p) (symbols p l)))
        (λ (e : symbol_at word p ≡ best_at columns p).
        omega (
          arith,
          gap-cost (columns p) (two p l),
          (second-best (columns p) (two p l)).least (symbol_at other p) (symbols p l) (λ q. ne (e ∙ sym q)),
        ))
        (unchanged-cases columns word p t)

    -- where another word has another symbol, and the word is not changed
    abbrev moved : ℕ → Bool
    moved p = differ_at word other p && unchanged columns word p

    moved-count : far ≤ differing n word other → far - changed_of n columns word ≤ count n moved
    unfolding differing_in changed_of
    moved-count h =
        omega (
          arith,
          count-split n (differ_at word other) (changed_at columns word),
          count-mono n (λ p. differ_at word other p && changed_at columns word p) (changed_at columns word)
              (λ p l t. both_right (differ_at word other p) (changed_at columns word p) t),
        )

    module _ (long : n ≤ length word) (otherLong : n ≤ length other) where
      moved-cost : (p : ℕ) → p < n → best_cost columns p + cond (moved p) (plain_gap columns p) 0 ≤ cost_in columns other p
      moved-cost p l =
          added (moved p) (best_cost columns p) (plain_gap columns p) (cost_in columns other p)
          (best-least (columns p) (two p l) (symbol_at other p) (symbols p l))
          (λ t.
          gap_more p l (both_right (differ_at word other p) (unchanged columns word p) t)
          (λ e. T_not (agree word other p) (both_left (differ_at word other p) (unchanged columns word p) t) (true-T (agree word other p) (agree-true word other p (omega arith) (omega arith) e))))
        where
          added : (b : Bool) (x g y : ℕ) → x ≤ y → (T b → x + g ≤ y) → x + cond b g 0 ≤ y
          added true x g y h k = k tt
          added false x g y h k = omega arith

      moved-total : best_total n columns + sum_in n moved (plain_gap columns) ≤ total_of n columns other
      unfolding best_total sum_in total_of
      moved-total =
          omega (
            arith,
            sum_of-mono n (λ p. best_cost columns p + cond (moved p) (plain_gap columns p) 0) (cost_in columns other) moved-cost,
            sum_of-plus n (best_cost columns) (λ p. cond (moved p) (plain_gap columns p) 0),
          )

      pub marked-least : far ≤ differing n word other → T (is_marked n far columns word) → total_of n columns word ≤ total_of n columns other
      unfolding slack
      marked-least apart t =
          omega (
            arith,
            marked-total t,
            moved-total,
            low_sum-le n (far - changed_of n columns word) (unchanged columns word) (plain_gap columns) moved
                (λ p l s. both_right (differ_at word other p) (unchanged columns word p) s) (moved-count apart),
          )
