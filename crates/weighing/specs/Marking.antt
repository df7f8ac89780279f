-- From a function's arrays to the mark, for any number of places and two symbols at least: gaps below a threshold are those of unchanged places, and
-- the mark by the excess.
--
--   over_none, over-made   what a place costs over its best cost, case by case
--   gap-changed, gap-unchanged, gaps-made   the gap at a place, and at all of them
--   low-reach              where fewer gaps than j are below t, the sum of the j smallest is at least t
--   below-is, sum_is       the entries below a threshold, and their sum, are those of the unchanged places
--   enough-above           all unchanged places have an entry below `above`
--   low-is                 so the sum by a threshold is that of the smallest gaps
--   product_small          as many times a threshold as there are places fits a sum
--   few-left               no more gaps are asked for than places are unchanged
--   marked-clean, marked-none, marked-clear, marked-far, marked-near   the five ends of `mark`
use Rattle.std.proofs.Math.Bool.{Bool, true, false, not, cond}
use Rattle.std.specs.Prelude.{◌&&◌, ◌≡◌, List, ◌≢◌, eqb, length}
use Rattle.std.proofs.Math.Path.{refl, sym, ap, ap₂}
use Rattle.std.proofs.Common.{◌∙◌, subst, mul-le-mul, lt→ltb}
use Prim.Native.Nat.{ℕ, suc, ◌+◌, ◌-◌, ◌*◌, ◌<◌, ◌≤◌}
use Rattle.std.proofs.Math.Nat.{mul-le-mul_right}
use Rattle.std.proofs.Math.Decide.{dec_lt}
use native.Mathlib.Omega.{arith}
use Rattle.std.proofs.Math.Dec.{T, ltb, leb}
use Rattle.std.proofs.Math.ListN.{get_or}
use borrow.Author.Tests.{eq-eqb, ne_eqb, lt-ltb, le-ltb, ltb-true, le-leb, lt-leb}
use Rattle.lists.specs.Count as Count
use Rattle.lists.specs.Count.{bit, count, count-ext, count-mono, count-split, sum_of-ext, sum_of-mono}
use Rattle.lists.specs.Distinct.{and_left, and_right}
use Rattle.lists.specs.Every.{both-intro, both_left, both_right}
use Rattle.lists.specs.Listed.{listed, listed_at, listed_by}
use Rattle.soft.specs.Column.{cost_of, gap_of}
use Rattle.soft.specs.Blank.{flag_at}
use Rattle.soft.specs.Total.{symbol_at, cost_in, total_of, changed_at, changed_of, changed_flags}
use Rattle.soft.specs.TotalLaws.{changed-flag, changed-flags}
use Rattle.soft.specs.Doubt.{few_ahead}
use Rattle.soft.specs.Threshold.{below_of}
use Rattle.soft.specs.Mark.{is_below, sum_in, low_sum, best_total, plain_gap, unchanged, slack, excess_in, is_marked}
use Rattle.soft.specs.MarkLaws.{sum_in-same, low_count, low_sum-threshold, slack-none, unchanged-count, excess-total, excess-ext}
use Rattle.weighing.specs.Low.{above, GapBy, gaps_of, Gaps, below_by, sum_below, LowSum, clear_of, Markable}

-- ---- one of the smallest gaps that makes up for an excess

module _ (n j : ℕ) (counts : ℕ → Bool) (gap : ℕ → ℕ) (t : ℕ) (some : j ≤ count n counts) (few : below_of n t counts gap < j) where
  low : ℕ → Bool
  low = few_ahead n j counts gap

  large : ℕ → Bool
  large p = low p && not (ltb (gap p) t)

  small-few : count n (λ p. low p && ltb (gap p) t) ≤ below_of n t counts gap
  unfolding below_of low
  small-few =
      count-mono n (λ p. few_ahead n j counts gap p && ltb (gap p) t) (λ p. counts p && ltb (gap p) t)
      (λ p l u.
      both-intro (counts p) (ltb (gap p) t) (both_left (counts p) _ (both_left (few_ahead n j counts gap p) (ltb (gap p) t) u))
      (both_right (few_ahead n j counts gap p) (ltb (gap p) t) u))

  one-large : 1 ≤ count n large
  unfolding large low
  one-large = omega (arith, few, small-few, low_count n j counts gap some, count-split n low (λ p. ltb (gap p) t))

  pub low-reach : t ≤ low_sum n j counts gap
  unfolding low_sum sum_in large low
  low-reach =
      omega (
        arith,
        sum_of-mono n (λ p. cond (large p) t 0) (λ p. cond (low p) (gap p) 0) (λ p l. go p (low p) (dec_lt (gap p) t)),
        sum_in-same n large t,
        mul-le-mul_right t one-large,
      )
    where
      go : (p : ℕ) (b : Bool) → Dec (gap p < t) → cond (b && not (ltb (gap p) t)) t 0 ≤ cond b (gap p) 0
      go p true (yes h) = omega (arith, ap (λ c. cond (not c) t 0) (lt-ltb (gap p) t h))
      go p true (no h) = omega (arith, ap (λ c. cond (not c) t 0) (le-ltb (gap p) t (omega arith)))
      go p false d = omega arith

-- ---- one place

module _ (flag cost least : ℕ) where
  pub over_none : eqb flag 1 ≡ false → 0 ≡ cond (eqb flag 1) (cost - least) 0
  over_none e = sym (ap (λ b. cond b (cost - least) 0) e)

module _ (columns : ℕ → List ℕ) (word : List ℕ) (p : ℕ) where
  pub over-made : (least : ℕ) {flag symbol cost r : ℕ} → flag ≡ 1 → symbol ≡ symbol_at word p → cost ≡ cost_of (columns p) symbol → r ≡ cost - least
      → r ≡ cond (eqb flag 1) (cost_in columns word p - least) 0
  over-made least {flag} e s c r =
      r ∙ ap (λ x. x - least) (c ∙ ap (cost_of (columns p)) s) ∙ sym (ap (λ b. cond b (cost_in columns word p - least) 0) (eq-eqb flag 1 e))

module _ {gap flag : ℕ} (l : gap < above) where
  pub gap-changed : flag ≡ 1 → GapBy gap flag above
  gap-changed e = record { is = sym (ap (λ b. cond b above gap) (eq-eqb flag 1 e)); small = l }

  pub gap-unchanged : flag ≢ 1 → GapBy gap flag gap
  gap-unchanged n = record { is = sym (ap (λ b. cond b above gap) (ne_eqb flag 1 n)); small = l }

-- all places
pub gaps-made : {places : ℕ} (plain flags : List ℕ) {out : List ℕ} → length out ≡ places
    → ((p : ℕ) → p < places → GapBy (get_or plain p 0) (get_or flags p 0) (get_or out p 0)) → (columns : ℕ → List ℕ)
    → plain ≡ listed places (plain_gap columns) → Gaps places columns flags out
unfolding gaps_of
gaps-made {places} plain flags {out} long made columns e =
    record {
      is =
          listed_by 0 places out (λ p. cond (flag_at flags p) above (gap_of (columns p))) long
          (λ p l. (made p l).is ∙ ap (cond (flag_at flags p) above) (at p l));
      small = λ p l _. subst (λ x. x < above) (at p l) (made p l).small;
    }
  where
    at : (p : ℕ) → p < places → get_or plain p 0 ≡ gap_of (columns p)
    at p l = ap (λ (c : List ℕ). get_or c p 0) e ∙ listed_at places p (plain_gap columns) 0 l

-- ---- the entries of an array of gaps

module _ {places : ℕ} (columns : ℕ → List ℕ) (word flags gaps : List ℕ) (made : Gaps places columns flags gaps)
    (changed : flags ≡ changed_flags places columns word) where
  flag_is : (p : ℕ) → p < places → flag_at flags p ≡ changed_at columns word p
  flag_is p l = ap (λ f. flag_at f p) changed ∙ changed-flag places columns word p l

  entry : (p : ℕ) → p < places → get_or gaps p 0 ≡ cond (changed_at columns word p) above (gap_of (columns p))
  unfolding gaps_of
  entry p l =
      ap (λ g. get_or g p 0) made.is ∙ listed_at places p (λ q. cond (flag_at flags q) above (gap_of (columns q))) 0 l
      ∙ ap (λ b. cond b above (gap_of (columns p))) (flag_is p l)

  module _ (t : ℕ) (most : t ≤ above) where
    -- an entry below t is a gap of an unchanged place
    at : (p : ℕ) → p < places → ltb (get_or gaps p 0) t ≡ is_below (unchanged columns word) (plain_gap columns) t p
    at p l = ap (λ x. ltb x t) (entry p l) ∙ go (changed_at columns word p)
      where
        go : (b : Bool) → ltb (cond b above (gap_of (columns p))) t ≡ (not b && ltb (gap_of (columns p)) t)
        go true = le-ltb above t most
        go false = refl

    pub below-is : below_by places t gaps ≡ below_of places t (unchanged columns word) (plain_gap columns)
    unfolding below_by below_of
    below-is = count-ext places _ _ at

    pub sum_is : sum_below places t gaps ≡ sum_in places (is_below (unchanged columns word) (plain_gap columns) t) (plain_gap columns)
    unfolding sum_below sum_in
    sum_is = sum_of-ext places _ _ (λ p l. ap₂ (λ a b. cond a b 0) (at p l) refl ∙ go p l (changed_at columns word p) refl)
      where
        go : (p : ℕ) → p < places → (b : Bool) → changed_at columns word p ≡ b
            → cond (is_below (unchanged columns word) (plain_gap columns) t p) (get_or gaps p 0) 0
            ≡ cond (is_below (unchanged columns word) (plain_gap columns) t p) (plain_gap columns p) 0
        go p l true e = ap (λ c. cond (not c && ltb (plain_gap columns p) t) (get_or gaps p 0) 0) e ∙ sym (ap (λ c. cond (not c && ltb (plain_gap columns p) t) (plain_gap columns p) 0) e)
        go p l false e = ap (cond' (is_below (unchanged columns word) (plain_gap columns) t p)) (entry p l ∙ ap (λ c. cond c above (gap_of (columns p))) e)
          where
            cond' : Bool → ℕ → ℕ
            cond' b x = cond b x 0

  -- all unchanged places have an entry below `above`
  pub enough-above : count places (unchanged columns word) ≤ below_by places above gaps
  unfolding below_of
  enough-above =
      omega (
        arith,
        below-is above (omega arith),
        below_all,
      )
    where
      small-there : (p : ℕ) → p < places → (b : Bool) → changed_at columns word p ≡ b → T (unchanged columns word p) → T (unchanged columns word p && ltb (plain_gap columns p) above)
      small-there p l true e u = absurd (subst (λ c. T (not c)) e u)
      small-there p l false e u = both-intro (unchanged columns word p) (ltb (plain_gap columns p) above) u (lt→ltb _ _ (made.small p l (flag_is p l ∙ e)))

      below_all : count places (unchanged columns word) ≤ below_of places above (unchanged columns word) (plain_gap columns)
      below_all = count-mono places (unchanged columns word) (λ p. unchanged columns word p && ltb (plain_gap columns p) above) (λ p l u. small-there p l (changed_at columns word p) refl u)

  pub low-is : {few r : ℕ} → LowSum places gaps few r → r ≡ low_sum places few (unchanged columns word) (plain_gap columns)
  low-is {few} s =
      let t = s.t in
      let l : t ≤ above = omega (arith, s.splits.within) in
      let b = below-is t l in
      let c = below-is (suc t) (omega (arith, s.splits.within)) in
      s.is ∙ ap₂ (λ x y. x + (few - y) * t) (sum_is t l) b
      ∙ sym (low_sum-threshold places few (unchanged columns word) (plain_gap columns) t (omega (arith, b, s.splits.at_most)) (omega (arith, c, s.splits.at_least)))

-- the rest of the sum fits
pub product_small : (places : ℕ) {r t : ℕ} → r ≤ places → t < above → r * t ≤ places * above
product_small places {t = t} a b = let l : t ≤ above = omega arith in mul-le-mul a l

-- ---- the mark

module _ {places symbols : ℕ} {columns : ℕ → List ℕ} {word flags : List ℕ} {far : ℕ}
    (M : Markable places symbols columns word flags far) where
  count-is : {count : ℕ} → count ≡ Count.count places (flag_at flags) → count ≡ changed_of places columns word
  count-is e = e ∙ ap (λ f. Count.count places (flag_at f)) M.changed ∙ changed-flags places columns word

  pub few-left : {count : ℕ} → count ≡ Count.count places (flag_at flags) → far - count ≤ Count.count places (unchanged columns word)
  few-left e = omega (arith, count-is e, M.few, unchanged-count places columns word)

  module _ (two : 1 < symbols) where
    due-is : {due : ℕ} → due ≡ excess_in places (flag_at flags) columns word → due ≡ total_of places columns word - best_total places columns
    due-is e =
        e ∙ excess-ext places (flag_at flags) (changed_at columns word) columns word
        (λ p l. ap (λ f. flag_at f p) M.changed ∙ changed-flag places columns word p l)
        ∙ excess-total places columns word (λ p l. omega (arith, M.wide p l)) (λ p l. omega (arith, M.wide p l, M.symbol p l))

    module _ {due : ℕ} (d : due ≡ excess_in places (flag_at flags) columns word) where
      marked : (b : Bool) → leb due (slack places far columns word) ≡ b → bit b ≡ bit (is_marked places far columns word)
      unfolding is_marked
      marked b e = ap bit (sym e ∙ ap (λ x. leb x (slack places far columns word)) (due-is d))

      pub marked-clean : due ≡ 0 → 1 ≡ bit (is_marked places far columns word)
      marked-clean z = marked true (le-leb due _ (omega arith))

      module _ {count : ℕ} (c : count ≡ Count.count places (flag_at flags)) where
        pub marked-clear : {gaps : List ℕ} → Gaps places columns flags gaps → {r : Bool} → r ≡ true → r ≡ clear_of places gaps due (far - count)
            → 1 ≡ bit (is_marked places far columns word)
        unfolding clear_of slack
        marked-clear {gaps} made t k =
            let e = sym k ∙ t in
            let small : due < above = ltb-true due above (and_left (ltb due above) (ltb (below_by places due gaps) (far - count)) e) in
            let few : below_by places due gaps < far - count =
            ltb-true (below_by places due gaps) (far - count) (and_right (ltb due above) (ltb (below_by places due gaps) (far - count)) e) in
            let q = count-is c in
            let b = below-is columns word flags gaps made M.changed due (omega arith) in
            marked true
            (le-leb due _
            (omega (
              arith,
              low-reach places (far - count) (unchanged columns word) (plain_gap columns) due (few-left c) (omega (arith, b)),
              ap (λ n. low_sum places (far - n) (unchanged columns word) (plain_gap columns)) q,
            )))

        pub marked-none : due ≢ 0 → far ≤ count → 0 ≡ bit (is_marked places far columns word)
        marked-none n h = marked false (lt-leb due _ (omega (arith, slack-none places far columns word (omega (arith, count-is c)))))

        module _ {gaps : List ℕ} (made : Gaps places columns flags gaps) {low : ℕ} (s : LowSum places gaps (far - count) low) where
          low-slack : low ≡ slack places far columns word
          unfolding slack
          low-slack =
              low-is columns word flags gaps made M.changed s
              ∙ ap (λ n. low_sum places (far - n) (unchanged columns word) (plain_gap columns)) (count-is c)

          pub marked-far : low < due → 0 ≡ bit (is_marked places far columns word)
          marked-far h = marked false (lt-leb due _ (omega (arith, low-slack)))

          pub marked-near : due ≤ low → 1 ≡ bit (is_marked places far columns word)
          marked-near h = marked true (le-leb due _ (omega (arith, low-slack)))
