-- Laws of the doubtful places.
--
--   ahead-cases            a place is ahead by a smaller gap, or by an equal one and as the lower place; smaller-ahead: by a smaller gap it always is
--   ahead_none             the places ahead count 0 where no place that counts is ahead: the place is the first
--   ahead-key              of two of n places one is ahead exactly if its key, the gap times n plus the place, is smaller
--   key-injective          no two places share a key
--   ahead-rank             so the places ahead are counted by a rank
--   smallest-length        exactly d places are chosen, where so many count; smallest-most: never more
--   smallest-all           all that count, where they are no more than d; doubtful-all: all places that are not blank
--   smallest-rising, smallest-below, smallest-counts, smallest-few, smallest-member   they rise, are places that count, and are those with fewer
--                          than d such places ahead of them
--   smallest-ahead         each chosen place is ahead of each place that counts and is not chosen; smallest-before: what is ahead of a chosen place
--                          is chosen
--   doubtful-length, doubtful-most, doubtful-rising, doubtful-below, doubtful-open, doubtful-ahead   the same of a table's doubtful places
--   pinned-behind          a place whose second cost is below the ceiling is ahead of one whose second is at it, over a lower best
--   pinned-ties            of two places with such seconds the lower is ahead
--   doubtful-pinned        a place with such a second is chosen only if all places are that are not blank and whose second is below the ceiling
--   doubtful-none          no doubt, no doubtful places
--   ahead_of-ext, smallest-ext, doubtful-ext   only the n places matter
use Rattle.std.specs.Prelude.{Bool, false, ◌&&◌, ◌||◌, ◌≡◌, refl, ◌⊎◌, ℕ, suc, ◌+◌, ◌*◌, ◌<◌, ◌≤◌, eqb, length}
use Rattle.std.proofs.Math.Bool.{true, not}
use Rattle.std.proofs.Math.Path.{sym, ap, ap₂, subst}
use Rattle.std.proofs.Common.{◌∙◌, inl, inr, lt→ltb, eqb→eq}
use mathlib.Core.List.{List, [], Memᴰ}
use Rattle.std.proofs.Math.Decide.{dec_le}
use native.Mathlib.Omega.{arith}
use Rattle.std.proofs.Math.Dec.{T, ltb, ltb→lt}
use borrow.Author.Tests.{lt-ltb, le-ltb, ltb-true, eq-eqb, ne_eqb}
use Rattle.lists.specs.Count.{count, count-ext, count-zero, count-mono, count-strict, kept, kept-ext, kept-length, kept-member, kept-passes, kept-rising, kept-none, Rising}
use Rattle.lists.specs.Distinct.{and_both}
use Rattle.lists.specs.Every.{both_left, both_right, both-intro, T_true, true-T}
use Rattle.soft.specs.Column.{ceiling, cost_of, second_of, doubt_gap_of, is_blank}
use Rattle.soft.specs.ColumnLaws.{key-lt, PinnedSecond, doubt-gap-pinned, doubt-gap-below}
use Rattle.soft.specs.Blank.{open_at, blanks_of}
use Rattle.soft.specs.BlankLaws.{open-count}
use Rattle.soft.specs.Ranks.{rank_in, rank-in-exact, rank-in-before}
use Rattle.soft.specs.Doubt.{ahead, ahead_by, ahead_of, few_ahead, smallest, gap_at, doubtful_of}

-- only what is said of the n places matters
module _ (n : ℕ) (c e : ℕ → Bool) (g h : ℕ → ℕ) (counts : (p : ℕ) → p < n → c p ≡ e p) (gaps : (p : ℕ) → p < n → g p ≡ h p) where
  pub ahead_of-ext : (q : ℕ) → q < n → ahead_of n c g q ≡ ahead_of n e h q
  unfolding ahead_of
  ahead_of-ext q l =
      count-ext n (λ p. c p && ahead g p q) (λ p. e p && ahead h p q)
      (λ p k. ap₂ (λ (a b : Bool). a && b) (counts p k) (ap₂ (λ x y. ahead_by x p y q) (gaps p k) (gaps q l)))

  pub smallest-ext : (d : ℕ) → smallest n d c g ≡ smallest n d e h
  unfolding smallest
  smallest-ext d =
      kept-ext n (few_ahead n d c g) (few_ahead n d e h)
      (λ q l. ap₂ (λ (a : Bool) (r : ℕ). a && ltb r d) (counts q l) (ahead_of-ext q l))

pub doubtful-ext : (n d : ℕ) (c e : ℕ → List ℕ) → ((p : ℕ) → p < n → c p ≡ e p) → doubtful_of n d c ≡ doubtful_of n d e
unfolding doubtful_of
doubtful-ext n d c e h =
    smallest-ext n (open_at c) (open_at e) (gap_at c) (gap_at e) (λ p l. ap (λ x. not (is_blank x)) (h p l)) (λ p l. ap doubt_gap_of (h p l)) d

-- what is ahead has a smaller gap, or an equal one and is the lower place
pub ahead-cases : (g p h q : ℕ) → T (ahead_by g p h q) → (g < h) ⊎ ((g ≡ h) × (p < q))
unfolding ahead_by
ahead-cases g p h q t = go (ltb g h) refl t
  where
    go : (b : Bool) → ltb g h ≡ b → T (b || (eqb g h && ltb p q)) → (g < h) ⊎ ((g ≡ h) × (p < q))
    go true e s = inl (ltb-true g h e)
    go false e s = inr (eqb→eq g h (both_left (eqb g h) (ltb p q) s), ltb→lt p q (both_right (eqb g h) (ltb p q) s))

pub smaller-ahead : (g p h q : ℕ) → g < h → T (ahead_by g p h q)
unfolding ahead_by
smaller-ahead g p h q l = simp (lt-ltb g h l) tt

-- no doubt, no doubtful places
pub doubtful-none : (n : ℕ) (columns : ℕ → List ℕ) → doubtful_of n 0 columns ≡ []
unfolding doubtful_of smallest
doubtful-none n columns =
    kept-none n (few_ahead n 0 (open_at columns) (gap_at columns))
    (λ k l. nothing (open_at columns k) (ltb (ahead_of n (open_at columns) (gap_at columns) k) 0) (le-ltb (ahead_of n (open_at columns) (gap_at columns) k) 0 (omega arith)))
  where
    nothing : (a b : Bool) → b ≡ false → (a && b) ≡ false
    nothing true b e = e
    nothing false b e = refl

-- the first of the places that count
module _ (n : ℕ) (gap : ℕ → ℕ) (counts : ℕ → Bool) (q : ℕ) where
  pub ahead_none : ahead_of n counts gap q ≡ 0 → (p : ℕ) → p < n → counts p ≡ true → T (ahead gap p q) → ⊥
  unfolding ahead_of
  ahead_none e p l c t =
      subst T (count-zero n (λ p. counts p && ahead gap p q) e p l) (both-intro (counts p) (ahead gap p q) (true-T (counts p) c) t)

module _ (n : ℕ) (gap : ℕ → ℕ) where
  abbrev key : ℕ → ℕ
  key p = gap p * n + p

  pub ahead-key : (p q : ℕ) → p < n → q < n → ahead gap p q ≡ ltb (key p) (key q)
  unfolding ahead_by
  ahead-key p q lp lq = go (dec_le (suc (gap p)) (gap q)) (dec_le (suc (gap q)) (gap p))
    where
      even : gap p ≡ gap q → ltb p q ≡ ltb (key p) (key q)
      even e = go' (dec_le (suc p) q)
        where
          m : gap p * n ≡ gap q * n
          m = ap (λ x. x * n) e

          go' : Dec (p < q) → ltb p q ≡ ltb (key p) (key q)
          go' (yes a) = lt-ltb p q a ∙ sym (lt-ltb (key p) (key q) (omega (arith, m)))
          go' (no a) = le-ltb p q (omega arith) ∙ sym (le-ltb (key p) (key q) (omega (arith, m)))

      go : Dec (gap p < gap q) → Dec (gap q < gap p) → ahead gap p q ≡ ltb (key p) (key q)
      go (yes a) b = simp (lt-ltb (gap p) (gap q) a) (sym (lt-ltb (key p) (key q) (key-lt n (gap p) (gap q) p q a lp)))
      go (no a) (yes b) =
          let m : key q < key p = key-lt n (gap q) (gap p) q p b lq in
          simp (le-ltb (gap p) (gap q) (omega arith), ne_eqb (gap p) (gap q) (omega arith)) (sym (le-ltb (key p) (key q) (omega arith)))
      go (no a) (no b) =
          let e : gap p ≡ gap q = omega arith in
          simp (le-ltb (gap p) (gap q) (omega arith), eq-eqb (gap p) (gap q) e) (even e)

  -- and no two places share it
  pub key-injective : (p q : ℕ) → p < n → q < n → key p ≡ key q → p ≡ q
  key-injective p q lp lq e = go (dec_le (suc (gap p)) (gap q)) (dec_le (suc (gap q)) (gap p))
    where
      go : Dec (gap p < gap q) → Dec (gap q < gap p) → p ≡ q
      go (yes a) b = absurd (omega (arith, key-lt n (gap p) (gap q) p q a lp))
      go (no a) (yes b) = absurd (omega (arith, key-lt n (gap q) (gap p) q p b lq))
      go (no a) (no b) =
          let g : gap p ≡ gap q = omega arith in
          omega (arith, ap (λ x. x * n) g)

  module _ (counts : ℕ → Bool) where
    -- so the places ahead are counted by a rank
    pub ahead-rank : (q : ℕ) → q < n → ahead_of n counts gap q ≡ rank_in counts key n q
    unfolding ahead_of rank_in
    ahead-rank q l =
        count-ext n (λ p. counts p && ahead gap p q) (λ p. counts p && ltb (key p) (key q))
        (λ p k. ap (λ b. counts p && b) (ahead-key p q k l))

    pub smallest-length : (d : ℕ) → d ≤ count n counts → length (smallest n d counts gap) ≡ d
    unfolding smallest
    smallest-length d l =
        kept-length n (few_ahead n d counts gap)
        ∙ count-ext n (few_ahead n d counts gap) (λ p. counts p && ltb (rank_in counts key n p) d)
        (λ p k. ap (λ r. counts p && ltb r d) (ahead-rank p k))
        ∙ rank-in-exact counts key n key-injective d l

    -- no more than count
    all-chosen : (d : ℕ) → length (smallest n d counts gap) ≤ count n counts
    unfolding smallest
    all-chosen d =
        omega (
          arith,
          kept-length n (few_ahead n d counts gap),
          count-mono n (few_ahead n d counts gap) counts (λ p l t. both_left (counts p) (ltb (ahead_of n counts gap p) d) t),
        )

    pub smallest-most : (d : ℕ) → length (smallest n d counts gap) ≤ d
    smallest-most d = go (dec_le d (count n counts))
      where
        go : Dec (d ≤ count n counts) → length (smallest n d counts gap) ≤ d
        go (yes l) = omega (arith, smallest-length d l)
        go (no l) = omega (arith, all-chosen d)

    pub smallest-all : (d : ℕ) → count n counts ≤ d → smallest n d counts gap ≡ kept n counts
    unfolding smallest ahead_of
    smallest-all d few = kept-ext n (few_ahead n d counts gap) counts (λ q l. at q l (counts q) refl)
      where
        -- a place that counts is not ahead of itself, so fewer than all that count are
        short : (q : ℕ) → q < n → counts q ≡ true → count n (λ p. counts p && ahead gap p q) < count n counts
        short q l e =
            count-strict n q (λ p. counts p && ahead gap p q) counts (λ p k t. both_left (counts p) (ahead gap p q) t) l
            (λ t.
            omega
            (arith, ltb→lt (key q) (key q) (subst T (ahead-key q q l l) (both_right (counts q) (ahead gap q q) t))))
            (true-T (counts q) e)

        at : (q : ℕ) → q < n → (b : Bool) → counts q ≡ b → few_ahead n d counts gap q ≡ counts q
        at q l true e = and_both (counts q) (ltb (count n (λ p. counts p && ahead gap p q)) d) e (lt-ltb _ d (omega (arith, short q l e))) ∙ sym e
        at q l false e = ap (λ b. b && ltb (count n (λ p. counts p && ahead gap p q)) d) e ∙ sym e

    module _ (d : ℕ) where
      pub smallest-rising : Rising (smallest n d counts gap)
      unfolding smallest
      smallest-rising = kept-rising n (few_ahead n d counts gap)

      pub smallest-below : (p : ℕ) → Memᴰ p (smallest n d counts gap) → p < n
      unfolding smallest
      smallest-below p m = (kept-passes n (few_ahead n d counts gap) p m).0

      pub smallest-counts : (p : ℕ) → Memᴰ p (smallest n d counts gap) → counts p ≡ true
      unfolding smallest
      smallest-counts p m =
          T_true (counts p) (both_left (counts p) (ltb (ahead_of n counts gap p) d) (kept-passes n (few_ahead n d counts gap) p m).1)

      pub smallest-few : (p : ℕ) → Memᴰ p (smallest n d counts gap) → ahead_of n counts gap p < d
      unfolding smallest
      smallest-few p m =
          ltb→lt (ahead_of n counts gap p) d
          (both_right (counts p) (ltb (ahead_of n counts gap p) d) (kept-passes n (few_ahead n d counts gap) p m).1)

      pub smallest-member : (p : ℕ) → p < n → counts p ≡ true → ahead_of n counts gap p < d → Memᴰ p (smallest n d counts gap)
      unfolding smallest
      smallest-member p l c f =
          kept-member n (few_ahead n d counts gap) p l
          (both-intro (counts p) (ltb (ahead_of n counts gap p) d) (true-T (counts p) c) (lt→ltb (ahead_of n counts gap p) d f))

      pub smallest-ahead : (p q : ℕ) → Memᴰ p (smallest n d counts gap) → q < n → counts q ≡ true
          → (Memᴰ q (smallest n d counts gap) → ⊥) → T (ahead gap p q)
      smallest-ahead p q m l c out = go (dec_le d (ahead_of n counts gap q))
        where
          lp : p < n
          lp = smallest-below p m

          go : Dec (d ≤ ahead_of n counts gap q) → T (ahead gap p q)
          go (no a) = absurd (out (smallest-member q l c (omega arith)))
          go (yes a) =
              rw (ahead-key p q lp l)
              (lt→ltb (key p) (key q)
              (rank-in-before counts key n p q lp l (smallest-counts p m) c
              (omega (arith, smallest-few p m, ahead-rank p lp, ahead-rank q l))))

      pub smallest-before : (p q : ℕ) → Memᴰ p (smallest n d counts gap) → q < n → counts q ≡ true → T (ahead gap q p)
          → Memᴰ q (smallest n d counts gap)
      smallest-before p q m l c t = go (dec_le d (ahead_of n counts gap q))
        where
          lp : p < n
          lp = smallest-below p m

          go : Dec (d ≤ ahead_of n counts gap q) → Memᴰ q (smallest n d counts gap)
          go (no a) = smallest-member q l c (omega arith)
          go (yes a) =
              let u : T (ahead gap p q) = smallest-ahead p q m l c (λ s. omega (arith, smallest-few q s)) in
              absurd
              (omega (
                arith,
                ltb→lt (key p) (key q) (subst T (ahead-key p q lp l) u),
                ltb→lt (key q) (key p) (subst T (ahead-key q p l lp) t),
              ))

-- the order of places whose second cost is at the ceiling
module _ (columns : ℕ → List ℕ) where
  pub pinned-behind : (p q : ℕ) → cost_of (columns p) (second_of (columns p)) < ceiling → PinnedSecond (columns q) → T (ahead (gap_at columns) p q)
  unfolding ahead_by
  pinned-behind p q l h =
      let g : gap_at columns p < gap_at columns q = omega (arith, doubt-gap-below (columns p) l, doubt-gap-pinned (columns q) h) in
      simp (lt-ltb (gap_at columns p) (gap_at columns q) g) tt

  pub pinned-ties : (p q : ℕ) → PinnedSecond (columns p) → PinnedSecond (columns q) → ahead (gap_at columns) p q ≡ ltb p q
  unfolding ahead_by
  pinned-ties p q h k =
      let e : gap_at columns p ≡ gap_at columns q = doubt-gap-pinned (columns p) h ∙ sym (doubt-gap-pinned (columns q) k) in
      simp (le-ltb (gap_at columns p) (gap_at columns q) (omega arith), eq-eqb (gap_at columns p) (gap_at columns q) e)

-- the same of a table's doubtful places
module _ (n d : ℕ) (columns : ℕ → List ℕ) where
  pub doubtful-length : d + blanks_of n columns ≤ n → length (doubtful_of n d columns) ≡ d
  unfolding doubtful_of
  doubtful-length l = smallest-length n (gap_at columns) (open_at columns) d (omega (arith, open-count n columns))

  pub doubtful-most : length (doubtful_of n d columns) ≤ d
  unfolding doubtful_of
  doubtful-most = smallest-most n (gap_at columns) (open_at columns) d

  pub doubtful-all : n ≤ d + blanks_of n columns → doubtful_of n d columns ≡ kept n (open_at columns)
  unfolding doubtful_of
  doubtful-all l = smallest-all n (gap_at columns) (open_at columns) d (omega (arith, open-count n columns))

  pub doubtful-rising : Rising (doubtful_of n d columns)
  unfolding doubtful_of
  doubtful-rising = smallest-rising n (gap_at columns) (open_at columns) d

  pub doubtful-below : (p : ℕ) → Memᴰ p (doubtful_of n d columns) → p < n
  unfolding doubtful_of
  doubtful-below = smallest-below n (gap_at columns) (open_at columns) d

  pub doubtful-open : (p : ℕ) → Memᴰ p (doubtful_of n d columns) → open_at columns p ≡ true
  unfolding doubtful_of
  doubtful-open = smallest-counts n (gap_at columns) (open_at columns) d

  pub doubtful-ahead : (p q : ℕ) → Memᴰ p (doubtful_of n d columns) → q < n → open_at columns q ≡ true
      → (Memᴰ q (doubtful_of n d columns) → ⊥) → T (ahead (gap_at columns) p q)
  unfolding doubtful_of
  doubtful-ahead = smallest-ahead n (gap_at columns) (open_at columns) d

  pub doubtful-pinned : (p q : ℕ) → Memᴰ p (doubtful_of n d columns) → PinnedSecond (columns p) → q < n → open_at columns q ≡ true
      → cost_of (columns q) (second_of (columns q)) < ceiling → Memᴰ q (doubtful_of n d columns)
  unfolding doubtful_of
  doubtful-pinned p q m h l o s = smallest-before n (gap_at columns) (open_at columns) d p q m l o (pinned-behind columns q p s h)
