-- Laws of the places that a threshold chooses: they are those of smallest gap with a doubt that is counted, so all that is said of these holds.
--
--   below-ahead            a place that counts has a gap below the threshold exactly if fewer places are ahead of it than have such a gap
--   below-count            no more have such a gap than count; none_below: none has, where all gaps are at the threshold or above
--   clamp-few, clamp-none, clamp-many   the three cases of the number chosen; clamp-most: it is the maximum at most; clamp-some: and 1 at least,
--                          if the maximum is
--   closest-smallest       the places chosen are the places of smallest gap, as many as that number says
--   Close n t m counts gap q   what is said of a place that is chosen; closest-close, close-closest: it is chosen exactly if that holds
--   first-exists           where a place counts there is a first, one with none ahead of it; closest-first: it is chosen, whatever the threshold
--   closest-reason         a place that is chosen is the first, or its gap is below the threshold
--   closest-member         a place with a gap below the threshold is chosen, unless as many as the maximum are ahead of it
--   closest-most           no more than the maximum are chosen; closest-length: and exactly the number above, where a place counts
--   closest-clear          where no gap is below the threshold, the first place is chosen and no other; closest-zero: so with the threshold 0
--   closest-all            where all gaps are below it, only the maximum bounds the choice
--   closest-rising, closest-below, closest-counts   they rise, and are places that count
--   closest-ahead          each chosen place is ahead of each place that counts and is not chosen
--   closest-doubtful       of a table: the doubtful places with a doubt that is counted; doubt-below-most, doubt-below-some: the maximum at
--                          most, and 1 at least
--   closest_of-close, close-closest_of, closest_of-first, closest_of-most, closest_of-length, closest_of-rising, closest_of-below   the same of
--                          a table's places
--   closest-open           no blank place is chosen
--   closest-pinned         a place whose second cost is at the ceiling, over a lower best, is chosen only as the first,
--   closest-pinned-all     so where it is chosen there is no place that is not blank and whose second is below the ceiling
use Rattle.std.specs.Prelude.{Bool, not, ◌&&◌, ◌||◌, ◌≡◌, ◌⊎◌, ℕ, suc, ◌<◌, ◌≤◌, length, get_or}
use Rattle.std.proofs.Math.Bool.{true, false, and-true, or-true}
use Rattle.std.proofs.Math.Path.{refl, sym, ap, ap₂, subst}
use Rattle.std.proofs.Common.{◌∙◌, lt→ltb, eqb→eq}
use mathlib.Core.List.{List, Memᴰ}
use Rattle.std.proofs.Math.Logic.{inl, inr, ⊎_elim}
use Rattle.std.proofs.Math.Decide.{dec_le, ℕ_discrete}
use native.Mathlib.Omega.{arith}
use Rattle.std.proofs.Math.Dec.{T, ltb, eqb, ltb→lt}
use borrow.Author.Tests.{lt-ltb, le-ltb, eq-eqb, ne_eqb}
use Rattle.lists.specs.Count.{count, count-mono, count-strict, count_none, kept-ext, kept-length, kept-member, kept-passes, kept-rising, Rising}
use Rattle.lists.specs.Member.{member-at}
use Rattle.lists.specs.Every.{both_left, both_right, both-intro, T_true, true-T}
use Rattle.soft.specs.Column.{ceiling, cost_of, second_of}
use Rattle.soft.specs.ColumnLaws.{PinnedSecond, doubt-gap-pinned}
use Rattle.soft.specs.Blank.{open_at, blanks_of}
use Rattle.soft.specs.BlankLaws.{open-count}
use Rattle.soft.specs.Doubt.{ahead, ahead_of, few_ahead, smallest, gap_at, doubtful_of}
use Rattle.soft.specs.DoubtLaws.{ahead-cases, smaller-ahead, ahead_none, smallest-length, smallest-most, smallest-below, smallest-counts, smallest-few, smallest-ahead, pinned-behind}
use Rattle.soft.specs.Threshold.{is_close, closest, closest_of, below_of, clamp_of, doubt_below}

-- ---- the number chosen

module _ (m c : ℕ) where
  pub clamp-few : 1 ≤ c → c < m → clamp_of m c ≡ c
  unfolding clamp_of
  clamp-few some few = simp (lt-ltb c m few, ne_eqb c 0 (omega arith))

  pub clamp-none : 1 ≤ m → c ≡ 0 → clamp_of m c ≡ 1
  unfolding clamp_of
  clamp-none room none = simp (lt-ltb c m (omega arith), eq-eqb c 0 none)

  pub clamp-many : m ≤ c → clamp_of m c ≡ m
  unfolding clamp_of
  clamp-many many = simp (le-ltb c m many)

  -- it is one of three numbers
  clamp-cases : ((m ≤ c) × (clamp_of m c ≡ m)) ⊎ (((c ≡ 0) × (c < m) × (clamp_of m c ≡ 1)) ⊎ ((1 ≤ c) × (c < m) × (clamp_of m c ≡ c)))
  clamp-cases = go (dec_le m c) (dec_le 1 c)
    where
      go : Dec (m ≤ c) → Dec (1 ≤ c)
          → ((m ≤ c) × (clamp_of m c ≡ m)) ⊎ (((c ≡ 0) × (c < m) × (clamp_of m c ≡ 1)) ⊎ ((1 ≤ c) × (c < m) × (clamp_of m c ≡ c)))
      go (yes a) b = inl (a, clamp-many a)
      go (no a) (yes b) = inr (inr (b, omega arith, clamp-few b (omega arith)))
      go (no a) (no b) = let z : c ≡ 0 = omega arith in inr (inl (z, omega arith, clamp-none (omega arith) z))

  pub clamp-most : clamp_of m c ≤ m
  clamp-most = ⊎_elim (λ a. omega arith) (⊎_elim (λ a. omega arith) (λ a. omega arith)) clamp-cases

  pub clamp-some : 1 ≤ m → 1 ≤ clamp_of m c
  clamp-some room = ⊎_elim (λ a. omega arith) (⊎_elim (λ a. omega arith) (λ a. omega arith)) clamp-cases

  -- the first, or one with fewer ahead of it than c, and than m: fewer than the number are ahead
  clamp-test : (r : ℕ) → (ltb r m && (eqb r 0 || ltb r c)) ≡ ltb r (clamp_of m c)
  clamp-test r = go (dec_le (suc r) m) (ℕ_discrete r 0) (dec_le (suc r) c)
    where
      within : r < m → r < c → r < clamp_of m c
      within a b = ⊎_elim (λ k. omega arith) (⊎_elim (λ k. omega arith) (λ k. omega arith)) clamp-cases

      beyond : 1 ≤ r → c ≤ r → r < m → clamp_of m c ≤ r
      beyond a b d = ⊎_elim (λ k. omega arith) (⊎_elim (λ k. omega arith) (λ k. omega arith)) clamp-cases

      go : Dec (r < m) → Dec (r ≡ 0) → Dec (r < c) → (ltb r m && (eqb r 0 || ltb r c)) ≡ ltb r (clamp_of m c)
      go (no a) z b = simp (le-ltb r m (omega arith)) (sym (le-ltb r (clamp_of m c) (omega (arith, clamp-most))))
      go (yes a) (yes z) b = simp (lt-ltb r m a, eq-eqb r 0 z) (sym (lt-ltb r (clamp_of m c) (omega (arith, clamp-some (omega arith)))))
      go (yes a) (no z) (yes b) = simp (lt-ltb r m a, ne_eqb r 0 z, lt-ltb r c b) (sym (lt-ltb r (clamp_of m c) (within a b)))
      go (yes a) (no z) (no b) =
          simp (lt-ltb r m a, ne_eqb r 0 z, le-ltb r c (omega arith)) (sym (le-ltb r (clamp_of m c) (beyond (omega arith) (omega arith) a)))

-- ---- gaps below the threshold

module _ (n t : ℕ) (counts : ℕ → Bool) (gap : ℕ → ℕ) where
  abbrev is_below : ℕ → Bool
  is_below p = counts p && ltb (gap p) t

  pub below-ahead : (q : ℕ) → q < n → counts q ≡ true → ltb (gap q) t ≡ ltb (ahead_of n counts gap q) (below_of n t counts gap)
  unfolding ahead_of below_of
  below-ahead q l c = go (dec_le (suc (gap q)) t)
    where
      -- what is ahead has no larger gap,
      no-larger : (p : ℕ) → T (ahead gap p q) → gap p ≤ gap q
      no-larger p s = ⊎_elim (λ a. omega arith) (λ a. omega arith) (ahead-cases (gap p) p (gap q) q s)

      -- and no place is ahead of itself
      not_itself : T (ahead gap q q) → ⊥
      not_itself s = ⊎_elim (λ a. omega arith) (λ a. omega arith) (ahead-cases (gap q) q (gap q) q s)

      -- so below the threshold are all that are ahead, and the place itself,
      more : gap q < t → count n (λ p. counts p && ahead gap p q) < count n is_below
      more a =
          count-strict n q (λ p. counts p && ahead gap p q) is_below
          (λ p k s.
          both-intro (counts p) (ltb (gap p) t) (both_left (counts p) (ahead gap p q) s)
          (lt→ltb (gap p) t (omega (arith, no-larger p (both_right (counts p) (ahead gap p q) s)))))
          l (λ s. not_itself (both_right (counts q) (ahead gap q q) s))
          (both-intro (counts q) (ltb (gap q) t) (true-T (counts q) c) (lt→ltb (gap q) t a))

      -- or only such as are ahead
      no_more : t ≤ gap q → count n is_below ≤ count n (λ p. counts p && ahead gap p q)
      no_more a =
          count-mono n is_below (λ p. counts p && ahead gap p q)
          (λ p k s.
          both-intro (counts p) (ahead gap p q) (both_left (counts p) (ltb (gap p) t) s)
          (smaller-ahead (gap p) p (gap q) q (omega (arith, ltb→lt (gap p) t (both_right (counts p) (ltb (gap p) t) s)))))

      go : Dec (gap q < t) → ltb (gap q) t ≡ ltb (count n (λ p. counts p && ahead gap p q)) (count n is_below)
      go (yes a) = lt-ltb (gap q) t a ∙ sym (lt-ltb _ _ (more a))
      go (no a) = let b : t ≤ gap q = omega arith in le-ltb (gap q) t b ∙ sym (le-ltb _ _ (no_more b))

  pub below-count : below_of n t counts gap ≤ count n counts
  unfolding below_of
  below-count = count-mono n is_below counts (λ p l s. both_left (counts p) (ltb (gap p) t) s)

  pub none_below : ((p : ℕ) → p < n → counts p ≡ true → t ≤ gap p) → below_of n t counts gap ≡ 0
  unfolding below_of
  none_below large = count_none n is_below (λ p l. at p l (counts p) refl)
    where
      at : (p : ℕ) → p < n → (b : Bool) → counts p ≡ b → is_below p ≡ false
      at p l true e = ap₂ (λ (a b : Bool). a && b) e (le-ltb (gap p) t (large p l e))
      at p l false e = ap (λ b. b && ltb (gap p) t) e

module _ (n t m : ℕ) (counts : ℕ → Bool) (gap : ℕ → ℕ) where
  pub closest-smallest : closest n t m counts gap ≡ smallest n (clamp_of m (below_of n t counts gap)) counts gap
  unfolding closest smallest
  closest-smallest =
      kept-ext n (is_close n t m counts gap) (few_ahead n (clamp_of m (below_of n t counts gap)) counts gap) (λ q l. at q l (counts q) refl)
    where
      at : (q : ℕ) → q < n → (b : Bool) → counts q ≡ b → is_close n t m counts gap q ≡ few_ahead n (clamp_of m (below_of n t counts gap)) counts gap q
      at q l true e =
          ap (λ b. counts q && b)
          (ap (λ b. ltb (ahead_of n counts gap q) m && (eqb (ahead_of n counts gap q) 0 || b)) (below-ahead n t counts gap q l e)
          ∙ clamp-test m (below_of n t counts gap) (ahead_of n counts gap q))
      at q l false e =
          ap (λ b. b && (ltb (ahead_of n counts gap q) m && (eqb (ahead_of n counts gap q) 0 || ltb (gap q) t))) e
          ∙ sym (ap (λ b. b && ltb (ahead_of n counts gap q) (clamp_of m (below_of n t counts gap))) e)

  pub closest-length : 1 ≤ count n counts → length (closest n t m counts gap) ≡ clamp_of m (below_of n t counts gap)
  closest-length some =
      ap length closest-smallest
      ∙ smallest-length n gap counts (clamp_of m (below_of n t counts gap))
      (⊎_elim (λ k. omega (arith, below-count n t counts gap)) (⊎_elim (λ k. omega arith) (λ k. omega (arith, below-count n t counts gap)))
      (clamp-cases m (below_of n t counts gap)))

  pub closest-clear : 1 ≤ m → ((p : ℕ) → p < n → counts p ≡ true → t ≤ gap p) → closest n t m counts gap ≡ smallest n 1 counts gap
  closest-clear room large =
      closest-smallest ∙ ap (λ d. smallest n d counts gap) (clamp-none m (below_of n t counts gap) room (none_below n t counts gap large))

pub closest-zero : (n m : ℕ) (counts : ℕ → Bool) (gap : ℕ → ℕ) → 1 ≤ m → closest n 0 m counts gap ≡ smallest n 1 counts gap
closest-zero n m counts gap room = closest-clear n 0 m counts gap room (λ p l e. omega arith)

-- ---- the places chosen, one by one

-- of the places that count one is the first
pub first-exists : (n : ℕ) (counts : ℕ → Bool) (gap : ℕ → ℕ) (p : ℕ) → p < n → counts p ≡ true
    → (q : ℕ) × (q < n) × (counts q ≡ true) × (ahead_of n counts gap q ≡ 0)
first-exists n counts gap p l c =
    let one : List ℕ = smallest n 1 counts gap in
    let q : ℕ = get_or one 0 0 in
    let s : Memᴰ q one = member-at one 0 0 (omega (arith, smallest-length n gap counts 1 (omega (arith, some)))) in
    (q, smallest-below n gap counts 1 q s, smallest-counts n gap counts 1 q s, omega (arith, smallest-few n gap counts 1 q s))
  where
    some : 0 < count n counts
    some =
        subst (λ x. x < count n counts) (count_none n (λ k. false) (λ k h. refl))
        (count-strict n p (λ k. false) counts (λ k h u. absurd u) l (λ u. u) (true-T (counts p) c))

pub record Close (n t m : ℕ) (counts : ℕ → Bool) (gap : ℕ → ℕ) (q : ℕ) : Type 0 where
  pub in_range : q < n
  pub counted : counts q ≡ true
  pub few : ahead_of n counts gap q < m
  pub reason : (ahead_of n counts gap q ≡ 0) ⊎ (gap q < t)

module _ (n t m : ℕ) (counts : ℕ → Bool) (gap : ℕ → ℕ) where
  pub closest-close : (q : ℕ) → Memᴰ q (closest n t m counts gap) → Close n t m counts gap q
  unfolding closest
  closest-close q s =
      let r = ahead_of n counts gap q in
      let k = kept-passes n (is_close n t m counts gap) q s in
      let b = both_right (counts q) (ltb r m && (eqb r 0 || ltb (gap q) t)) k.1 in
      record {
        in_range = k.0;
        counted = T_true (counts q) (both_left (counts q) (ltb r m && (eqb r 0 || ltb (gap q) t)) k.1);
        few = ltb→lt r m (both_left (ltb r m) (eqb r 0 || ltb (gap q) t) b);
        reason = either (eqb r 0) refl (both_right (ltb r m) (eqb r 0 || ltb (gap q) t) b);
      }
    where
      either : (b : Bool) → eqb (ahead_of n counts gap q) 0 ≡ b → T (b || ltb (gap q) t) → (ahead_of n counts gap q ≡ 0) ⊎ (gap q < t)
      either true e u = inl (eqb→eq (ahead_of n counts gap q) 0 (true-T (eqb (ahead_of n counts gap q) 0) e))
      either false e u = inr (ltb→lt (gap q) t u)

  pub close-closest : (q : ℕ) → Close n t m counts gap q → Memᴰ q (closest n t m counts gap)
  unfolding closest
  close-closest q h =
      let r = ahead_of n counts gap q in
      kept-member n (is_close n t m counts gap) q h.in_range
      (both-intro (counts q) (ltb r m && (eqb r 0 || ltb (gap q) t)) (true-T (counts q) h.counted)
      (both-intro (ltb r m) (eqb r 0 || ltb (gap q) t) (lt→ltb r m h.few)
      (⊎_elim (λ e. subst T (sym (ap (λ b. b || ltb (gap q) t) (eq-eqb r 0 e))) tt)
      (λ l. subst T (sym (ap (λ b. eqb r 0 || b) (lt-ltb (gap q) t l) ∙ or-true (eqb r 0))) tt) h.reason)))

  pub closest-first : 1 ≤ m → (q : ℕ) → q < n → counts q ≡ true → ahead_of n counts gap q ≡ 0 → Memᴰ q (closest n t m counts gap)
  closest-first room q l c e = close-closest q (record { in_range = l; counted = c; few = omega arith; reason = inl e })

  pub closest-member : (q : ℕ) → q < n → counts q ≡ true → gap q < t → ahead_of n counts gap q < m → Memᴰ q (closest n t m counts gap)
  closest-member q l c g f = close-closest q (record { in_range = l; counted = c; few = f; reason = inr g })

  pub closest-reason : (q : ℕ) → Memᴰ q (closest n t m counts gap) → (ahead_of n counts gap q ≡ 0) ⊎ (gap q < t)
  closest-reason q s = (closest-close q s).reason

  pub closest-below : (q : ℕ) → Memᴰ q (closest n t m counts gap) → q < n
  closest-below q s = (closest-close q s).in_range

  pub closest-counts : (q : ℕ) → Memᴰ q (closest n t m counts gap) → counts q ≡ true
  closest-counts q s = (closest-close q s).counted

  pub closest-rising : Rising (closest n t m counts gap)
  unfolding closest
  closest-rising = kept-rising n (is_close n t m counts gap)

  -- those chosen have fewer than the maximum ahead of them
  pub closest-most : length (closest n t m counts gap) ≤ m
  unfolding closest smallest
  closest-most =
      omega (
        arith,
        kept-length n (is_close n t m counts gap),
        kept-length n (few_ahead n m counts gap),
        smallest-most n gap counts m,
        count-mono n (is_close n t m counts gap) (few_ahead n m counts gap)
            (λ q l s.
            let r = ahead_of n counts gap q in
            let rest = eqb r 0 || ltb (gap q) t in
            both-intro (counts q) (ltb r m) (both_left (counts q) (ltb r m && rest) s)
            (both_left (ltb r m) rest (both_right (counts q) (ltb r m && rest) s))),
      )

  pub closest-ahead : (p q : ℕ) → Memᴰ p (closest n t m counts gap) → q < n → counts q ≡ true
      → (Memᴰ q (closest n t m counts gap) → ⊥) → T (ahead gap p q)
  closest-ahead p q s l c out =
      let same = closest-smallest n t m counts gap in
      smallest-ahead n gap counts (clamp_of m (below_of n t counts gap)) p q (subst (Memᴰ p) same s) l c
      (λ k. out (subst (Memᴰ q) (sym same) k))

  pub closest-all : ((p : ℕ) → p < n → counts p ≡ true → gap p < t) → closest n t m counts gap ≡ smallest n m counts gap
  unfolding closest smallest
  closest-all small = kept-ext n (is_close n t m counts gap) (few_ahead n m counts gap) (λ q l. at q l (counts q) refl)
    where
      at : (q : ℕ) → q < n → (b : Bool) → counts q ≡ b → is_close n t m counts gap q ≡ few_ahead n m counts gap q
      at q l true e = simp (lt-ltb (gap q) t (small q l e), or-true, and-true)
      at q l false e = simp e

-- ---- the same of a table's places

module _ (n t m : ℕ) (columns : ℕ → List ℕ) where
  pub closest-doubtful : closest_of n t m columns ≡ doubtful_of n (doubt_below n t m columns) columns
  unfolding closest_of doubtful_of doubt_below
  closest-doubtful = closest-smallest n t m (open_at columns) (gap_at columns)

  pub doubt-below-most : doubt_below n t m columns ≤ m
  unfolding doubt_below
  doubt-below-most = clamp-most m (below_of n t (open_at columns) (gap_at columns))

  pub doubt-below-some : 1 ≤ m → 1 ≤ doubt_below n t m columns
  unfolding doubt_below
  doubt-below-some = clamp-some m (below_of n t (open_at columns) (gap_at columns))

  pub closest_of-close : (q : ℕ) → Memᴰ q (closest_of n t m columns) → Close n t m (open_at columns) (gap_at columns) q
  unfolding closest_of
  closest_of-close = closest-close n t m (open_at columns) (gap_at columns)

  pub close-closest_of : (q : ℕ) → Close n t m (open_at columns) (gap_at columns) q → Memᴰ q (closest_of n t m columns)
  unfolding closest_of
  close-closest_of = close-closest n t m (open_at columns) (gap_at columns)

  pub closest_of-first : 1 ≤ m → (q : ℕ) → q < n → open_at columns q ≡ true → ahead_of n (open_at columns) (gap_at columns) q ≡ 0
      → Memᴰ q (closest_of n t m columns)
  unfolding closest_of
  closest_of-first = closest-first n t m (open_at columns) (gap_at columns)

  pub closest_of-most : length (closest_of n t m columns) ≤ m
  unfolding closest_of
  closest_of-most = closest-most n t m (open_at columns) (gap_at columns)

  pub closest_of-length : blanks_of n columns < n → length (closest_of n t m columns) ≡ doubt_below n t m columns
  unfolding closest_of doubt_below
  closest_of-length few = closest-length n t m (open_at columns) (gap_at columns) (omega (arith, open-count n columns))

  pub closest_of-rising : Rising (closest_of n t m columns)
  unfolding closest_of
  closest_of-rising = closest-rising n t m (open_at columns) (gap_at columns)

  pub closest_of-below : (q : ℕ) → Memᴰ q (closest_of n t m columns) → q < n
  closest_of-below q s = (closest_of-close q s).in_range

  pub closest-open : (q : ℕ) → Memᴰ q (closest_of n t m columns) → open_at columns q ≡ true
  closest-open q s = (closest_of-close q s).counted

  pub closest-pinned : t ≤ ceiling → (q : ℕ) → PinnedSecond (columns q) → Memᴰ q (closest_of n t m columns)
      → ahead_of n (open_at columns) (gap_at columns) q ≡ 0
  closest-pinned low q h s =
      ⊎_elim (λ e. e) (λ l. absurd (omega (arith, doubt-gap-pinned (columns q) h))) (closest_of-close q s).reason

  pub closest-pinned-all : t ≤ ceiling → (q : ℕ) → PinnedSecond (columns q) → Memᴰ q (closest_of n t m columns)
      → (p : ℕ) → p < n → open_at columns p ≡ true → ceiling ≤ cost_of (columns p) (second_of (columns p))
  closest-pinned-all low q h s p l o = go (dec_le ceiling (cost_of (columns p) (second_of (columns p))))
    where
      go : Dec (ceiling ≤ cost_of (columns p) (second_of (columns p))) → ceiling ≤ cost_of (columns p) (second_of (columns p))
      go (yes a) = a
      go (no a) =
          absurd
          (ahead_none n (gap_at columns) (open_at columns) q (closest-pinned low q h s) p l o (pinned-behind columns p q (omega arith) h))
