-- Ranks among the numbers below n that count: how many of them have a smaller key.
--
--   rank_in counts k n q    how many of those that count have k below k q
--   rank-in                of a number that counts it is the rank among all, by any key that is k for those that count and no smaller for the others
--   late counts k n p      such a key: k, but behind all others where p does not count
--   rank-late              by it a number that does not count has all that count before it
--   rank-in-exact          of c numbers that count, with distinct keys, exactly d have a rank below d, for any d up to c
--   rank-in-before         a smaller rank comes from a smaller key
use Rattle.std.specs.Prelude.{Bool, cond, ◌&&◌, ◌≡◌, refl, ℕ, zero, suc, ◌+◌, ◌<◌, ◌≤◌}
use Rattle.std.proofs.Math.Bool.{true, false}
use Rattle.std.proofs.Math.Path.{sym, ap}
use Rattle.std.proofs.Common.{ap₂, ◌∙◌, ⊎_elim, eq-or-lt_of_le, le_of_suc-le-suc, arith, le-ltb}
use Rattle.std.proofs.Math.Dec.{ltb, lt→ltb}
use Rattle.lists.specs.Count.{sum_of, sum_of-suc, count, count-ext, count-le, count-mono}
use Rattle.lists.specs.Every.{T_true}
use Rattle.lists.specs.Rank.{rank_of, rank-exact, rank-before}

unfoldable pub rank_in : (ℕ → Bool) → (ℕ → ℕ) → ℕ → ℕ → ℕ
rank_in counts k n q = count n (λ p. counts p && ltb (k p) (k q))

-- ranks among those that count are ranks among all, where the others are behind
module _ (counts : ℕ → Bool) (k key : ℕ → ℕ) (n : ℕ) where
  pub rank-in : ((p : ℕ) → p < n → counts p ≡ true → key p ≡ k p)
      → ((p q : ℕ) → p < n → q < n → counts p ≡ false → counts q ≡ true → k q ≤ key p)
      → (q : ℕ) → q < n → counts q ≡ true → rank_in counts k n q ≡ rank_of key n q
  unfolding rank_in rank_of
  rank-in same behind q l e = count-ext n (λ p. counts p && ltb (k p) (k q)) (λ p. ltb (key p) (key q)) (λ p h. at p h (counts p) refl)
    where
      at : (p : ℕ) → p < n → (b : Bool) → counts p ≡ b → (counts p && ltb (k p) (k q)) ≡ ltb (key p) (key q)
      at p h true f = ap (λ b. b && ltb (k p) (k q)) f ∙ sym (ap₂ ltb (same p h f) (same q l e))
      at p h false f =
          ap (λ b. b && ltb (k p) (k q)) f ∙ sym (le-ltb (key p) (key q) (omega (arith, same q l e, behind p q h l f e)))

sum-above : (n : ℕ) (f : ℕ → ℕ) (i : ℕ) → i < n → f i ≤ sum_of n f
sum-above zero f i h = absurd (omega arith)
sum-above (suc n) f i h =
    ⊎_elim (λ (e : i ≡ n). omega (arith, sum_of-suc n f, ap f e)) (λ l. omega (arith, sum_of-suc n f, sum-above n f i l))
    (eq-or-lt_of_le (le_of_suc-le-suc h))

module _ (counts : ℕ → Bool) (k : ℕ → ℕ) (n : ℕ) where
  abbrev behind : ℕ
  behind = suc (sum_of n k)

  abbrev late : ℕ → ℕ
  late p = cond (counts p) (k p) (behind + p)

  in-time : (p : ℕ) → counts p ≡ true → late p ≡ k p
  in-time p e = ap (λ b. cond b (k p) (behind + p)) e

  too-late : (p : ℕ) → counts p ≡ false → late p ≡ behind + p
  too-late p e = ap (λ b. cond b (k p) (behind + p)) e

  rank-timely : (q : ℕ) → q < n → counts q ≡ true → rank_in counts k n q ≡ rank_of late n q
  rank-timely =
      rank-in counts k late n (λ p _ e. in-time p e) (λ p q _ l f _. omega (arith, too-late p f, sum-above n k q l))

  rank-late : (q : ℕ) → q < n → counts q ≡ false → count n counts ≤ rank_of late n q
  unfolding rank_of
  rank-late q l e =
      count-mono n counts (λ p. ltb (late p) (late q))
      (λ p h t. lt→ltb (late p) (late q) (omega (arith, in-time p (T_true (counts p) t), too-late q e, sum-above n k p h)))

  module _ (distinct : (p q : ℕ) → p < n → q < n → k p ≡ k q → p ≡ q) where
    late-distinct : (p q : ℕ) → p < n → q < n → late p ≡ late q → p ≡ q
    late-distinct p q lp lq e = go (counts p) refl (counts q) refl
      where
        go : (a : Bool) → counts p ≡ a → (b : Bool) → counts q ≡ b → p ≡ q
        go true f true g = distinct p q lp lq (sym (in-time p f) ∙ e ∙ in-time q g)
        go true f false g = absurd (omega (arith, e, in-time p f, too-late q g, sum-above n k p lp))
        go false f true g = absurd (omega (arith, e, too-late p f, in-time q g, sum-above n k q lq))
        go false f false g = omega (arith, e, too-late p f, too-late q g)

    pub rank-in-exact : (d : ℕ) → d ≤ count n counts → count n (λ q. counts q && ltb (rank_in counts k n q) d) ≡ d
    rank-in-exact d few =
        count-ext n (λ q. counts q && ltb (rank_in counts k n q) d) (λ q. ltb (rank_of late n q) d) (λ q l. at q l (counts q) refl)
        ∙ rank-exact late n d late-distinct (omega (arith, count-le n counts))
      where
        at : (q : ℕ) → q < n → (b : Bool) → counts q ≡ b → (counts q && ltb (rank_in counts k n q) d) ≡ ltb (rank_of late n q) d
        at q l true e = ap (λ b. b && ltb (rank_in counts k n q) d) e ∙ ap (λ r. ltb r d) (rank-timely q l e)
        at q l false e =
            ap (λ b. b && ltb (rank_in counts k n q) d) e ∙ sym (le-ltb (rank_of late n q) d (omega (arith, rank-late q l e)))

  pub rank-in-before : (p q : ℕ) → p < n → q < n → counts p ≡ true → counts q ≡ true → rank_in counts k n p < rank_in counts k n q → k p < k q
  rank-in-before p q lp lq cp cq h =
      omega (
        arith,
        rank-before late n p q (omega (arith, h, rank-timely p lp cp, rank-timely q lq cq)),
        in-time p cp,
        in-time q cq,
      )
