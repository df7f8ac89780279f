-- Ranks: how many of the numbers below n have a smaller key. Distinct keys have distinct ranks, and exactly d ranks are below d.
--
--   rank_of k n p     how many q below n have k q below k p
--   rank_mono, rank-strict   a larger key has no smaller rank; of a number below n the rank is strictly smaller
--   rank-before      a smaller rank comes from a smaller key
--   rank-exact       of n numbers with distinct keys, exactly d have a rank below d
use Rattle.std.proofs.Math.Bool.{true, false}
use Rattle.std.specs.Prelude.{◌≡◌}
use Rattle.std.proofs.Common.{sym, ◌∙◌, subst, lt-suc_self, add-one}
use Rattle.std.proofs.Math.Path.{ap, ap₂}
use Prim.Native.Nat.{ℕ, zero, suc, ◌+◌, ◌-◌, ◌<◌, ◌≤◌}
use Rattle.std.proofs.Math.Nat.{le_step}
use Rattle.std.proofs.Math.Decide.{dec_le}
use native.Mathlib.Omega.{arith}
use Rattle.std.proofs.Math.Dec.{ltb, ltb→lt, lt→ltb, leb-suc-suc}
use borrow.Author.Tests.{lt-ltb, le-ltb}
use Rattle.lists.specs.Count.{bit, count, count-nil, count-suc, count-ext, count-le, count-mono, count-strict}

unfoldable pub rank_of : (ℕ → ℕ) → ℕ → ℕ → ℕ
rank_of k n p = count n (λ q. ltb (k q) (k p))

module _ (k : ℕ → ℕ) where
  pub rank-suc : (n p : ℕ) → rank_of k (suc n) p ≡ rank_of k n p + bit (ltb (k n) (k p))
  unfolding rank_of
  rank-suc n p = count-suc n (λ q. ltb (k q) (k p))

  pub rank-le : (n p : ℕ) → rank_of k n p ≤ n
  unfolding rank_of
  rank-le n p = count-le n (λ q. ltb (k q) (k p))

  pub rank_mono : (n p q : ℕ) → k p ≤ k q → rank_of k n p ≤ rank_of k n q
  unfolding rank_of
  rank_mono n p q h =
      count-mono n (λ i. ltb (k i) (k p)) (λ i. ltb (k i) (k q)) (λ i l t. lt→ltb (k i) (k q) (omega (arith, ltb→lt (k i) (k p) t)))

  pub rank-strict : (n p q : ℕ) → p < n → k p < k q → rank_of k n p < rank_of k n q
  unfolding rank_of
  rank-strict n p q l h =
      count-strict n p (λ i. ltb (k i) (k p)) (λ i. ltb (k i) (k q))
      (λ i l t. lt→ltb (k i) (k q) (omega (arith, ltb→lt (k i) (k p) t)))
      l (λ t. omega (arith, ltb→lt (k p) (k p) t)) (lt→ltb (k p) (k q) h)

  pub rank-before : (n p q : ℕ) → rank_of k n p < rank_of k n q → k p < k q
  rank-before n p q h = go (dec_le (k q) (k p))
    where
      go : Dec (k q ≤ k p) → k p < k q
      go (yes l) = absurd (omega (arith, rank_mono n q p l))
      go (no l) = omega arith

  Few : ℕ → ℕ → ℕ
  Few n d = count n (λ p. ltb (rank_of k n p) d)

  -- one number more, whose own rank is at least d: the count stays
  low : (n d : ℕ) → d ≤ rank_of k n n → Few n d ≡ d → Few (suc n) d ≡ d
  unfolding Few
  low n d h e =
      count-suc n (λ p. ltb (rank_of k (suc n) p) d)
      ∙ ap₂ (λ x y. x + bit y) (count-ext n _ (λ p. ltb (rank_of k n p) d) same ∙ e) own ∙ omega arith
    where
      own : ltb (rank_of k (suc n) n) d ≡ false
      own = le-ltb (rank_of k (suc n) n) d (omega (arith, rank-suc n n))

      same : (p : ℕ) → p < n → ltb (rank_of k (suc n) p) d ≡ ltb (rank_of k n p) d
      same p l = go (dec_le (k n) (k p))
        where
          go : Dec (k n ≤ k p) → ltb (rank_of k (suc n) p) d ≡ ltb (rank_of k n p) d
          go (yes a) =
              let b : rank_of k n n ≤ rank_of k n p = rank_mono n n p a in
              le-ltb (rank_of k (suc n) p) d (omega (arith, rank-suc n p)) ∙ sym (le-ltb (rank_of k n p) d (omega arith))
          go (no a) = ap (λ r. ltb r d) (rank-suc n p ∙ ap (λ t. rank_of k n p + bit t) (le-ltb (k n) (k p) (omega arith)) ∙ omega arith)

  -- one number more, whose own rank is at most d: of the others those below d count that were below d before it came
  high : (n d : ℕ) → ((p : ℕ) → p < n → k p ≡ k n → ⊥) → rank_of k n n ≤ d → Few n d ≡ d → Few (suc n) (suc d) ≡ suc d
  unfolding Few
  high n d inj h e =
      count-suc n (λ p. ltb (rank_of k (suc n) p) (suc d))
      ∙ ap₂ (λ x y. x + bit y) (count-ext n _ (λ p. ltb (rank_of k n p) d) same ∙ e) own ∙ omega arith
    where
      own : ltb (rank_of k (suc n) n) (suc d) ≡ true
      own =
          lt-ltb (rank_of k (suc n) n) (suc d)
          (omega (arith, rank-suc n n ∙ ap (λ t. rank_of k n n + bit t) (le-ltb (k n) (k n) (omega arith))))

      same : (p : ℕ) → p < n → ltb (rank_of k (suc n) p) (suc d) ≡ ltb (rank_of k n p) d
      same p l = go (dec_le (k n) (k p))
        where
          go : Dec (k n ≤ k p) → ltb (rank_of k (suc n) p) (suc d) ≡ ltb (rank_of k n p) d
          go (yes a) =
              let ne : k p ≡ k n → ⊥ = inj p l in
              ap (λ r. ltb r (suc d)) (rank-suc n p ∙ ap (λ t. rank_of k n p + bit t) (lt-ltb (k n) (k p) (omega arith)) ∙ add-one (rank_of k n p))
              ∙ leb-suc-suc (suc (rank_of k n p)) d
          go (no a) =
              let b : rank_of k n p < rank_of k n n = rank-strict n p n l (omega arith) in
              lt-ltb (rank_of k (suc n) p) (suc d)
              (omega (arith, rank-suc n p ∙ ap (λ t. rank_of k n p + bit t) (le-ltb (k n) (k p) (omega arith))))
              ∙ sym (lt-ltb (rank_of k n p) d (omega arith))

  pub rank-exact : (n d : ℕ) → ((p q : ℕ) → p < n → q < n → k p ≡ k q → p ≡ q) → d ≤ n → count n (λ p. ltb (rank_of k n p) d) ≡ d
  unfolding Few
  rank-exact zero d inj l = count-nil (λ p. ltb (rank_of k 0 p) d) ∙ omega arith
  rank-exact (suc n) d inj l = go (dec_le d (rank_of k n n)) (λ e b. rank-exact n e (λ p q x y. inj p q (le_step x) (le_step y)) b)
    where
      apart : (p : ℕ) → p < n → k p ≡ k n → ⊥
      apart p b e = let q : p ≡ n = inj p n (le_step b) (lt-suc_self n) e in omega arith

      above : (e : ℕ) → suc e ≡ d → Few n e ≡ e → rank_of k n n ≤ e → Few (suc n) d ≡ d
      above e q ih b = subst (λ x. Few (suc n) x ≡ x) q (high n e apart b ih)

      go : Dec (d ≤ rank_of k n n) → ((e : ℕ) → e ≤ n → Few n e ≡ e) → Few (suc n) d ≡ d
      go (yes a) ih = low n d a (ih d (omega (arith, rank-le n n)))
      go (no a) ih = above (d - 1) (omega arith) (ih (d - 1) (omega arith)) (omega arith)
