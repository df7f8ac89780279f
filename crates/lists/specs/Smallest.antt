-- The number of least value among those below n that pass a test.
--
--   Smallest n P value r   r is below n and passes P, and no number below n that passes has a smaller value
--   search-below           either no number below n passes, or one of them is smallest
--   smallest-exists        where one below n passes, one of them is smallest
--   smallest-kept, smallest-replaced   with one more number: the smallest stays, or the new one is smaller
use Rattle.std.specs.Prelude.{◌⊎◌, ℕ, zero, suc, ◌<◌, ◌≤◌}
use Rattle.std.proofs.Common.{sym, subst, inl, inr, ⊎_elim, le_refl, lt-suc_self, eq-or-lt_of_le, le_of_suc-le-suc, le_trans, arith}
use Rattle.std.proofs.Math.Nat.{le_step}
use Rattle.std.proofs.Math.Decide.{dec_le}

pub record Smallest (n : ℕ) (P : ℕ → Type 0) (value : ℕ → ℕ) (r : ℕ) : Type 0 where
  pub within : r < n
  pub passes : P r
  pub least : (k : ℕ) → k < n → P k → value r ≤ value k

-- what is below suc n is n itself, or below n
pub below_suc : {n k : ℕ} (Q : ℕ → Type 0) → k < suc n → Q n → (k < n → Q k) → Q k
below_suc Q h last earlier =
    ⊎_elim (λ e. subst Q (sym e) last) earlier (eq-or-lt_of_le (le_of_suc-le-suc h))

module _ {P : ℕ → Type 0} {value : ℕ → ℕ} where
  pub smallest-kept : {n r : ℕ} → Smallest n P value r → (P n → value r ≤ value n) → Smallest (suc n) P value r
  smallest-kept {n} {r} m h =
      record {
        within = le_step m.within;
        passes = m.passes;
        least = λ k l. below_suc (λ k. P k → value r ≤ value k) l h (m.least k);
      }

  pub smallest-replaced : {n : ℕ} → P n → ((k : ℕ) → k < n → P k → value n ≤ value k) → Smallest (suc n) P value n
  smallest-replaced {n} p h =
      record {
        within = lt-suc_self n;
        passes = p;
        least = λ k l. below_suc (λ k. P k → value n ≤ value k) l (λ q. le_refl (value n)) (h k);
      }

module _ (P : ℕ → Type 0) (test : (k : ℕ) → Dec (P k)) (value : ℕ → ℕ) where
  pub search-below : (n : ℕ) → ((k : ℕ) → k < n → ¬ P k) ⊎ ((r : ℕ) × Smallest n P value r)
  search-below zero = inl (λ k l. absurd (omega arith))
  search-below (suc n) = go (test n) (search-below n)
    where
      go : Dec (P n) → ((k : ℕ) → k < n → ¬ P k) ⊎ ((r : ℕ) × Smallest n P value r)
          → ((k : ℕ) → k < suc n → ¬ P k) ⊎ ((r : ℕ) × Smallest (suc n) P value r)
      go (no q) (inl none) = inl (λ k l. below_suc (λ k. ¬ P k) l q (none k))
      go (no q) (inr t) = inr (t.0, smallest-kept t.1 (λ p. absurd (q p)))
      go (yes p) (inl none) = inr (n, smallest-replaced p (λ k l q. absurd (none k l q)))
      go (yes p) (inr t) = closer (dec_le (value t.0) (value n))
        where
          closer : Dec (value t.0 ≤ value n) → ((k : ℕ) → k < suc n → ¬ P k) ⊎ ((r : ℕ) × Smallest (suc n) P value r)
          closer (yes h) = inr (t.0, smallest-kept t.1 (λ q. h))
          closer (no h) =
              let h' : value n ≤ value t.0 = omega arith in
              inr (n, smallest-replaced p (λ k l q. le_trans h' (t.1.least k l q)))

  pub smallest-exists : {n k : ℕ} → k < n → P k → (r : ℕ) × Smallest n P value r
  smallest-exists {n} {k} l p = ⊎_elim (λ none. absurd (none k l p)) (λ t. t) (search-below n)
