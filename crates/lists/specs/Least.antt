-- The least of some numbers, and the next least of them.
--
--   least_of b n f    the least of b and f 0, …, f (n − 1)
--   next_of b n f     the next least of them, where b stands twice: a number that occurs twice among the least is the next one too
--   least-nil, least-suc, next-nil, next-suc   the definitions step by step
--   least-turn, next-turn   one turn of a loop that keeps both
--   least-le   the least is no larger than any of them; least_above: what is no larger than all of them is no larger than the least
--   least_at         it is one of them, where it is not b
--   least-next       nor than the next
--   next_le          the next is no larger than one of any two; next-above: what is no larger than one of any two is no larger than the next
--   least-is         so it is f i, where none is smaller
--   next-is          and the next is f j, where none but f i is smaller
use Rattle.std.specs.Prelude.{◌≡◌, ◌≢◌, ℕ, zero, suc, ◌+◌, ◌<◌, ◌≤◌, min, max}
use Rattle.std.proofs.Math.Path.{refl}
use Rattle.std.proofs.Common.{sym, ap, ap₂, ◌∙◌, ⊎_elim, lt-suc_self, le_antisymm, eq-or-lt_of_le, le_of_suc-le-suc, add-one, arith}
use Rattle.std.proofs.Math.Nat.{le_step}
use Rattle.std.proofs.Math.Decide.{dec_le, ℕ_discrete}

unfoldable pub least_of : ℕ → ℕ → (ℕ → ℕ) → ℕ
least_of b zero f = b
least_of b (suc n) f = min (least_of b n f) (f n)

unfoldable pub next_of : ℕ → ℕ → (ℕ → ℕ) → ℕ
next_of b zero f = b
next_of b (suc n) f = min (next_of b n f) (max (least_of b n f) (f n))

module _ (b : ℕ) (f : ℕ → ℕ) where
  pub least-nil : least_of b 0 f ≡ b
  unfolding least_of
  least-nil = refl

  pub least-suc : (n : ℕ) → least_of b (suc n) f ≡ min (least_of b n f) (f n)
  unfolding least_of
  least-suc n = refl

  pub next-nil : next_of b 0 f ≡ b
  unfolding next_of
  next-nil = refl

  pub next-suc : (n : ℕ) → next_of b (suc n) f ≡ min (next_of b n f) (max (least_of b n f) (f n))
  unfolding next_of
  next-suc n = refl

  -- one turn of a loop
  pub least-turn : (n held r v : ℕ) → held ≡ least_of b n f → v ≡ f n → r ≡ min held v → r ≡ least_of b (n + 1) f
  least-turn n held r v e q h = h ∙ ap₂ min e q ∙ sym (least-suc n) ∙ ap (λ k. least_of b k f) (sym (add-one n))

  pub next-turn : (n held least r v : ℕ) → held ≡ next_of b n f → least ≡ least_of b n f → v ≡ f n → r ≡ min held (max least v)
      → r ≡ next_of b (n + 1) f
  next-turn n held least r v e g q h =
      h ∙ ap₂ min e (ap₂ max g q) ∙ sym (next-suc n) ∙ ap (λ k. next_of b k f) (sym (add-one n))

  pub least-le : (n k : ℕ) → k < n → least_of b n f ≤ f k
  least-le zero k h = absurd (omega arith)
  least-le (suc n) k h =
      ⊎_elim (λ (e : k ≡ n). omega (arith, least-suc n, ap f e)) (λ l. omega (arith, least-suc n, least-le n k l))
      (eq-or-lt_of_le (le_of_suc-le-suc h))

  pub least_above : (n m : ℕ) → m ≤ b → ((k : ℕ) → k < n → m ≤ f k) → m ≤ least_of b n f
  least_above zero m low h = omega (arith, least-nil)
  least_above (suc n) m low h =
      omega (arith, least-suc n, least_above n m low (λ k l. h k (le_step l)), h n (lt-suc_self n))

  pub least_at : (n : ℕ) → least_of b n f < b → (k : ℕ) × (k < n) × (f k ≡ least_of b n f)
  least_at zero h = absurd (omega (arith, least-nil))
  least_at (suc n) h = go (least_at n) (dec_le (least_of b n f) (f n))
    where
      go : (least_of b n f < b → (k : ℕ) × (k < n) × (f k ≡ least_of b n f)) → Dec (least_of b n f ≤ f n)
          → (k : ℕ) × (k < suc n) × (f k ≡ least_of b (suc n) f)
      go ih (no l) = (n, lt-suc_self n, omega (arith, least-suc n))
      go ih (yes l) = let t = ih (omega (arith, least-suc n)) in (t.0, le_step t.1, omega (arith, least-suc n, t.2))

  pub least-next : (n : ℕ) → least_of b n f ≤ next_of b n f
  least-next zero = omega (arith, least-nil, next-nil)
  least-next (suc n) = omega (arith, least-suc n, next-suc n, least-next n)

  pub next_le : (n i j m : ℕ) → i < n → j < n → i ≢ j → f i ≤ m → f j ≤ m → next_of b n f ≤ m
  next_le zero i j m li lj d fi fj = absurd (omega arith)
  next_le (suc n) i j m li lj d fi fj =
      ⊎_elim (λ (e : i ≡ n). ⊎_elim (λ (g : j ≡ n). absurd (d (e ∙ sym g))) (λ l. last i j e l fi fj) (eq-or-lt_of_le (le_of_suc-le-suc lj)))
      (λ l.
      ⊎_elim (λ (g : j ≡ n). last j i g l fj fi) (λ k. omega (arith, next-suc n, next_le n i j m l k d fi fj)) (eq-or-lt_of_le (le_of_suc-le-suc lj)))
      (eq-or-lt_of_le (le_of_suc-le-suc li))
    where
      -- one of the two is the last
      last : (k l : ℕ) → k ≡ n → l < n → f k ≤ m → f l ≤ m → next_of b (suc n) f ≤ m
      last k l e h fk fl = omega (arith, next-suc n, ap f e, least-le n l h)

  pub next-above : (n m : ℕ) → m ≤ b → ((i j : ℕ) → i < n → j < n → i ≢ j → m ≤ max (f i) (f j)) → m ≤ next_of b n f
  next-above zero m low h = omega (arith, next-nil)
  next-above (suc n) m low h =
      omega (arith, next-suc n, next-above n m low (λ i j li lj d. h i j (le_step li) (le_step lj) d), last (dec_le m (f n)))
    where
      last : Dec (m ≤ f n) → m ≤ max (least_of b n f) (f n)
      last (yes l) = omega arith
      last (no l) =
          omega (arith, least_above n m low (λ k g. omega (arith, h k n (le_step g) (lt-suc_self n) (λ (e : k ≡ n). absurd (omega arith)))))

  pub least-is : (n i : ℕ) → i < n → f i ≤ b → ((k : ℕ) → k < n → f i ≤ f k) → least_of b n f ≡ f i
  least-is n i l low h = le_antisymm (least-le n i l) (least_above n (f i) low h)

  pub next-is : (n i j : ℕ) → i < n → j < n → i ≢ j → f i ≤ f j → f j ≤ b → ((k : ℕ) → k < n → k ≢ i → f j ≤ f k) → next_of b n f ≡ f j
  next-is n i j li lj d order low h =
      le_antisymm (next_le n i j (f j) li lj d order (omega arith))
      (next-above n (f j) low (λ k l lk ll e. one k l lk ll e (ℕ_discrete k i)))
    where
      one : (k l : ℕ) → k < n → l < n → k ≢ l → Dec (k ≡ i) → f j ≤ max (f k) (f l)
      one k l lk ll e (yes q) = omega (arith, h l ll (λ g. e (q ∙ sym g)))
      one k l lk ll e (no q) = omega (arith, h k lk q)
