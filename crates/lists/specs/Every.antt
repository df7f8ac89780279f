-- A test that the checker computes once for all numbers below a bound, and the fact that it gives at each.
--
--   both a b      both tests pass; both_left, both_right, both-intro
--   every n f     the test f passes at every number below n
--   every-at      so it passes at each of them
--   every_true, every-false   a test that passes at each of them passes, and one that does not fails at one of them
--   every₂, every₃   the same for pairs and triples
--   true-T, T_true   a test that is true passes, and one that passes is true
use Rattle.std.specs.Prelude.{Bool, true, false, ◌≡◌, refl, ℕ, zero, suc, ◌<◌, T}
use Rattle.std.proofs.Common.{true≢false, sym, subst, ⊎_elim, eq-or-lt_of_le, le_of_suc-le-suc, not-suc-le-zero, lt-suc_self}
use Rattle.std.proofs.Math.Nat.{le_step}

abbrev pub both : Bool → Bool → Bool
both true b = b
both false b = false

pub both_left : (a b : Bool) → T (both a b) → T a
both_left true b t = tt
both_left false b t = t

pub both_right : (a b : Bool) → T (both a b) → T b
both_right true b t = t
both_right false b t = absurd t

pub both-intro : (a b : Bool) → T a → T b → T (both a b)
both-intro true b s t = t
both-intro false b s t = s

unfoldable pub every : ℕ → (ℕ → Bool) → Bool
every zero f = true
every (suc n) f = both (f n) (every n f)

pub every-at : (n : ℕ) (f : ℕ → Bool) → T (every n f) → (k : ℕ) → k < n → T (f k)
unfolding every
every-at zero f t k h = absurd (not-suc-le-zero h)
every-at (suc n) f t k h =
    ⊎_elim (λ (e : k ≡ n). subst (λ j. T (f j)) (sym e) (both_left (f n) (every n f) t))
    (λ l. every-at n f (both_right (f n) (every n f) t) k l) (eq-or-lt_of_le (le_of_suc-le-suc h))

unfoldable pub every₂ : ℕ → (ℕ → ℕ → Bool) → Bool
every₂ n f = every n (λ a. every n (λ b. f a b))

pub every₂-at : (n : ℕ) (f : ℕ → ℕ → Bool) → T (every₂ n f) → (a b : ℕ) → a < n → b < n → T (f a b)
unfolding every₂
every₂-at n f t a b ha hb = every-at n (f a) (every-at n (λ a. every n (λ b. f a b)) t a ha) b hb

unfoldable pub every₃ : ℕ → (ℕ → ℕ → ℕ → Bool) → Bool
every₃ n f = every n (λ a. every₂ n (λ b c. f a b c))

pub every₃-at : (n : ℕ) (f : ℕ → ℕ → ℕ → Bool) → T (every₃ n f) → (a b c : ℕ) → a < n → b < n → c < n → T (f a b c)
unfolding every₃
every₃-at n f t a b c ha hb hc = every₂-at n (f a) (every-at n (λ a. every₂ n (λ b c. f a b c)) t a ha) b c hb hc

pub true-T : (b : Bool) → b ≡ true → T b
true-T b e = subst T (sym e) tt

pub T_true : (b : Bool) → T b → b ≡ true
T_true true t = refl
T_true false t = absurd t

pub T_false : (b : Bool) → (T b → ⊥) → b ≡ false
T_false true t = absurd (t tt)
T_false false t = refl

pub every_true : (n : ℕ) (f : ℕ → Bool) → ((k : ℕ) → k < n → f k ≡ true) → every n f ≡ true
unfolding every
every_true zero f h = refl
every_true (suc n) f h = step (f n) (h n (lt-suc_self n)) (every_true n f (λ k l. h k (le_step l)))
  where
    step : (b : Bool) → b ≡ true → every n f ≡ true → both b (every n f) ≡ true
    step true e ih = ih
    step false e ih = e

pub every-false : (n : ℕ) (f : ℕ → Bool) → every n f ≡ false → (k : ℕ) × (k < n) × (f k ≡ false)
unfolding every
every-false zero f e = absurd (true≢false e)
every-false (suc n) f e = go (f n) refl e (every-false n f)
  where
    go : (b : Bool) → f n ≡ b → both b (every n f) ≡ false → (every n f ≡ false → (k : ℕ) × (k < n) × (f k ≡ false))
        → (k : ℕ) × (k < suc n) × (f k ≡ false)
    go true q t ih = let r = ih t in (r.0, le_step r.1, r.2)
    go false q t ih = (n, lt-suc_self n, q)
