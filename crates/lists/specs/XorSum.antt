-- Sums of numbers by exclusive or: xor_sum n f is f 0, f 1, …, f (n − 1), added.
--
--   xor_sum-nil, xor_sum-suc   the recursion, as equations
--   xor_sum-more              terms that are zero from m on add nothing
--   xor_sum-single            a sum with one term that is not zero is that term
--   xor_sum-below             terms below 2 ^ b have a sum below it
use Rattle.std.specs.Prelude.{◌≡◌, refl, ℕ, zero, suc, ◌^◌, ◌<◌, ◌≤◌, ◌≢◌}
use Rattle.std.proofs.Common.{sym, ap, ap₂, ◌∙◌, lt-suc_self, eq-or-lt_of_le, le_of_suc-le-suc, arith, ⊎_elim, pow_pos}
use Rattle.std.proofs.Math.Nat.{le_step}
use Rattle.std.specs.Int.Bits.{bit_xor, xor_zero_l, xor_zero_r}
use Rattle.std.proofs.lemmas.Nat.{xor_lt}

unfoldable pub xor_sum : ℕ → (ℕ → ℕ) → ℕ
xor_sum zero f = 0
xor_sum (suc n) f = bit_xor (xor_sum n f) (f n)

pub xor_sum-nil : (f : ℕ → ℕ) → xor_sum 0 f ≡ 0
unfolding xor_sum
xor_sum-nil f = refl

pub xor_sum-suc : (n : ℕ) (f : ℕ → ℕ) → xor_sum (suc n) f ≡ bit_xor (xor_sum n f) (f n)
unfolding xor_sum
xor_sum-suc n f = refl

pub xor_sum-below : (b n : ℕ) (f : ℕ → ℕ) → ((k : ℕ) → k < n → f k < 2 ^ b) → xor_sum n f < 2 ^ b
unfolding xor_sum
xor_sum-below b zero f h = pow_pos b
xor_sum-below b (suc n) f h = xor_lt b (xor_sum n f) (f n) (xor_sum-below b n f (λ k l. h k (le_step l))) (h n (lt-suc_self n))

pub xor_sum-more : (m n : ℕ) (f : ℕ → ℕ) → m ≤ n → ((k : ℕ) → m ≤ k → k < n → f k ≡ 0) → xor_sum n f ≡ xor_sum m f
xor_sum-more m zero f l h =
    let e : zero ≡ m = omega arith in
    ap (λ k. xor_sum k f) e
xor_sum-more m (suc n) f l h = ⊎_elim (λ e. ap (λ k. xor_sum k f) (sym e)) (λ g. step (le_of_suc-le-suc g) (xor_sum-more m n f (le_of_suc-le-suc g) (λ k a b. h k a (le_step b)))) (eq-or-lt_of_le l)
  where
    step : m ≤ n → xor_sum n f ≡ xor_sum m f → xor_sum (suc n) f ≡ xor_sum m f
    step g ih = xor_sum-suc n f ∙ ap₂ bit_xor ih (h n g (lt-suc_self n)) ∙ xor_zero_r _

pub xor_sum-single : (n i : ℕ) (f : ℕ → ℕ) → i < n → ((k : ℕ) → k < n → k ≢ i → f k ≡ 0) → xor_sum n f ≡ f i
xor_sum-single n i f l h =
    xor_sum-more (suc i) n f l (λ k a b. h k b (λ (e : k ≡ i). omega arith))
    ∙ xor_sum-suc i f
    ∙ ap (λ x. bit_xor x (f i)) (xor_sum-more 0 i f (omega arith) (λ k a b. h k (omega arith) (λ (e : k ≡ i). omega arith)) ∙ xor_sum-nil f)
    ∙ xor_zero_l (f i)
