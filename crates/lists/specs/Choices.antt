-- How many choices between two kinds at some places change few of them.
--
--   choose_of m i         how many of the 2 ^ m choices at m places change exactly i of them (a binomial coefficient)
--   choose-next          from i changes to i + 1, by a product and a quotient
--   choices_of m r        how many change at most r
--   choices-few          they are no more than all, 2 ^ m; choose-few: nor are those that change exactly i; choices-all: they are all where m is at most r
--   choose-turn, choices-turn   a loop that adds up those that change none, one, two, and so on
--   allowed_of r m d      how many change at most r − d, or none where d is above r: allowed-near, allowed-far
--   allowed-none, allowed-place   where there is no place, and with one place more: it is changed, or not
use Rattle.std.proofs.Math.Bool.{cond}
use Rattle.std.specs.Prelude.{◌≡◌, refl, ℕ, zero, suc, ◌+◌, ◌-◌, ◌*◌, ◌/◌, ◌^◌, ◌<◌, ◌≤◌, leb}
use Rattle.std.proofs.Common.{sym, ap₂, ◌∙◌, subst, pow-suc, mul-add, add-one, arith, le-leb}
use Rattle.std.proofs.Math.Path.{ap}
use Rattle.std.proofs.Math.Nat.{div-eq_of_eq-mul_left}
use Rattle.std.proofs.Math.Decide.{dec_le}
use Rattle.std.proofs.lemmas.Bool.{lt-leb}
use Rattle.lists.specs.Count.{bit, sum_of, sum_of-nil, sum_of-suc}

unfoldable pub choose_of : ℕ → ℕ → ℕ
choose_of m zero = 1
choose_of zero (suc i) = 0
choose_of (suc m) (suc i) = choose_of m (suc i) + choose_of m i

pub choose-zero : (m : ℕ) → choose_of m 0 ≡ 1
unfolding choose_of
choose-zero m = refl

-- each choice that changes i places can change m − i more, and each that changes i + 1 comes of so many
pub choose-next : (m i : ℕ) → choose_of m (suc i) * suc i + choose_of m i * i ≡ choose_of m i * m
unfolding choose_of
choose-next zero zero = refl
choose-next zero (suc i) = omega arith
choose-next (suc m) zero = omega (arith, choose-next m zero)
choose-next (suc m) (suc i) = omega (arith, choose-next m i, choose-next m (suc i))

unfoldable pub choices_of : ℕ → ℕ → ℕ
choices_of m r = sum_of (suc r) (choose_of m)

module _ (m : ℕ) where
  pub choices-zero : choices_of m 0 ≡ 1
  unfolding choices_of
  choices-zero = omega (arith, sum_of-suc 0 (choose_of m), sum_of-nil (choose_of m), choose-zero m)

  pub choices-suc : (r : ℕ) → choices_of m (suc r) ≡ choices_of m r + choose_of m (suc r)
  unfolding choices_of
  choices-suc r = sum_of-suc (suc r) (choose_of m)

-- at no place there is one choice, and it changes nothing
choices-nil : (r : ℕ) → choices_of 0 r ≡ 1
unfolding choose_of
choices-nil zero = choices-zero 0
choices-nil (suc r) = omega (arith, choices-suc 0 r, choices-nil r)

-- one place more is changed, or is not
choices-place : (m r : ℕ) → choices_of (suc m) (suc r) ≡ choices_of m (suc r) + choices_of m r
unfolding choose_of
choices-place m zero = omega (arith, choices-suc (suc m) 0, choices-zero (suc m), choices-suc m 0, choices-zero m)
choices-place m (suc r) = omega (arith, choices-suc (suc m) (suc r), choices-place m r, choices-suc m (suc r), choices-suc m r)

pub choices-few : (m r : ℕ) → choices_of m r ≤ 2 ^ m
choices-few zero r = omega (arith, choices-nil r)
choices-few (suc m) zero = omega (arith, choices-zero (suc m), choices-few m zero, choices-zero m, pow-suc 2 m)
choices-few (suc m) (suc r) = omega (arith, choices-place m r, choices-few m (suc r), choices-few m r, pow-suc 2 m)

pub choose-few : (m i : ℕ) → choose_of m i ≤ 2 ^ m
unfolding choices_of
choose-few m i = omega (arith, choices-few m i, sum_of-suc i (choose_of m))

pub choices-all : (m r : ℕ) → m ≤ r → choices_of m r ≡ 2 ^ m
choices-all zero r h = choices-nil r
choices-all (suc m) zero h = absurd (omega arith)
choices-all (suc m) (suc r) h = omega (arith, choices-place m r, choices-all m (suc r) (omega arith), choices-all m r (omega arith), pow-suc 2 m)

-- a loop that adds them up
module _ (m i : ℕ) where
  pub choose-turn : i ≤ m → choose_of m i * (m - i) / (i + 1) ≡ choose_of m (i + 1)
  choose-turn h =
      let a : m ≡ m - i + i = omega arith in
      let e : choose_of m i * (m - i) ≡ choose_of m (suc i) * suc i =
      omega (arith, choose-next m i, ap (λ k. choose_of m i * k) a, mul-add (choose_of m i) (m - i) i) in
      subst (λ k. choose_of m i * (m - i) / k ≡ choose_of m k) (sym (add-one i)) (div-eq_of_eq-mul_left (omega arith) e)

  pub choices-turn : choices_of m i + choose_of m (i + 1) ≡ choices_of m (i + 1)
  choices-turn = subst (λ k. choices_of m i + choose_of m k ≡ choices_of m k) (sym (add-one i)) (sym (choices-suc m i))

-- ---- choices after d changes

unfoldable pub allowed_of : ℕ → ℕ → ℕ → ℕ
allowed_of r m d = cond (leb d r) (choices_of m (r - d)) 0

module _ (r : ℕ) where
  pub allowed-near : (m d : ℕ) → d ≤ r → allowed_of r m d ≡ choices_of m (r - d)
  unfolding allowed_of
  allowed-near m d h = ap (λ b. cond b (choices_of m (r - d)) 0) (le-leb d r h)

  pub allowed-far : (m d : ℕ) → r < d → allowed_of r m d ≡ 0
  unfolding allowed_of
  allowed-far m d h = ap (λ b. cond b (choices_of m (r - d)) 0) (lt-leb d r h)

  pub allowed-none : (d : ℕ) → allowed_of r 0 d ≡ bit (leb d r)
  allowed-none d = go (dec_le d r)
    where
      go : Dec (d ≤ r) → allowed_of r 0 d ≡ bit (leb d r)
      go (yes h) = allowed-near 0 d h ∙ choices-nil (r - d) ∙ sym (ap bit (le-leb d r h))
      go (no h) = let f : r < d = omega arith in allowed-far 0 d f ∙ sym (ap bit (lt-leb d r f))

  pub allowed-place : (m d : ℕ) → allowed_of r (suc m) d ≡ allowed_of r m d + allowed_of r m (suc d)
  allowed-place m d = go (dec_le d r) (dec_le (suc d) r)
    where
      go : Dec (d ≤ r) → Dec (suc d ≤ r) → allowed_of r (suc m) d ≡ allowed_of r m d + allowed_of r m (suc d)
      go (no h) n = omega (arith, allowed-far (suc m) d (omega arith), allowed-far m d (omega arith), allowed-far m (suc d) (omega arith))
      go (yes h) (no n) =
          let none_left : r - d ≡ 0 = omega arith in
          allowed-near (suc m) d h ∙ ap (choices_of (suc m)) none_left
          ∙ omega (arith, choices-zero (suc m), choices-zero m, allowed-near m d h ∙ ap (choices_of m) none_left, allowed-far m (suc d) (omega arith))
      go (yes h) (yes n) =
          let one_less : r - d ≡ suc (r - suc d) = omega arith in
          allowed-near (suc m) d h ∙ ap (choices_of (suc m)) one_less ∙ choices-place m (r - suc d)
          ∙ ap₂ (λ a b. a + b) (ap (choices_of m) (sym one_less) ∙ sym (allowed-near m d h)) (sym (allowed-near m (suc d) n))
