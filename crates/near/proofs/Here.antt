-- Nearness in document 01's modem, case by case.
--
--   m-is, blank-limit-is      M is k + 5, and the most blank places are 57 − M; limit-reach: with so many T = 0
--   t-is                      T is the largest number with 2T + b < 64 − M − 6; reach-table: T for every b at rates 39 and 49
--   far-is                    a codeword is marked by 64 − M, which is 59 − k; marked-cheapest: no codeword at all costs less than a marked one
--   workable                  k from 6 to 52
--   reaches                   without blank places T = 6 at rate 39 and T = 1 at rate 49, with M = 44 and M = 54
--   blank-limits              at most 13 blank places at rate 39 and 3 at rate 49, with T = 0 then
--   repairable                T wrong places of those that are not blank can be repaired
--   no-third-here             with at most ten doubtful places no three codewords are near
--   no-second-six             with at most six no two are near; no-second-seven: nor with seven at rates 39 and 49, where no place is blank
use Rattle.std.specs.Prelude.{◌≡◌, refl, List, ℕ, ◌+◌, ◌-◌, ◌*◌, ◌/◌, ◌%◌, ◌<◌, ◌≤◌, T, length, ◌≢◌, ◌↔◌, ◌⊎◌}
use Rattle.std.proofs.Common.{subst, arith, inl, inr}
use Rattle.hermitian.specs.Present.{genus}
use Rattle.soft.specs.BlankLaws.{unblanked-length}
use Rattle.soft.specs.TestWord.{test_words}
use Rattle.soft.specs.Blank.{open_at}
use Rattle.lists.specs.Answers.{Found}
use Rattle.lists.specs.Words.{Word}
use Rattle.family.specs.Member.{m16}
use Rattle.near.specs.Near as Near
use Rattle.near.specs.Reach as Reach
use Rattle.near.specs.Cheapest as Cheapest
use Rattle.near.specs.Rivals as Rivals
use Rattle.near.specs.Here.{m_of, blank_limit, reach_of, blanks_in, reach_in, near, message_cost, marked_of, Workable, IsReach}

pub genus-4 : genus 4 ≡ 6
unfolding genus
genus-4 = refl

pub m-is : (k : ℕ) → m_of k ≡ k + 5
unfolding Near.m_of
m-is k = omega (arith, genus-4)

pub far-is : (k : ℕ) → 64 - m_of k ≡ 59 - k
far-is k = omega (arith, m-is k)

pub blank-limit-is : (k : ℕ) → blank_limit k ≡ 57 - m_of k
unfolding Near.blank_limit
blank-limit-is k = omega (arith, genus-4)

pub workable : {k : ℕ} → 6 ≤ k → k ≤ 52 → Workable k
workable l h = record { least = omega (arith, genus-4); most = omega (arith, genus-4) }

-- of columns of sixteen costs, blank ones among them
pub marked-cheapest : {k : ℕ} → Workable k → (columns : ℕ → List ℕ) → ((p : ℕ) → p < 64 → length (columns p) ≡ 16) → {m n : List ℕ} → Word 16 k m
    → Word 16 k n → T (marked_of k columns m) → message_cost k columns m ≤ message_cost k columns n
marked-cheapest = Cheapest.marked-cheapest m16

-- T as document 02 says it
pub t-is : (k b T : ℕ) → IsReach k b T ↔ ((2 * T + b < 64 - m_of k - 6) × ((n : ℕ) → 2 * n + b < 64 - m_of k - 6 → n ≤ T))
t-is k b T = (
  λ r. (omega (arith, r.fits, genus-4), λ n l. r.largest n (omega (arith, genus-4))),
  λ h. record { fits = omega (arith, h.0, genus-4); largest = λ n l. h.1 n (omega (arith, genus-4)) },
)

-- at document 01's two rates, for every number of blank places
pub reach-table : (b : ℕ) → (b ≤ 13 → IsReach 39 b (6 - b / 2)) × (b ≤ 3 → IsReach 49 b (1 - b / 2))
unfolding Near.m_of genus
reach-table b = (
  λ l. record { fits = omega arith; largest = λ n h. omega arith },
  λ l. record { fits = omega arith; largest = λ n h. omega arith },
)

pub reaches : (m_of 39 ≡ 44) × (reach_of 39 0 ≡ 6) × (m_of 49 ≡ 54) × (reach_of 49 0 ≡ 1)
unfolding Near.reach_of Near.blank_limit Near.m_of genus
reaches = (refl, refl, refl, refl)

pub blank-limits : (blank_limit 39 ≡ 13) × (reach_of 39 13 ≡ 0) × (blank_limit 49 ≡ 3) × (reach_of 49 3 ≡ 0)
unfolding Near.reach_of Near.blank_limit Near.m_of genus
blank-limits = (refl, refl, refl, refl)

pub limit-reach : {k : ℕ} → Workable k → IsReach k (blank_limit k) 0
unfolding Near.reach_of
limit-reach {k} h =
    let z : reach_of k (blank_limit k) ≡ 0 = omega arith in
    subst (IsReach k (blank_limit k)) z (Reach.reach-is m16 h (omega arith))

pub repairable : {k : ℕ} → Workable k → (columns : ℕ → List ℕ) → blanks_in columns ≤ blank_limit k
    → Reach.Repairable m16 (open_at columns) (reach_in k columns) k
repairable h columns few = Reach.repairs-open m16 h columns few

-- with at most ten doubtful places no three codewords are near, at whatever rate
pub no-third-here : {k : ℕ} → Workable k → (columns : ℕ → List ℕ) → blanks_in columns ≤ blank_limit k → (doubtful : List ℕ) → length doubtful ≤ 10
    → {m o q : List ℕ} → Found 16 k (near k columns (test_words 64 columns doubtful)) m → Found 16 k (near k columns (test_words 64 columns doubtful)) o
    → Found 16 k (near k columns (test_words 64 columns doubtful)) q → m ≢ o → o ≢ q → m ≢ q → ⊥
no-third-here rate columns within doubtful few =
    Rivals.no_third m16 rate columns within doubtful (omega (arith, genus-4, unblanked-length (open_at columns) doubtful))

-- with at most six no two codewords are near, at whatever rate and with whatever blank places within the limit
pub no-second-six : {k : ℕ} → Workable k → (columns : ℕ → List ℕ) → blanks_in columns ≤ blank_limit k → (doubtful : List ℕ) → length doubtful ≤ 6
    → {m o : List ℕ} → Found 16 k (near k columns (test_words 64 columns doubtful)) m → Found 16 k (near k columns (test_words 64 columns doubtful)) o
    → m ≢ o → ⊥
no-second-six rate columns within doubtful few =
    Rivals.no-second m16 rate columns within doubtful
    (Rivals.genus-few m16 columns (Reach.reach-is m16 rate within) doubtful (omega (arith, few, genus-4, unblanked-length (open_at columns) doubtful)))

-- and with seven at rates 39 and 49, where no place is blank
pub no-second-seven : {k : ℕ} → (k ≡ 39) ⊎ (k ≡ 49) → (columns : ℕ → List ℕ) → blanks_in columns ≡ 0 → (doubtful : List ℕ) → length doubtful ≤ 7
    → {m o : List ℕ} → Found 16 k (near k columns (test_words 64 columns doubtful)) m → Found 16 k (near k columns (test_words 64 columns doubtful)) o
    → m ≢ o → ⊥
no-second-seven {k} rate columns none doubtful few =
    Rivals.no-second m16 can columns within doubtful
    (Rivals.genus-odd m16 columns (Reach.reach-is m16 can within) doubtful (odd rate) (omega (arith, few, genus-4, unblanked-length (open_at columns) doubtful)))
  where
    can : Workable k
    can = go rate
      where
        go : (k ≡ 39) ⊎ (k ≡ 49) → Workable k
        go (inl e) = workable (omega arith) (omega arith)
        go (inr e) = workable (omega arith) (omega arith)

    within : blanks_in columns ≤ blank_limit k
    within = omega (arith, none)

    odd : (k ≡ 39) ⊎ (k ≡ 49) → (blank_limit k - blanks_in columns) % 2 ≡ 1
    odd (inl e) = omega (arith, none, blank-limit-is k, m-is k)
    odd (inr e) = omega (arith, none, blank-limit-is k, m-is k)
