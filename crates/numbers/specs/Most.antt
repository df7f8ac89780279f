-- What the numbers of a statement are: each is the largest of its kind.
--
--   Most P n          n is the largest number with P
--   Sure k b d        d doubtful places that are not blank are so few that no two codewords are near
--   sure-few          the largest such d is the most that near Rivals no-second takes (FewDoubtful)
--   Alone k b e       with e wrong settled and doubtful places together no other codeword than the sent one is near: the inequality of book
--                     Repairs Alone, and of TooFar where none is doubtful
--   BurstWithin T l   l bits in a row, four a symbol, lie within T symbols, wherever they begin
use Rattle.std.specs.Prelude.{◌≡◌, List, ◌↔◌, length, ℕ, ◌+◌, ◌-◌, ◌*◌, ◌/◌, ◌<◌, ◌≤◌}
use Rattle.std.proofs.Common.{sym, subst, ⊎_elim, arith}
use Rattle.lists.specs.Chosen.{lt-or-le}
use Rattle.soft.specs.Column.{places}
use Rattle.near.specs.Here.{m_of, blank_limit, reach_of, reach_in, blanks_in, FewDoubtful}
use Rattle.near.specs.Rivals.{doubled}
use Rattle.near.specs.Near as Near
use Rattle.hermitian.specs.Present.{genus}
use Rattle.candidate.specs.Ranged.{Ranged}

pub record Most (P : ℕ → Type 0) (n : ℕ) : Type 0 where
  pub holds : P n
  pub most : (m : ℕ) → P m → m ≤ n

unfoldable pub Sure : ℕ → ℕ → ℕ → Type 0
Sure k b d = d + 2 * reach_of k b + b < places - m_of k

unfoldable pub Alone : ℕ → ℕ → ℕ → Type 0
Alone k b e = e + reach_of k b + b < places - m_of k

unfoldable pub BurstWithin : ℕ → ℕ → Type 0
BurstWithin T l = (x i : ℕ) → i < l → (x + i) / 4 < x / 4 + T

-- there is such a number where there is a T: twice T and the blank places are fewer than the least distance
pub room : {k b : ℕ} → Ranged k → b ≤ blank_limit k → 2 * reach_of k b + b + genus 4 < places - m_of k
unfolding Near.reach_of Near.blank_limit Near.m_of genus
room h few = omega (arith, h.least, h.most)

pub sure-most : {k b : ℕ} → Ranged k → b ≤ blank_limit k → Most (Sure k b) (places - m_of k - 1 - 2 * reach_of k b - b)
unfolding Sure
sure-most h few = record { holds = omega (arith, room h few); most = λ m l. omega (arith, room h few, l) }

pub sure-few : (k : ℕ) {r : ℕ} (columns : ℕ → List ℕ) (doubtful : List ℕ) → Most (Sure k (blanks_in columns)) r
    → FewDoubtful k columns doubtful (reach_in k columns) ↔ (length (doubled columns doubtful) ≤ r)
unfolding Sure
sure-few k columns doubtful most = (λ few. most.most (length (doubled columns doubtful)) few, λ l. omega (arith, l, most.holds))

pub alone-most : {k b : ℕ} → Ranged k → b ≤ blank_limit k → Most (Alone k b) (places - m_of k - 1 - reach_of k b - b)
unfolding Alone
alone-most h few = record { holds = omega (arith, room h few); most = λ m l. omega (arith, room h few, l) }

pub burst-none : Most (BurstWithin 0) 0
unfolding BurstWithin
burst-none = record { holds = λ x i l. absurd (omega arith); most = λ m h. ⊎_elim (λ l. absurd (omega (arith, h 0 0 l))) (λ l. l) (lt-or-le 0 m) }

pub burst-most : (T : ℕ) → 1 ≤ T → Most (BurstWithin T) (4 * T - 3)
unfolding BurstWithin
burst-most T some = record { holds = λ x i l. omega arith; most = λ m h. ⊎_elim (λ l. absurd (omega (arith, h 3 (4 * T - 3) l))) (λ l. l) (lt-or-le (4 * T - 3) m) }

-- of what is known by an equation
pub sure-from : {k b d t : ℕ} → Ranged k → b ≤ blank_limit k → d ≡ places - m_of k → t ≡ reach_of k b → Most (Sure k b) (d - 1 - 2 * t - b)
sure-from {k} {b} {d} {t} h few e f =
    subst (λ x. Most (Sure k b) (x - 1 - 2 * t - b)) (sym e)
    (subst (λ x. Most (Sure k b) (places - m_of k - 1 - 2 * x - b)) (sym f) (sure-most h few))

pub alone-from : {k b d t : ℕ} → Ranged k → b ≤ blank_limit k → d ≡ places - m_of k → t ≡ reach_of k b → Most (Alone k b) (d - 1 - t - b)
alone-from {k} {b} {d} {t} h few e f =
    subst (λ x. Most (Alone k b) (x - 1 - t - b)) (sym e)
    (subst (λ x. Most (Alone k b) (places - m_of k - 1 - x - b)) (sym f) (alone-most h few))

pub limit-few : (k : ℕ) → blank_limit k ≤ 57
unfolding Near.blank_limit Near.m_of genus
limit-few k = omega arith
