-- Lists, of whatever kind, in which no entry stands twice.
--
--   Different l          no entry of l stands in it twice
--   different-append     two such lists with no entry in common, one after the other
--   different-at         equal entries stand at one index
--   rising-different     a rising list is such a list
--   different-distinct   such a list of numbers is distinct
--   count-among          numbers that pass a test only if they are among others are no more than those
--   among-count          distinct numbers that pass a test are no more than all that do
use Rattle.std.specs.Prelude.{Bool, true, not, ◌≡◌, refl, ℕ, zero, suc, ◌<◌, ◌≤◌, T, length, get_or}
use Rattle.std.proofs.Common.{sym, ap, subst, ⊎_elim, le_of_suc-le-suc, arith}
use mathlib.Core.List.Memᴰ
use mathlib.Core.List.{List, [], ◌∷◌, ◌++◌, Memᴰ}
use Rattle.lists.specs.Member.{member-at, at-member}
use Rattle.lists.specs.Count.{Rising, count, kept, kept-length, kept-member, kept-passes, kept-rising}
use Rattle.lists.specs.Distinct.{among, distinct, and_both, not-among, among-member, member-among, distinct-le}

module _ {A : Type 0} where
  pub data Different : List A → Type 0 where
    different_nil : Different []
    different_cons : {a : A} {l : List A} → ¬ Memᴰ a l → Different l → Different (a ∷ l)

  pub different-append : {l : List A} (m : List A) → Different l → Different m → ((a : A) → Memᴰ a l → ¬ Memᴰ a m) → Different (l ++ m)
  different-append m different_nil e f = e
  different-append m (different_cons {a = a} {l = l} h d) e f =
      different_cons (λ t. ⊎_elim h (f a (Memᴰ.head refl)) (Memᴰ.append_cases l t))
      (different-append m d e (λ b s t. f b (Memᴰ.tail s) t))

  pub different-at : {l : List A} → Different l → (d : A) (i j : ℕ) → i < length l → j < length l → get_or l i d ≡ get_or l j d → i ≡ j
  different-at different_nil d i j a b e = absurd (omega arith)
  different-at (different_cons h r) d zero zero a b e = refl
  different-at (different_cons {l = l} h r) d zero (suc j) a b e =
      absurd (h (subst (λ y. Memᴰ y l) (sym e) (member-at l d j (le_of_suc-le-suc b))))
  different-at (different_cons {l = l} h r) d (suc i) zero a b e =
      absurd (h (subst (λ y. Memᴰ y l) e (member-at l d i (le_of_suc-le-suc a))))
  different-at (different_cons h r) d (suc i) (suc j) a b e = ap suc (different-at r d i j (le_of_suc-le-suc a) (le_of_suc-le-suc b) e)

pub rising-different : (l : List ℕ) → Rising l → Different l
rising-different [] r = different_nil
rising-different (x ∷ l) r =
    different_cons {a = x} {l = l}
    (λ m. let s = at-member 0 m in omega (arith, r.rises 0 (suc s.0) (omega arith) (omega (arith, s.1)), s.2))
    (rising-different l (record { rises = λ i j a b. r.rises (suc i) (suc j) (omega arith) (omega arith) }))

pub different-distinct : {l : List ℕ} → Different l → distinct l ≡ true
unfolding distinct
different-distinct different_nil = refl
different-distinct (different_cons {a = a} {l = l} h d) =
    and_both (not (among a l)) (distinct l) (ap not (not-among a l h)) (different-distinct d)

pub count-among : (l : List ℕ) (n : ℕ) (f : ℕ → Bool) → ((k : ℕ) → k < n → T (f k) → among k l ≡ true) → count n f ≤ length l
count-among l n f h =
    omega (
      arith,
      kept-length n f,
      distinct-le (kept n f) l (different-distinct (rising-different (kept n f) (kept-rising n f)))
          (λ k a. let r = kept-passes n f k (member-among k (kept n f) a) in h k r.0 r.1),
    )

pub among-count : (l : List ℕ) (n : ℕ) (f : ℕ → Bool) → distinct l ≡ true → ((k : ℕ) → among k l ≡ true → (k < n) × T (f k)) → length l ≤ count n f
among-count l n f d h =
    omega (
      arith,
      kept-length n f,
      distinct-le l (kept n f) d (λ k a. let r = h k a in among-member (kept-member n f k r.0 r.1)),
    )
