-- Sums of numbers over the numbers below a bound, how many of those pass a test, and which they are.
--
--   bit b            1 for a test that passes, 0 for one that fails
--   from_bit         a test as a number, as the library converts it
--   sum_of n f        f 0 + f 1 + … + f (n − 1)
--   count n f        how many numbers below n pass the test f
--   kept n f         the numbers below n that pass it, rising
--   Rising l         each entry of l is below every later one; rising-steps: so it is if each is below the next
--   sum_of-ext, sum_of-mono, sum_of-strict, sum_of-bound, sum_of-plus   equal, smaller, bounded and added terms
--   count-ext, count-le, count_none, count-zero, count-mono, count-strict   the same of tests
--   count-split      those that pass pass another test too, or do not
--   count-but        tests that are equal at all numbers but one
--   sum_of-turn, count_turn   one turn of a loop that adds up
--   kept-length, kept-member, kept-passes, kept-rising, kept-none, kept-ext   how many are kept, which, and in which order
use Rattle.std.specs.Prelude.{Bool, true, false, cond, not, ◌&&◌, ◌≡◌, refl, ◌≢◌, ℕ, zero, suc, ◌+◌, ◌*◌, ◌<◌, ◌≤◌, T, length, get_or}
use Rattle.std.proofs.Common.{sym, ap, ap₂, ◌∙◌, subst, subst₂, ⊎_elim, lt-suc_self, eq-or-lt_of_le, le_of_suc-le-suc, le_refl, suc-mul, add-one, arith, length-append}
use mathlib.Core.List.Memᴰ
use mathlib.Core.List.{List, [], ◌∷◌, ◌++◌, append-nil, Memᴰ}
use Rattle.std.proofs.Math.Nat.{le_step}
use Rattle.std.proofs.Math.ListN.{get_or-append}
use Rattle.std.proofs.lemmas.List.{get_or_at}
use Rattle.std.specs.Int.{from_bool}
use Rattle.lists.specs.Member.{member-at}

abbrev pub bit : Bool → ℕ
bit true = 1
bit false = 0

pub bit_le : (b : Bool) → bit b ≤ 1
bit_le true = omega arith
bit_le false = omega arith

pub from_bit : {n : ℕ} (b : Bool) → n ≡ from_bool b → (n ≡ bit b) × (n ≤ 1)
from_bit true e = (e, omega (arith, e))
from_bit false e = (e, omega (arith, e))

unfoldable pub sum_of : ℕ → (ℕ → ℕ) → ℕ
sum_of zero f = 0
sum_of (suc n) f = sum_of n f + f n

pub sum_of-nil : (f : ℕ → ℕ) → sum_of 0 f ≡ 0
unfolding sum_of
sum_of-nil f = refl

pub sum_of-suc : (n : ℕ) (f : ℕ → ℕ) → sum_of (suc n) f ≡ sum_of n f + f n
unfolding sum_of
sum_of-suc n f = refl

pub sum_of-ext : (n : ℕ) (f g : ℕ → ℕ) → ((k : ℕ) → k < n → f k ≡ g k) → sum_of n f ≡ sum_of n g
unfolding sum_of
sum_of-ext zero f g h = refl
sum_of-ext (suc n) f g h = ap₂ (λ x y. x + y) (sum_of-ext n f g (λ k l. h k (le_step l))) (h n (lt-suc_self n))

pub sum_of-mono : (n : ℕ) (f g : ℕ → ℕ) → ((k : ℕ) → k < n → f k ≤ g k) → sum_of n f ≤ sum_of n g
unfolding sum_of
sum_of-mono zero f g h = omega arith
sum_of-mono (suc n) f g h = omega (arith, sum_of-mono n f g (λ k l. h k (le_step l)), h n (lt-suc_self n))

-- terms that are no larger, and smaller at one place
pub sum_of-strict : (n i : ℕ) (f g : ℕ → ℕ) → ((k : ℕ) → k < n → f k ≤ g k) → i < n → f i < g i → sum_of n f < sum_of n g
unfolding sum_of
sum_of-strict zero i f g h l s = absurd (omega arith)
sum_of-strict (suc n) i f g h l s =
    ⊎_elim
    (λ (e : i ≡ n). omega (arith, sum_of-mono n f g (λ k b. h k (le_step b)), subst (λ j. f j < g j) e s))
    (λ b. omega (arith, sum_of-strict n i f g (λ k b. h k (le_step b)) b s, h n (lt-suc_self n)))
    (eq-or-lt_of_le (le_of_suc-le-suc l))

pub sum_of-bound : (n b : ℕ) (f : ℕ → ℕ) → ((k : ℕ) → k < n → f k ≤ b) → sum_of n f ≤ n * b
unfolding sum_of
sum_of-bound zero b f h = omega arith
sum_of-bound (suc n) b f h = omega (arith, sum_of-bound n b f (λ k l. h k (le_step l)), h n (lt-suc_self n), suc-mul n b)

pub sum_of-plus : (n : ℕ) (f g : ℕ → ℕ) → sum_of n (λ k. f k + g k) ≡ sum_of n f + sum_of n g
unfolding sum_of
sum_of-plus zero f g = refl
sum_of-plus (suc n) f g = omega (arith, sum_of-plus n f g)

unfoldable pub count : ℕ → (ℕ → Bool) → ℕ
count n f = sum_of n (λ k. bit (f k))

pub count-nil : (f : ℕ → Bool) → count 0 f ≡ 0
unfolding count
count-nil f = sum_of-nil (λ k. bit (f k))

pub count-suc : (n : ℕ) (f : ℕ → Bool) → count (suc n) f ≡ count n f + bit (f n)
unfolding count
count-suc n f = sum_of-suc n (λ k. bit (f k))

pub count-ext : (n : ℕ) (f g : ℕ → Bool) → ((k : ℕ) → k < n → f k ≡ g k) → count n f ≡ count n g
unfolding count
count-ext n f g h = sum_of-ext n (λ k. bit (f k)) (λ k. bit (g k)) (λ k l. ap bit (h k l))

pub count-le : (n : ℕ) (f : ℕ → Bool) → count n f ≤ n
unfolding count
count-le n f = omega (arith, sum_of-bound n 1 (λ k. bit (f k)) (λ k l. bit_le (f k)))

pub count_none : (n : ℕ) (f : ℕ → Bool) → ((k : ℕ) → k < n → f k ≡ false) → count n f ≡ 0
unfolding count
count_none n f h = omega (arith, sum_of-bound n 0 (λ k. bit (f k)) (λ k l. rw (h k l) (le_refl 0)))

bit-zero : (b : Bool) → bit b ≡ 0 → b ≡ false
bit-zero true e = absurd (omega arith)
bit-zero false e = refl

-- a count of zero: no number passes
pub count-zero : (n : ℕ) (f : ℕ → Bool) → count n f ≡ 0 → (k : ℕ) → k < n → f k ≡ false
count-zero zero f e k l = absurd (omega arith)
count-zero (suc n) f e k l =
    let s : count n f + bit (f n) ≡ 0 = sym (count-suc n f) ∙ e in
    ⊎_elim (λ (q : k ≡ n). ap f q ∙ bit-zero (f n) (omega arith)) (λ b. count-zero n f (omega arith) k b) (eq-or-lt_of_le (le_of_suc-le-suc l))

bit-of : (a b : Bool) → (T a → T b) → bit a ≤ bit b
bit-of true true h = le_refl 1
bit-of true false h = absurd (h tt)
bit-of false true h = omega arith
bit-of false false h = le_refl 0

bit_below : (a b : Bool) → (T a → ⊥) → T b → bit a < bit b
bit_below true b h t = absurd (h tt)
bit_below false true h t = omega arith
bit_below false false h t = absurd t

-- a test that passes wherever another does is passed at least as often,
pub count-mono : (n : ℕ) (f g : ℕ → Bool) → ((k : ℕ) → k < n → T (f k) → T (g k)) → count n f ≤ count n g
unfolding count
count-mono n f g h = sum_of-mono n (λ k. bit (f k)) (λ k. bit (g k)) (λ k l. bit-of (f k) (g k) (h k l))

-- and more often if it passes at some number where the other fails
pub count-strict : (n i : ℕ) (f g : ℕ → Bool) → ((k : ℕ) → k < n → T (f k) → T (g k)) → i < n → (T (f i) → ⊥) → T (g i) → count n f < count n g
unfolding count
count-strict n i f g h l a b =
    sum_of-strict n i (λ k. bit (f k)) (λ k. bit (g k)) (λ k l. bit-of (f k) (g k) (h k l)) l (bit_below (f i) (g i) a b)

-- a number that passes passes another test too, or does not
pub count-split : (n : ℕ) (f g : ℕ → Bool) → count n (λ k. f k && g k) + count n (λ k. f k && not (g k)) ≡ count n f
unfolding count
count-split n f g =
    sym (sum_of-plus n (λ k. bit (f k && g k)) (λ k. bit (f k && not (g k))))
    ∙ sum_of-ext n (λ k. bit (f k && g k) + bit (f k && not (g k))) (λ k. bit (f k)) (λ k h. parts (f k) (g k))
  where
    parts : (a b : Bool) → bit (a && b) + bit (a && not b) ≡ bit a
    parts true true = refl
    parts true false = refl
    parts false b = refl

-- tests that are equal at all numbers but one are passed equally often, but for that one
pub count-but : (n i : ℕ) (f g : ℕ → Bool) → i < n → ((k : ℕ) → k < n → k ≢ i → f k ≡ g k) → count n f + bit (g i) ≡ count n g + bit (f i)
count-but zero i f g l h = absurd (omega arith)
count-but (suc n) i f g l h =
    ⊎_elim
    (λ (e : i ≡ n).
    omega (
      arith,
      count-suc n f,
      count-suc n g,
      count-ext n f g (λ k b. h k (le_step b) (λ q. omega arith)),
      ap (λ j. bit (f j)) e,
      ap (λ j. bit (g j)) e,
    ))
    (λ b.
    omega (
      arith,
      count-suc n f,
      count-suc n g,
      count-but n i f g b (λ k c. h k (le_step c)),
      ap bit (h n (lt-suc_self n) (λ q. omega arith)),
    ))
    (eq-or-lt_of_le (le_of_suc-le-suc l))

unfoldable pub kept : ℕ → (ℕ → Bool) → List ℕ
kept zero f = []
kept (suc n) f = kept n f ++ cond (f n) (n ∷ []) []

pub kept-nil : (f : ℕ → Bool) → kept 0 f ≡ []
unfolding kept
kept-nil f = refl

pub kept-suc : (n : ℕ) (f : ℕ → Bool) → kept (suc n) f ≡ kept n f ++ cond (f n) (n ∷ []) []
unfolding kept
kept-suc n f = refl

pub kept-ext : (n : ℕ) (f g : ℕ → Bool) → ((k : ℕ) → k < n → f k ≡ g k) → kept n f ≡ kept n g
unfolding kept
kept-ext zero f g h = refl
kept-ext (suc n) f g h =
    ap₂ (λ (l : List ℕ) b. l ++ cond b (n ∷ []) []) (kept-ext n f g (λ k l. h k (le_step l))) (h n (lt-suc_self n))

pub length-if : (b : Bool) (k : ℕ) → length (cond b (k ∷ []) []) ≡ bit b
length-if true k = refl
length-if false k = refl

pub kept-length : (n : ℕ) (f : ℕ → Bool) → length (kept n f) ≡ count n f
kept-length zero f = ap length (kept-nil f) ∙ sym (count-nil f)
kept-length (suc n) f =
    ap length (kept-suc n f) ∙ length-append (kept n f) (cond (f n) (n ∷ []) [])
    ∙ ap₂ (λ x y. x + y) (kept-length n f) (length-if (f n) n) ∙ sym (count-suc n f)

pub kept-none : (n : ℕ) (f : ℕ → Bool) → ((k : ℕ) → k < n → f k ≡ false) → kept n f ≡ []
unfolding kept
kept-none zero f h = refl
kept-none (suc n) f h =
    ap₂ (λ (l : List ℕ) b. l ++ cond b (n ∷ []) []) (kept-none n f (λ k l. h k (le_step l))) (h n (lt-suc_self n))

-- what is kept is below the bound and passes,
pub kept-passes : (n : ℕ) (f : ℕ → Bool) (k : ℕ) → Memᴰ k (kept n f) → (k < n) × T (f k)
kept-passes zero f k m = absurd (Memᴰ.not-nil (rw kept-nil at m))
kept-passes (suc n) f k m = ⊎_elim (λ a. earlier (kept-passes n f k a)) (λ a. last (f n) refl a) (Memᴰ.append_cases (kept n f) (rw kept-suc at m))
  where
    earlier : (k < n) × T (f k) → (k < suc n) × T (f k)
    earlier a = (omega (arith, a.0), a.1)

    last : (b : Bool) → f n ≡ b → Memᴰ k (cond b (n ∷ []) []) → (k < suc n) × T (f k)
    last true e a =
        let q : k ≡ n = Memᴰ.eq_of_singleton a in
        (omega arith, subst T (sym (ap f q ∙ e)) tt)
    last false e a = absurd (Memᴰ.not-nil a)

-- and all such are kept
pub kept-member : (n : ℕ) (f : ℕ → Bool) (k : ℕ) → k < n → T (f k) → Memᴰ k (kept n f)
kept-member zero f k l t = absurd (omega arith)
kept-member (suc n) f k l t = rw kept-suc (⊎_elim last (λ b. Memᴰ.append_left (cond (f n) (n ∷ []) []) (kept-member n f k b t)) (eq-or-lt_of_le (le_of_suc-le-suc l)))
  where
    single : (b : Bool) → T b → k ≡ n → Memᴰ k (cond b (n ∷ []) [])
    single true u e = Memᴰ.head e
    single false u e = absurd u

    last : k ≡ n → Memᴰ k (kept n f ++ cond (f n) (n ∷ []) [])
    last e = Memᴰ.append_right (kept n f) (single (f n) (subst (λ j. T (f j)) e t) e)

pub record Rising (l : List ℕ) : Type 0 where
  pub rises : (i j : ℕ) → i < j → j < length l → get_or l i 0 < get_or l j 0

-- a rising list, and one entry more that is above all of it
pub rising_snoc : (l : List ℕ) (x : ℕ) → Rising l → ((k : ℕ) → Memᴰ k l → k < x) → Rising (l ++ (x ∷ []))
rising_snoc l x r above = record { rises = rises }
  where
    before : (i j : ℕ) → i < j → j < length l → get_or (l ++ (x ∷ [])) i 0 < get_or (l ++ (x ∷ [])) j 0
    before i j a b =
        subst₂ (λ u v. u < v) (sym (get_or-append l (x ∷ []) 0 i (omega arith))) (sym (get_or-append l (x ∷ []) 0 j b)) (r.rises i j a b)

    last : (i j : ℕ) → i < j → j ≡ length l → get_or (l ++ (x ∷ [])) i 0 < get_or (l ++ (x ∷ [])) j 0
    last i j a e =
        subst₂ (λ u v. u < v) (sym (get_or-append l (x ∷ []) 0 i (omega arith))) (sym (get_or_at l x [] 0 j (sym e)))
        (above (get_or l i 0) (member-at l 0 i (omega arith)))

    rises : (i j : ℕ) → i < j → j < length (l ++ (x ∷ [])) → get_or (l ++ (x ∷ [])) i 0 < get_or (l ++ (x ∷ [])) j 0
    rises i j a b =
        ⊎_elim (last i j a) (before i j a)
        (eq-or-lt_of_le (le_of_suc-le-suc (subst (λ n. j < n) (length-append l (x ∷ []) ∙ add-one (length l)) b)))

-- a list that rises at each step
pub rising-steps : (l : List ℕ) → ((i : ℕ) → suc i < length l → get_or l i 0 < get_or l (suc i) 0) → Rising l
rising-steps l step = record { rises = rises }
  where
    rises : (i j : ℕ) → i < j → j < length l → get_or l i 0 < get_or l j 0
    rises i zero a b = absurd (omega arith)
    rises i (suc j) a b =
        ⊎_elim (λ (e : i ≡ j). subst (λ k. get_or l k 0 < get_or l (suc j) 0) (sym e) (step j b))
        (λ c. omega (arith, rises i j c (omega arith), step j b)) (eq-or-lt_of_le (le_of_suc-le-suc a))

pub kept-rising : (n : ℕ) (f : ℕ → Bool) → Rising (kept n f)
kept-rising zero f = record { rises = λ i j a b. absurd (omega (arith, subst (λ l. j < length l) (kept-nil f) b)) }
kept-rising (suc n) f = rw kept-suc (step (f n) (kept-rising n f))
  where
    step : (b : Bool) → Rising (kept n f) → Rising (kept n f ++ cond b (n ∷ []) [])
    step true r = rising_snoc (kept n f) n r (λ k m. (kept-passes n f k m).0)
    step false r = rw append-nil r

-- a loop that adds up: what it holds after one turn more
pub sum_of-turn : (n : ℕ) (f : ℕ → ℕ) (held v : ℕ) → held ≡ sum_of n f → v ≡ f n → held + v ≡ sum_of (n + 1) f
sum_of-turn n f held v e q = ap₂ (λ x y. x + y) e q ∙ sym (sum_of-suc n f) ∙ ap (λ k. sum_of k f) (sym (add-one n))

pub count_turn : (n : ℕ) (f : ℕ → Bool) (held v : ℕ) → held ≡ count n f → v ≡ bit (f n) → held + v ≡ count (n + 1) f
unfolding count
count_turn n f held v e q = sum_of-turn n (λ k. bit (f k)) held v e q
