-- Lists of distinct numbers, and how many there can be of them.
--
--   among p l        p stands in l
--   distinct l       no number stands in l twice
--   below n l        every number of l is below n
--   among-append, distinct_snoc, distinct-before, below-append     of a longer list
--   below-take, below-drop                        of a part
--   among-at, below_at                            what stands at an index is among them, and is below n
--   among-member, member-among, not-among         exactly a member is among them
--   distinct-le      distinct numbers that are all among others are no more than those
--   distinct-bound   distinct numbers below n are at most n
--   distinct-all     n distinct numbers below n are all of them
--   distinct-every   so of distinct numbers below n all are among them exactly if there are n
use Rattle.std.specs.Prelude.{Bool, true, false, cond, not, ◌&&◌, ◌||◌, ◌≡◌, refl, ℕ, zero, suc, ◌<◌, ◌≤◌, eqb, ltb, leb, length, get_or, take, drop}
use Rattle.std.proofs.lemmas.Bool.{false≢true, eqb-false, lt-leb, not-true}
use Rattle.std.proofs.Math.Bool.{or_assoc, and_assoc}
use Rattle.std.proofs.Common.{sym, ap, ap₂, ◌∙◌, subst, ⊎_elim, eq-or-lt_of_le, le_of_suc-le-suc, arith, take-append-drop, eq-eqb, ne_eqb, eqb-true, lt-ltb, ltb-true, le-leb}
use mathlib.Core.List.{List, [], ◌∷◌, ◌++◌, Memᴰ}
use Rattle.std.proofs.Math.Decide.{dec_le}
use Rattle.lists.specs.Listed.{listed, listed_nil, listed_suc, listed-length}
use Rattle.lists.specs.Every.{every, every-at, every_true, true-T, T_true}

unfoldable pub among : ℕ → List ℕ → Bool
among p [] = false
among p (x ∷ l) = eqb x p || among p l

unfoldable pub distinct : List ℕ → Bool
distinct [] = true
distinct (x ∷ l) = not (among x l) && distinct l

unfoldable pub below : ℕ → List ℕ → Bool
below n [] = true
below n (x ∷ l) = ltb x n && below n l

-- ---- tests joined by 'and' and 'or'

pub and_left : (a b : Bool) → (a && b) ≡ true → a ≡ true
and_left true b e = refl
and_left false b e = e

pub and_right : (a b : Bool) → (a && b) ≡ true → b ≡ true
and_right true b e = e
and_right false b e = absurd (false≢true e)

pub and_both : (a b : Bool) → a ≡ true → b ≡ true → (a && b) ≡ true
and_both true b e f = f
and_both false b e f = e

or_right : (a b : Bool) → b ≡ true → (a || b) ≡ true
or_right true b e = refl
or_right false b e = e

-- ---- one list after another

pub among-append : (p : ℕ) (l m : List ℕ) → among p (l ++ m) ≡ (among p l || among p m)
unfolding among
among-append p [] m = refl
among-append p (x ∷ l) m = ap (λ b. eqb x p || b) (among-append p l m) ∙ sym (or_assoc (eqb x p) (among p l) (among p m))

pub below-append : (n : ℕ) (l m : List ℕ) → below n (l ++ m) ≡ (below n l && below n m)
unfolding below
below-append n [] m = refl
below-append n (x ∷ l) m = ap (λ b. ltb x n && b) (below-append n l m) ∙ sym (and_assoc (ltb x n) (below n l) (below n m))

pub distinct_nil : distinct [] ≡ true
unfolding distinct
distinct_nil = refl

pub below-nil : (n : ℕ) → below n [] ≡ true
unfolding below
below-nil n = refl

pub below_one : (n x : ℕ) → x < n → below n (x ∷ []) ≡ true
unfolding below
below_one n x h = and_both (ltb x n) true (lt-ltb x n h) refl

pub below-cons : (n x : ℕ) (l : List ℕ) → below n (x ∷ l) ≡ true → (x < n) × (below n l ≡ true)
unfolding below
below-cons n x l e = (ltb-true x n (and_left (ltb x n) (below n l) e), and_right (ltb x n) (below n l) e)

pub below-take : (n k : ℕ) (l : List ℕ) → below n l ≡ true → below n (take k l) ≡ true
below-take n k l b =
    and_left (below n (take k l)) (below n (drop k l)) (sym (below-append n (take k l) (drop k l)) ∙ ap (below n) (take-append-drop k l) ∙ b)

pub below-drop : (n k : ℕ) (l : List ℕ) → below n l ≡ true → below n (drop k l) ≡ true
below-drop n k l b =
    and_right (below n (take k l)) (below n (drop k l)) (sym (below-append n (take k l) (drop k l)) ∙ ap (below n) (take-append-drop k l) ∙ b)

-- two tests neither of which is true
pub or-none : (a b : Bool) → (a || b) ≡ false → (a ≡ false) × (b ≡ false)
or-none true b e = absurd (false≢true (sym e))
or-none false b e = (refl, e)

eqb-flip : (x y : ℕ) → eqb x y ≡ false → eqb y x ≡ false
eqb-flip x y e = ne_eqb y x (λ q. eqb-false x y e (sym q))

-- one number more at the end, that was not among them
pub distinct_snoc : (l : List ℕ) (x : ℕ) → distinct l ≡ true → among x l ≡ false → distinct (l ++ (x ∷ [])) ≡ true
unfolding distinct among
distinct_snoc [] x d a = refl
distinct_snoc (y ∷ l) x d a =
    let e : (eqb y x ≡ false) × (among x l ≡ false) = or-none (eqb y x) (among x l) a in
    and_both (not (among y (l ++ (x ∷ [])))) (distinct (l ++ (x ∷ [])))
    (ap not
    (among-append y l (x ∷ [])
    ∙ ap₂ (λ b c. b || (c || false)) (not-true (among y l) (and_left (not (among y l)) (distinct l) d)) (eqb-flip y x e.0)))
    (distinct_snoc l x (and_right (not (among y l)) (distinct l) d) e.1)

-- a number that stands between others is not among those before it
pub distinct-before : (l : List ℕ) (x : ℕ) (m : List ℕ) → distinct (l ++ (x ∷ m)) ≡ true → among x l ≡ false
unfolding distinct among
distinct-before [] x m d = refl
distinct-before (y ∷ l) x m d =
    let e : among y (l ++ (x ∷ m)) ≡ false = not-true (among y (l ++ (x ∷ m))) (and_left (not (among y (l ++ (x ∷ m)))) (distinct (l ++ (x ∷ m))) d) in
    let f : eqb x y ≡ false = (or-none (eqb x y) (among y m) (or-none (among y l) (among y (x ∷ m)) (sym (among-append y l (x ∷ m)) ∙ e)).1).0 in
    ap₂ (λ b c. b || c) (eqb-flip x y f) (distinct-before l x m (and_right (not (among y (l ++ (x ∷ m)))) (distinct (l ++ (x ∷ m))) d))

pub among-snoc : (l : List ℕ) (x : ℕ) → among x (l ++ (x ∷ [])) ≡ true
unfolding among
among-snoc l x =
    among-append x l (x ∷ []) ∙ or_right (among x l) (eqb x x || false) (ap (λ b. b || false) (eq-eqb x x refl))

-- what stands at an index
pub among-at : (l : List ℕ) (i : ℕ) → i < length l → among (get_or l i 0) l ≡ true
unfolding among
among-at [] i h = absurd (omega arith)
among-at (x ∷ l) zero h = ap (λ b. b || among x l) (eq-eqb x x refl)
among-at (x ∷ l) (suc i) h = or_right (eqb x (get_or l i 0)) (among (get_or l i 0) l) (among-at l i (le_of_suc-le-suc h))

pub among-member : {p : ℕ} {l : List ℕ} → Memᴰ p l → among p l ≡ true
unfolding among
among-member {p} (Memᴰ.head {x = x} {xs = l} e) = ap (λ b. b || among p l) (eq-eqb x p (sym e))
among-member {p} (Memᴰ.tail {x = x} {xs = l} m) = or_right (eqb x p) (among p l) (among-member m)

pub member-among : (p : ℕ) (l : List ℕ) → among p l ≡ true → Memᴰ p l
unfolding among
member-among p [] e = absurd (false≢true e)
member-among p (x ∷ l) e = go (eqb x p) refl e (member-among p l)
  where
    go : (b : Bool) → eqb x p ≡ b → (b || among p l) ≡ true → (among p l ≡ true → Memᴰ p l) → Memᴰ p (x ∷ l)
    go true q t later = Memᴰ.head (sym (eqb-true x p q))
    go false q t later = Memᴰ.tail (later t)

pub not-among : (p : ℕ) (l : List ℕ) → ¬ Memᴰ p l → among p l ≡ false
unfolding among
not-among p [] n = refl
not-among p (x ∷ l) n = rw (ne_eqb x p (λ e. n (Memᴰ.head (sym e)))) (not-among p l (λ m. n (Memᴰ.tail m)))

pub below_at : (n : ℕ) (l : List ℕ) (i : ℕ) → below n l ≡ true → i < length l → get_or l i 0 < n
below_at n [] i e h = absurd (omega arith)
below_at n (x ∷ l) zero e h = (below-cons n x l e).0
below_at n (x ∷ l) (suc i) e h = below_at n l i (below-cons n x l e).1 (le_of_suc-le-suc h)

pub below-among : (n : ℕ) (l : List ℕ) (p : ℕ) → below n l ≡ true → among p l ≡ true → p < n
unfolding among
below-among n [] p e a = absurd (false≢true a)
below-among n (x ∷ l) p e a = go (eqb x p) refl a (λ t. below-among n l p (below-cons n x l e).1 t)
  where
    go : (b : Bool) → eqb x p ≡ b → (b || among p l) ≡ true → (among p l ≡ true → p < n) → p < n
    go true q t later = let r : x ≡ p = eqb-true x p q in omega (arith, (below-cons n x l e).0)
    go false q t later = later t

-- ---- how many distinct numbers there can be

-- l without the first x in it
without : ℕ → List ℕ → List ℕ
without x [] = []
without x (y ∷ l) = cond (eqb y x) l (y ∷ without x l)

without-length : (x : ℕ) (l : List ℕ) → among x l ≡ true → suc (length (without x l)) ≡ length l
unfolding without among
without-length x [] a = absurd (false≢true a)
without-length x (y ∷ l) a = go (eqb y x) a (without-length x l)
  where
    go : (b : Bool) → (b || among x l) ≡ true → (among x l ≡ true → suc (length (without x l)) ≡ length l)
        → suc (length (cond b l (y ∷ without x l))) ≡ suc (length l)
    go true t ih = refl
    go false t ih = ap suc (ih t)

without-among : (x z : ℕ) (l : List ℕ) → eqb x z ≡ false → among z l ≡ true → among z (without x l) ≡ true
unfolding without among
without-among x z [] n a = a
without-among x z (y ∷ l) n a = go (eqb y x) refl (eqb y z) refl a (without-among x z l n)
  where
    go : (b : Bool) → eqb y x ≡ b → (c : Bool) → eqb y z ≡ c → (c || among z l) ≡ true
        → (among z l ≡ true → among z (without x l) ≡ true) → among z (cond b l (y ∷ without x l)) ≡ true
    go true e true f t ih = absurd (eqb-false x z n (sym (eqb-true y x e) ∙ eqb-true y z f))
    go true e false f t ih = t
    go false e true f t ih = rw f
    go false e false f t ih = rw f (ih t)

pub distinct-le : (a b : List ℕ) → distinct a ≡ true → ((x : ℕ) → among x a ≡ true → among x b ≡ true) → length a ≤ length b
unfolding distinct among
distinct-le [] b d h = omega arith
distinct-le (x ∷ a) b d h =
    let f : among x b ≡ true = h x (ap (λ t. t || among x a) (eq-eqb x x refl)) in
    omega (
      arith,
      without-length x b f,
      distinct-le a (without x b) (and_right (not (among x a)) (distinct a) d)
          (λ z t. without-among x z b (other z t) (h z (or_right (eqb x z) (among z a) t))),
    )
  where
    other : (z : ℕ) → among z a ≡ true → eqb x z ≡ false
    other z t =
        ne_eqb x z
        (λ e. false≢true
        (sym (not-true (among x a) (and_left (not (among x a)) (distinct a) d)) ∙ ap (λ y. among y a) e ∙ t))

-- the numbers below n
numbers : ℕ → List ℕ
numbers n = listed n (λ i. i)

numbers-among : (n p : ℕ) → p < n → among p (numbers n) ≡ true
unfolding numbers
numbers-among zero p h = absurd (omega arith)
numbers-among (suc n) p h =
    rw listed_suc
    (⊎_elim
    (λ (e : p ≡ n). subst (λ q. among q (listed n (λ i. i) ++ (n ∷ [])) ≡ true) (sym e) (among-snoc (listed n (λ i. i)) n))
    (λ l. among-append p (listed n (λ i. i)) (n ∷ []) ∙ ap (λ b. b || among p (n ∷ [])) (numbers-among n p l))
    (eq-or-lt_of_le (le_of_suc-le-suc h)))

numbers-below : (n : ℕ) (m : ℕ) → n ≤ m → below m (numbers n) ≡ true
unfolding numbers
numbers-below zero m h = rw listed_nil (below-nil m)
numbers-below (suc n) m h =
    rw listed_suc
    (below-append m (listed n (λ i. i)) (n ∷ [])
    ∙ and_both (below m (listed n (λ i. i))) (below m (n ∷ [])) (numbers-below n m (omega arith)) (below_one m n h))

numbers-distinct : (n : ℕ) → distinct (numbers n) ≡ true
unfolding numbers
numbers-distinct zero = rw listed_nil distinct_nil
numbers-distinct (suc n) = rw listed_suc (distinct_snoc (numbers n) n (numbers-distinct n) (fresh (among n (numbers n)) refl))
  where
    fresh : (b : Bool) → among n (numbers n) ≡ b → among n (numbers n) ≡ false
    fresh true e = absurd (omega (arith, below-among n (numbers n) n (numbers-below n n (omega arith)) e))
    fresh false e = e

pub distinct-bound : (n : ℕ) (l : List ℕ) → distinct l ≡ true → below n l ≡ true → length l ≤ n
unfolding numbers
distinct-bound n l d b =
    omega
    (arith, distinct-le l (numbers n) d (λ x a. numbers-among n x (below-among n l x b a)), listed-length n (λ (i : ℕ). i))

pub distinct-all : (n : ℕ) (l : List ℕ) (p : ℕ) → distinct l ≡ true → below n l ≡ true → n ≤ length l → p < n → among p l ≡ true
unfolding distinct below
distinct-all n l p d b h k = go (among p l) refl
  where
    go : (t : Bool) → among p l ≡ t → among p l ≡ true
    go true e = e
    go false e =
        absurd
        (omega (
          arith,
          distinct-bound n (p ∷ l) (and_both (not (among p l)) (distinct l) (ap not e) d)
              (and_both (ltb p n) (below n l) (lt-ltb p n k) b),
        ))

pub distinct-every : (n : ℕ) (l : List ℕ) → distinct l ≡ true → below n l ≡ true → every n (λ p. among p l) ≡ leb n (length l)
unfolding numbers
distinct-every n l d b = go (dec_le n (length l))
  where
    few : (t : Bool) → every n (λ p. among p l) ≡ t → length l < n → every n (λ p. among p l) ≡ false
    few true e h =
        absurd
        (omega (
          arith,
          distinct-le (numbers n) l (numbers-distinct n)
              (λ x a. T_true (among x l) (every-at n (λ p. among p l) (true-T (every n (λ p. among p l)) e) x
              (below-among n (numbers n) x (numbers-below n n (omega arith)) a))),
          listed-length n (λ (i : ℕ). i),
        ))
    few false e h = e

    go : Dec (n ≤ length l) → every n (λ p. among p l) ≡ leb n (length l)
    go (yes h) = every_true n (λ p. among p l) (λ p k. distinct-all n l p d b h k) ∙ sym (le-leb n (length l) h)
    go (no h) = few (every n (λ p. among p l)) refl (omega arith) ∙ sym (lt-leb n (length l) (omega arith))
