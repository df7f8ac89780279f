-- All words of n symbols below q, in lexicographic order. The list is never computed: it is there to be reasoned about.
--
--   all_below q m      every symbol of m is below q, as a test; all_below-at, allBelow-from: symbol by symbol
--   Word q n m        m is a word of n symbols below q
--   words q n         all of them, in lexicographic order
--   words-all, words-only   every such word is in the list, and nothing else
--   Lex m n           m stands before n: a smaller symbol decides, compared from symbol 0 on
--   lex-trans, lex-asym, lex-or   it is a strict order, and of two words one stands before the other or they are equal
--   is_before          the same as a test; before-yes, before-no
--   Rising ws         every word of ws stands before all that come after it
--   words-rising      words q n is so ordered
use Rattle.std.specs.Prelude.{Bool, true, false, ◌≡◌, refl, ◌⊎◌, ℕ, zero, suc, ◌<◌, T, ltb, eqb, length, get_or}
use Rattle.std.proofs.Common.{sym, ap, ap₂, ◌∙◌, subst, inl, inr, ⊎_elim, eq-or-lt_of_le, le_of_suc-le-suc, arith, ltb→lt, lt→ltb, eqb→eq, ltb-true, lt-ltb, le-ltb}
use mathlib.Core.List.Memᴰ
use mathlib.Core.List.{List, [], ◌∷◌, ◌++◌, Memᴰ}
use Rattle.std.proofs.Math.Nat.{suc_inj}
use Rattle.std.proofs.Math.Decide.{dec_lt}
use Rattle.std.proofs.Math.Dec.{eqb_refl}
use Rattle.lists.specs.Every.{both, both_left, both_right, both-intro}

unfoldable pub all_below : ℕ → List ℕ → Bool
all_below q [] = true
all_below q (a ∷ m) = both (ltb a q) (all_below q m)

pub all_below-at : (q : ℕ) (m : List ℕ) → T (all_below q m) → (i : ℕ) → i < length m → get_or m i 0 < q
unfolding all_below
all_below-at q [] t i h = absurd (omega arith)
all_below-at q (a ∷ m) t zero h = ltb→lt a q (both_left (ltb a q) (all_below q m) t)
all_below-at q (a ∷ m) t (suc i) h = all_below-at q m (both_right (ltb a q) (all_below q m) t) i (le_of_suc-le-suc h)

pub all_below-from : (q : ℕ) (m : List ℕ) → ((i : ℕ) → i < length m → get_or m i 0 < q) → T (all_below q m)
unfolding all_below
all_below-from q [] f = tt
all_below-from q (a ∷ m) f =
    both-intro (ltb a q) (all_below q m) (lt→ltb a q (f 0 (omega arith))) (all_below-from q m (λ i h. f (suc i) (omega arith)))

pub record Word (q n : ℕ) (m : List ℕ) : Type 0 where
  pub size : length m ≡ n
  pub symbols : T (all_below q m)

-- the words of ws, each with the symbol a before it
unfoldable pub after : ℕ → List (List ℕ) → List (List ℕ)
after a [] = []
after a (m ∷ ws) = (a ∷ m) ∷ after a ws

-- the words of ws, each with a symbol below a before it
unfoldable pub after_each : ℕ → List (List ℕ) → List (List ℕ)
after_each zero ws = []
after_each (suc a) ws = after_each a ws ++ after a ws

unfoldable pub words : ℕ → ℕ → List (List ℕ)
words q zero = [] ∷ []
words q (suc n) = after_each q (words q n)

after-mem : (a : ℕ) (m : List ℕ) (ws : List (List ℕ)) → Memᴰ m ws → Memᴰ (a ∷ m) (after a ws)
unfolding after
after-mem a m [] h = absurd (Memᴰ.not-nil h)
after-mem a m (w ∷ ws) h =
    ⊎_elim (λ e. Memᴰ.head (ap (λ x. a ∷ x) e)) (λ t. Memᴰ.tail (after-mem a m ws t)) (Memᴰ.cases_cons h)

after-only : (a : ℕ) (m : List ℕ) (ws : List (List ℕ)) → Memᴰ m (after a ws) → (n : List ℕ) × (m ≡ a ∷ n) × Memᴰ n ws
unfolding after
after-only a m [] h = absurd (Memᴰ.not-nil h)
after-only a m (w ∷ ws) h = go (Memᴰ.cases_cons h) (after-only a m ws)
  where
    go : (m ≡ a ∷ w) ⊎ Memᴰ m (after a ws) → (Memᴰ m (after a ws) → (n : List ℕ) × (m ≡ a ∷ n) × Memᴰ n ws)
        → (n : List ℕ) × (m ≡ a ∷ n) × Memᴰ n (w ∷ ws)
    go (inl e) ih = (w, e, Memᴰ.head refl)
    go (inr t) ih = let r : (n : List ℕ) × (m ≡ a ∷ n) × Memᴰ n ws = ih t in (r.0, r.1, Memᴰ.tail r.2)

after_each-mem : (a b : ℕ) (m : List ℕ) (ws : List (List ℕ)) → b < a → Memᴰ m ws → Memᴰ (b ∷ m) (after_each a ws)
unfolding after_each
after_each-mem zero b m ws h t = absurd (omega arith)
after_each-mem (suc a) b m ws h t =
    ⊎_elim (λ (e : b ≡ a). Memᴰ.append_right (after_each a ws) (subst (λ x. Memᴰ (x ∷ m) (after a ws)) (sym e) (after-mem a m ws t)))
    (λ l. Memᴰ.append_left (after a ws) (after_each-mem a b m ws l t)) (eq-or-lt_of_le (le_of_suc-le-suc h))

after_each-only : (a : ℕ) (m : List ℕ) (ws : List (List ℕ)) → Memᴰ m (after_each a ws)
    → (b : ℕ) × (n : List ℕ) × (b < a) × (m ≡ b ∷ n) × Memᴰ n ws
unfolding after_each
after_each-only zero m ws h = absurd (Memᴰ.not-nil h)
after_each-only (suc a) m ws h = go (Memᴰ.append_cases (after_each a ws) h) (after_each-only a m ws)
  where
    go : Memᴰ m (after_each a ws) ⊎ Memᴰ m (after a ws)
        → (Memᴰ m (after_each a ws) → (b : ℕ) × (n : List ℕ) × (b < a) × (m ≡ b ∷ n) × Memᴰ n ws)
        → (b : ℕ) × (n : List ℕ) × (b < suc a) × (m ≡ b ∷ n) × Memᴰ n ws
    go (inl t) ih =
        let r : (b : ℕ) × (n : List ℕ) × (b < a) × (m ≡ b ∷ n) × Memᴰ n ws = ih t in
        (r.0, r.1, omega (arith, r.2), r.3, r.4)
    go (inr t) ih =
        let r : (n : List ℕ) × (m ≡ a ∷ n) × Memᴰ n ws = after-only a m ws t in
        (a, r.0, omega arith, r.1, r.2)

pub words-all : (q n : ℕ) (m : List ℕ) → Word q n m → Memᴰ m (words q n)
unfolding words all_below
words-all q zero [] h = Memᴰ.head refl
words-all q zero (a ∷ m) h = absurd (omega (arith, h.size))
words-all q (suc n) [] h = absurd (omega (arith, h.size))
words-all q (suc n) (a ∷ m) h =
    after_each-mem q a m (words q n) (ltb→lt a q (both_left (ltb a q) (all_below q m) h.symbols))
    (words-all q n m (record { size = suc_inj h.size; symbols = both_right (ltb a q) (all_below q m) h.symbols }))

pub words-only : (q n : ℕ) (m : List ℕ) → Memᴰ m (words q n) → Word q n m
unfolding words all_below
words-only q zero m h = subst (Word q 0) (sym (Memᴰ.eq_of_singleton h)) (record { size = refl; symbols = tt })
words-only q (suc n) m h = go (after_each-only q m (words q n) h) (words-only q n)
  where
    go : (b : ℕ) × (l : List ℕ) × (b < q) × (m ≡ b ∷ l) × Memᴰ l (words q n)
        → ((l : List ℕ) → Memᴰ l (words q n) → Word q n l) → Word q (suc n) m
    go r ih =
        let w : Word q n r.1 = ih r.1 r.4 in
        let s : T (all_below q (r.0 ∷ r.1)) = both-intro (ltb r.0 q) (all_below q r.1) (lt→ltb r.0 q r.2) w.symbols in
        subst (Word q (suc n)) (sym r.3) (record { size = ap suc w.size; symbols = s })

pub data Lex : List ℕ → List ℕ → Type 0 where
  lex_end : {b : ℕ} {n : List ℕ} → Lex [] (b ∷ n)
  lex_here : {a b : ℕ} {m n : List ℕ} → a < b → Lex (a ∷ m) (b ∷ n)
  lex_later : {a b : ℕ} {m n : List ℕ} → a ≡ b → Lex m n → Lex (a ∷ m) (b ∷ n)

pub lex-nil : (m : List ℕ) → Lex m [] → ⊥
lex-nil [] h = elim h [ ]
lex-nil (a ∷ m) h = elim h [ ]

pub lex-cons : {a b : ℕ} {m n : List ℕ} → Lex (a ∷ m) (b ∷ n) → (a < b) ⊎ ((a ≡ b) × Lex m n)
lex-cons (lex_here h) = inl h
lex-cons (lex_later e h) = inr (e, h)

pub lex-asym : (m n : List ℕ) → Lex m n → Lex n m → ⊥
lex-asym [] n g h = lex-nil n h
lex-asym (a ∷ m) [] g h = lex-nil (a ∷ m) g
lex-asym (a ∷ m) (b ∷ n) g h = go (lex-cons g) (lex-cons h) (lex-asym m n)
  where
    go : (a < b) ⊎ ((a ≡ b) × Lex m n) → (b < a) ⊎ ((b ≡ a) × Lex n m) → (Lex m n → Lex n m → ⊥) → ⊥
    go (inl p) (inl q) ih = omega arith
    go (inl p) (inr q) ih = omega arith
    go (inr p) (inl q) ih = omega arith
    go (inr p) (inr q) ih = ih p.1 q.1

pub lex-trans : (k m n : List ℕ) → Lex k m → Lex m n → Lex k n
lex-trans k [] n g h = absurd (lex-nil k g)
lex-trans k (b ∷ m) [] g h = absurd (lex-nil (b ∷ m) h)
lex-trans [] (b ∷ m) (c ∷ n) g h = lex_end
lex-trans (a ∷ k) (b ∷ m) (c ∷ n) g h = go (lex-cons g) (lex-cons h) (lex-trans k m n)
  where
    go : (a < b) ⊎ ((a ≡ b) × Lex k m) → (b < c) ⊎ ((b ≡ c) × Lex m n) → (Lex k m → Lex m n → Lex k n) → Lex (a ∷ k) (c ∷ n)
    go (inl p) (inl q) ih = let l : a < c = omega arith in lex_here l
    go (inl p) (inr q) ih = let l : a < c = omega arith in lex_here l
    go (inr p) (inl q) ih = let l : a < c = omega arith in lex_here l
    go (inr p) (inr q) ih = lex_later (p.0 ∙ q.0) (ih p.1 q.1)

-- the order as a test
abbrev less : Bool → Bool → Bool → Bool
less true e r = true
less false e r = both e r

unfoldable pub is_before : List ℕ → List ℕ → Bool
is_before [] [] = false
is_before [] (b ∷ n) = true
is_before (a ∷ m) [] = false
is_before (a ∷ m) (b ∷ n) = less (ltb a b) (eqb a b) (is_before m n)

pub before-yes : (m n : List ℕ) → T (is_before m n) → Lex m n
unfolding is_before
before-yes [] [] t = absurd t
before-yes [] (b ∷ n) t = lex_end
before-yes (a ∷ m) [] t = absurd t
before-yes (a ∷ m) (b ∷ n) t = go (ltb a b) refl t (before-yes m n)
  where
    go : (c : Bool) → ltb a b ≡ c → T (less c (eqb a b) (is_before m n)) → (T (is_before m n) → Lex m n) → Lex (a ∷ m) (b ∷ n)
    go true e s ih = lex_here (ltb-true a b e)
    go false e s ih =
        lex_later (eqb→eq a b (both_left (eqb a b) (is_before m n) s)) (ih (both_right (eqb a b) (is_before m n) s))

pub before_of : (m n : List ℕ) → Lex m n → T (is_before m n)
unfolding is_before
before_of [] [] h = lex-nil [] h
before_of [] (b ∷ n) h = tt
before_of (a ∷ m) [] h = lex-nil (a ∷ m) h
before_of (a ∷ m) (b ∷ n) h = go (lex-cons h) (before_of m n)
  where
    go : (a < b) ⊎ ((a ≡ b) × Lex m n) → (Lex m n → T (is_before m n)) → T (less (ltb a b) (eqb a b) (is_before m n))
    go (inl l) ih = subst (λ c. T (less c (eqb a b) (is_before m n))) (sym (lt-ltb a b l)) tt
    go (inr r) ih =
        subst (λ c. T (less c (eqb a b) (is_before m n))) (sym (le-ltb a b (omega (arith, r.0))))
        (both-intro (eqb a b) (is_before m n) (subst (λ x. T (eqb a x)) r.0 (eqb_refl a)) (ih r.1))

-- of two words one stands before the other, or they are equal
pub lex-or : (m n : List ℕ) → Lex m n ⊎ ((n ≡ m) ⊎ Lex n m)
lex-or [] [] = inr (inl refl)
lex-or [] (b ∷ n) = inl lex_end
lex-or (a ∷ m) [] = inr (inr lex_end)
lex-or (a ∷ m) (b ∷ n) = go (dec_lt a b) (dec_lt b a) (lex-or m n)
  where
    Goal : Type 0
    Goal = Lex (a ∷ m) (b ∷ n) ⊎ ((b ∷ n ≡ a ∷ m) ⊎ Lex (b ∷ n) (a ∷ m))

    go : Dec (a < b) → Dec (b < a) → Lex m n ⊎ ((n ≡ m) ⊎ Lex n m) → Goal
    go (yes h) d ih = inl (lex_here h)
    go (no h) (yes g) ih = inr (inr (lex_here g))
    go (no h) (no g) ih =
        let e : a ≡ b = omega arith in
        ⊎_elim (λ l. inl (lex_later e l)) (λ r. inr (⊎_elim (λ q. inl (ap₂ (λ x y. x ∷ y) (sym e) q)) (λ l. inr (lex_later (sym e) l)) r)) ih

pub before-no : (m n : List ℕ) → (T (is_before m n) → ⊥) → (n ≡ m) ⊎ Lex n m
before-no m n f = ⊎_elim (λ l. absurd (f (before_of m n l))) (λ r. r) (lex-or m n)

pub data Rising : List (List ℕ) → Type 0 where
  rising_nil : Rising []
  rising_cons : {m : List ℕ} {ws : List (List ℕ)} → ((n : List ℕ) → Memᴰ n ws → Lex m n) → Rising ws → Rising (m ∷ ws)

rising-append : {vs : List (List ℕ)} (ws : List (List ℕ)) → Rising vs → Rising ws
    → ((m n : List ℕ) → Memᴰ m vs → Memᴰ n ws → Lex m n) → Rising (vs ++ ws)
rising-append ws rising_nil r f = r
rising-append ws (rising_cons {m = m} {ws = vs} h s) r f =
    rising_cons (λ n t. ⊎_elim (λ v. h n v) (λ w. f m n (Memᴰ.head refl) w) (Memᴰ.append_cases vs t))
    (rising-append ws s r (λ k n v w. f k n (Memᴰ.tail v) w))

after-rising : (a : ℕ) {ws : List (List ℕ)} → Rising ws → Rising (after a ws)
unfolding after
after-rising a rising_nil = rising_nil
after-rising a (rising_cons {m = m} {ws = ws} h r) = rising_cons (λ n t. go n (after-only a n ws t)) (after-rising a r)
  where
    go : (n : List ℕ) → (l : List ℕ) × (n ≡ a ∷ l) × Memᴰ l ws → Lex (a ∷ m) n
    go n f = subst (Lex (a ∷ m)) (sym f.1) (lex_later refl (h f.0 f.2))

after_each-rising : (a : ℕ) {ws : List (List ℕ)} → Rising ws → Rising (after_each a ws)
unfolding after_each
after_each-rising zero r = rising_nil
after_each-rising (suc a) {ws} r =
    rising-append (after a ws) (after_each-rising a r) (after-rising a r) (λ m n s t. go m n (after_each-only a m ws s) (after-only a n ws t))
  where
    go : (m n : List ℕ) → (b : ℕ) × (l : List ℕ) × (b < a) × (m ≡ b ∷ l) × Memᴰ l ws → (l : List ℕ) × (n ≡ a ∷ l) × Memᴰ l ws
        → Lex m n
    go m n f g =
        let h : Lex (f.0 ∷ f.1) (a ∷ g.0) = lex_here f.2 in
        subst (λ x. Lex x n) (sym f.3) (subst (Lex (f.0 ∷ f.1)) (sym g.1) h)

pub words-rising : (q n : ℕ) → Rising (words q n)
unfolding words
words-rising q zero = rising_cons (λ n t. absurd (Memᴰ.not-nil t)) rising_nil
words-rising q (suc n) = after_each-rising q (words-rising q n)
