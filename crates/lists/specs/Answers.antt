-- The one meaning of 'the first', 'the cheapest' and 'none' among words.
--
--   Beats cost m n        m costs less than n, or as much and stands before it
--   NoWorse cost m n      n is m, or m beats it; no-worse-same: neither is worse only if they are the same
--   Answers cost P o      o is none and nothing has P; or o is some m, which has P and beats every other word that has P
--   answers-unique        there is one answer
--   answers-some, answers-none  what it says of the word answered, and where there is none
--   answers-iff           it depends on P only by what it says of words
--   better cost o o'      the better of two answers; better-answers: it answers 'P or Q' where they answer P and Q
--   first_that test ws     the first word of ws that passes: an answer where all cost the same (free)
--   cheapest cost test ws the cheapest of those that pass, the first of them where costs are equal
--   Passes test ws m      m is one of ws and passes; first_that-answers, cheapest-answers
--   Found q n test m      m is a word of n symbols below q and passes; first_that-words, cheapest-words
--   first_that-only, first_that-none   where one word at most passes
use Rattle.std.specs.Prelude.{Bool, ◌≡◌, ◌↔◌, ◌⊎◌, ℕ, ◌<◌, ◌≤◌, ltb, eqb}
use Rattle.std.proofs.Math.Bool.{true, false}
use Rattle.std.proofs.Math.Path.{refl, subst}
use Rattle.std.proofs.Common.{sym, ap, ◌∙◌, arith, eqb→eq, ltb-true, ltb-false, eqb-true}
use mathlib.Core.List.Memᴰ
use mathlib.Core.List.{List, [], ◌∷◌, Memᴰ}
use Rattle.std.proofs.Math.Logic.{inl, inr, ⊎_elim}
use Rattle.std.proofs.Math.Option.{Option, some, none}
use Rattle.std.proofs.Math.Dec.{T}
use Rattle.std.proofs.lemmas.Bool.{eqb-false}
use Rattle.lists.specs.Every.{both, both_left, both_right}
use Rattle.lists.specs.Words.{Word, words, words-all, words-only, words-rising, Lex, lex-asym, lex-trans, is_before, before-yes, before-no, Rising, rising_nil, rising_cons}

-- m costs less than n, or as much and stands before it
pub data Beats (cost : List ℕ → ℕ) (m n : List ℕ) : Type 0 where
  cheaper : cost m < cost n → Beats cost m n
  earlier : cost m ≡ cost n → Lex m n → Beats cost m n

abbrev pub NoWorse : (List ℕ → ℕ) → List ℕ → List ℕ → Type 0
NoWorse cost m n = (n ≡ m) ⊎ Beats cost m n

pub data Answers (cost : List ℕ → ℕ) (P : List ℕ → Type 0) : Option (List ℕ) → Type 0 where
  nobody : ((m : List ℕ) → P m → ⊥) → Answers cost P none
  best : {m : List ℕ} → P m → ((n : List ℕ) → P n → NoWorse cost m n) → Answers cost P (some m)

module _ {cost : List ℕ → ℕ} where
  beats-asym : {m n : List ℕ} → Beats cost m n → Beats cost n m → ⊥
  beats-asym (cheaper g) (cheaper h) = omega arith
  beats-asym (cheaper g) (earlier e h) = omega arith
  beats-asym (earlier e g) (cheaper h) = omega arith
  beats-asym {m} {n} (earlier e g) (earlier f h) = lex-asym m n g h

  pub beats-trans : {k m n : List ℕ} → Beats cost k m → Beats cost m n → Beats cost k n
  beats-trans (cheaper g) (cheaper h) = cheaper (omega arith)
  beats-trans (cheaper g) (earlier e h) = cheaper (omega arith)
  beats-trans (earlier e g) (cheaper h) = cheaper (omega arith)
  beats-trans {k} {m} {n} (earlier e g) (earlier f h) = earlier (e ∙ f) (lex-trans k m n g h)

  pub no-worse-same : {m n : List ℕ} → NoWorse cost m n → NoWorse cost n m → m ≡ n
  no-worse-same (inl e) r = sym e
  no-worse-same (inr b) (inl e) = e
  no-worse-same (inr b) (inr c) = absurd (beats-asym b c)

  no-worse-trans : {k m n : List ℕ} → NoWorse cost k m → NoWorse cost m n → NoWorse cost k n
  no-worse-trans {k} {m} {n} (inl e) (inl f) = inl (f ∙ e)
  no-worse-trans {k} {m} {n} (inl e) (inr h) = inr (subst (λ x. Beats cost x n) e h)
  no-worse-trans {k} {m} {n} (inr g) (inl f) = inr (subst (Beats cost k) (sym f) g)
  no-worse-trans {k} {m} {n} (inr g) (inr h) = inr (beats-trans g h)

module _ {cost : List ℕ → ℕ} {P : List ℕ → Type 0} where
  pub answers-unique : {o o' : Option (List ℕ)} → Answers cost P o → Answers cost P o' → o ≡ o'
  answers-unique (nobody f) (nobody g) = refl
  answers-unique (nobody f) (best p g) = absurd (f _ p)
  answers-unique (best p f) (nobody g) = absurd (g _ p)
  answers-unique (best {m = m} p f) (best {m = n} q g) = ap some (no-worse-same (f n q) (g m p))

  pub answers-some : {m : List ℕ} → Answers cost P (some m) → P m
  answers-some (best p f) = p

  pub answers-none : Answers cost P none → (m : List ℕ) → P m → ⊥
  answers-none (nobody f) = f

  pub answers-iff : {Q : List ℕ → Type 0} {o : Option (List ℕ)} → ((m : List ℕ) → P m ↔ Q m) → Answers cost P o → Answers cost Q o
  answers-iff i (nobody f) = nobody (λ m q. f m ((i m).1 q))
  answers-iff i (best p f) = best ((i _).0 p) (λ n q. f n ((i n).1 q))

-- one of two answers, by a test
abbrev pub pick : Bool → Option (List ℕ) → Option (List ℕ) → Option (List ℕ)
pick true o o' = o
pick false o o' = o'

abbrev rival : Bool → Bool → Bool
rival true r = true
rival false r = r

unfoldable pub beats : (List ℕ → ℕ) → List ℕ → List ℕ → Bool
beats cost m n = rival (ltb (cost m) (cost n)) (both (eqb (cost m) (cost n)) (is_before m n))

pub beats-yes : (cost : List ℕ → ℕ) (m n : List ℕ) → T (beats cost m n) → Beats cost m n
unfolding beats
beats-yes cost m n t = go (ltb (cost m) (cost n)) refl t
  where
    go : (b : Bool) → ltb (cost m) (cost n) ≡ b → T (rival b (both (eqb (cost m) (cost n)) (is_before m n))) → Beats cost m n
    go true e s = cheaper (ltb-true (cost m) (cost n) e)
    go false e s =
        earlier (eqb→eq (cost m) (cost n) (both_left (eqb (cost m) (cost n)) (is_before m n) s))
        (before-yes m n (both_right (eqb (cost m) (cost n)) (is_before m n) s))

pub beats-no : (cost : List ℕ → ℕ) (m n : List ℕ) → (T (beats cost m n) → ⊥) → NoWorse cost n m
unfolding beats
beats-no cost m n f = go (ltb (cost m) (cost n)) refl (eqb (cost m) (cost n)) refl f
  where
    go : (b : Bool) → ltb (cost m) (cost n) ≡ b → (c : Bool) → eqb (cost m) (cost n) ≡ c → (T (rival b (both c (is_before m n))) → ⊥) → NoWorse cost n m
    go true e c q g = absurd (g tt)
    go false e true q g =
        ⊎_elim (λ r. inl (sym r)) (λ l. inr (earlier (sym (eqb-true (cost m) (cost n) q)) l)) (before-no m n g)
    go false e false q g =
        let h : cost n ≤ cost m = ltb-false (cost m) (cost n) e in
        let d : cost m ≡ cost n → ⊥ = eqb-false (cost m) (cost n) q in
        inr (cheaper (omega arith))

unfoldable pub better : (List ℕ → ℕ) → Option (List ℕ) → Option (List ℕ) → Option (List ℕ)
better cost none o = o
better cost (some m) none = some m
better cost (some m) (some n) = pick (beats cost m n) (some m) (some n)

pub better-answers : {cost : List ℕ → ℕ} {P Q : List ℕ → Type 0} {o o' : Option (List ℕ)} → Answers cost P o → Answers cost Q o'
    → Answers cost (λ m. P m ⊎ Q m) (better cost o o')
unfolding better
better-answers (nobody f) (nobody g) = nobody (λ m. ⊎_elim (f m) (g m))
better-answers (nobody f) (best q g) = best (inr q) (λ n. ⊎_elim (λ p. absurd (f n p)) (g n))
better-answers (best p f) (nobody g) = best (inl p) (λ n. ⊎_elim (f n) (λ q. absurd (g n q)))
better-answers {cost} {P} {Q} (best {m = m} p f) (best {m = n} q g) = go (beats cost m n) refl
  where
    go : (b : Bool) → beats cost m n ≡ b → Answers cost (λ k. P k ⊎ Q k) (pick b (some m) (some n))
    go true e =
        let l : NoWorse cost m n = inr (beats-yes cost m n (subst T (sym e) tt)) in
        best (inl p) (λ k. ⊎_elim (f k) (λ r. no-worse-trans l (g k r)))
    go false e =
        let l : NoWorse cost n m = beats-no cost m n (λ t. subst T e t) in
        best (inr q) (λ k. ⊎_elim (λ r. no-worse-trans l (f k r)) (g k))

unfoldable pub first_that : (List ℕ → Bool) → List (List ℕ) → Option (List ℕ)
first_that test [] = none
first_that test (m ∷ ws) = pick (test m) (some m) (first_that test ws)

unfoldable pub cheapest : (List ℕ → ℕ) → (List ℕ → Bool) → List (List ℕ) → Option (List ℕ)
cheapest cost test [] = none
cheapest cost test (m ∷ ws) = better cost (pick (test m) (some m) none) (cheapest cost test ws)

-- m is one of ws and passes
pub record Passes (test : List ℕ → Bool) (ws : List (List ℕ)) (m : List ℕ) : Type 0 where
  pub listed : Memᴰ m ws
  pub passed : T (test m)

-- every word costs the same
abbrev pub free : List ℕ → ℕ
free m = 0

module _ (test : List ℕ → Bool) where
  passes-nil : (m : List ℕ) → Passes test [] m → ⊥
  passes-nil m p = Memᴰ.not-nil p.listed

  passes-head : (m : List ℕ) (ws : List (List ℕ)) → T (test m) → Passes test (m ∷ ws) m
  passes-head m ws t = record { listed = Memᴰ.head refl; passed = t }

  passes-tail : (m : List ℕ) {n : List ℕ} {ws : List (List ℕ)} → Passes test ws n → Passes test (m ∷ ws) n
  passes-tail m p = record { listed = Memᴰ.tail p.listed; passed = p.passed }

  passes-cons : {m n : List ℕ} {ws : List (List ℕ)} → Passes test (m ∷ ws) n → ((n ≡ m) × T (test m)) ⊎ Passes test ws n
  passes-cons {m} {n} p =
      ⊎_elim (λ (e : n ≡ m). inl (e, subst (λ x. T (test x)) e p.passed)) (λ t. inr (record { listed = t; passed = p.passed }))
      (Memᴰ.cases_cons p.listed)

  pub first_that-answers : {ws : List (List ℕ)} → Rising ws → Answers free (Passes test ws) (first_that test ws)
  unfolding first_that
  first_that-answers rising_nil = nobody passes-nil
  first_that-answers (rising_cons {m = m} {ws = ws} h r) = go (test m) refl (first_that-answers r)
    where
      go : (b : Bool) → test m ≡ b → Answers free (Passes test ws) (first_that test ws)
          → Answers free (Passes test (m ∷ ws)) (pick b (some m) (first_that test ws))
      go true e a =
          best (passes-head m ws (subst T (sym e) tt))
          (λ n p. ⊎_elim (λ q. inl q.0) (λ q. inr (earlier refl (h n q.listed))) (passes-cons p))
      go false e a = answers-iff (λ n. (passes-tail m, λ p. ⊎_elim (λ q. absurd (subst T e q.1)) (λ q. q) (passes-cons p))) a

  one-answers : (cost : List ℕ → ℕ) (m : List ℕ) → Answers cost (λ n. (n ≡ m) × T (test m)) (pick (test m) (some m) none)
  one-answers cost m = go (test m)
    where
      go : (b : Bool) → Answers cost (λ n. (n ≡ m) × T b) (pick b (some m) none)
      go true = best (refl, tt) (λ n p. inl p.0)
      go false = nobody (λ n p. p.1)

  pub cheapest-answers : (cost : List ℕ → ℕ) (ws : List (List ℕ)) → Answers cost (Passes test ws) (cheapest cost test ws)
  unfolding cheapest
  cheapest-answers cost [] = nobody passes-nil
  cheapest-answers cost (m ∷ ws) =
      answers-iff
      (λ n. (⊎_elim (λ q. subst (Passes test (m ∷ ws)) (sym q.0) (passes-head m ws q.1)) (passes-tail m), passes-cons))
      (better-answers (one-answers cost m) (cheapest-answers cost ws))

-- m is a word of n symbols below q, and passes
pub record Found (q n : ℕ) (test : List ℕ → Bool) (m : List ℕ) : Type 0 where
  pub word : Word q n m
  pub passed : T (test m)

found-iff : (q n : ℕ) (test : List ℕ → Bool) (m : List ℕ) → Passes test (words q n) m ↔ Found q n test m
found-iff q n test m = (
  λ p. record { word = words-only q n m p.listed; passed = p.passed },
  λ p. record { listed = words-all q n m p.word; passed = p.passed },
)

-- the first of all words that passes
pub first_that-words : (q n : ℕ) (test : List ℕ → Bool) → Answers free (Found q n test) (first_that test (words q n))
first_that-words q n test = answers-iff (found-iff q n test) (first_that-answers test (words-rising q n))

-- the cheapest of all words that pass
pub cheapest-words : (q n : ℕ) (cost : List ℕ → ℕ) (test : List ℕ → Bool)
    → Answers cost (Found q n test) (cheapest cost test (words q n))
cheapest-words q n cost test = answers-iff (found-iff q n test) (cheapest-answers test cost (words q n))

module _ (q n : ℕ) (test : List ℕ → Bool) where
  pub first_that-only : (m : List ℕ) → Found q n test m → ((k : List ℕ) → Found q n test k → k ≡ m) → first_that test (words q n) ≡ some m
  first_that-only m p f = answers-unique (first_that-words q n test) (best p (λ k r. inl (f k r)))

  pub first_that-none : ((k : List ℕ) → Found q n test k → ⊥) → first_that test (words q n) ≡ none
  first_that-none f = answers-unique (first_that-words q n test) (nobody f)
