-- The margin to the runner-up: how much more than the answer the cheapest of the other words that pass costs.
--
--   other_than m test n       n is not m, and passes
--   beyond cost m o          how much more than m the word of o costs, if o has one
--   margin_among cost test ws m  how much more than m the cheapest other word of ws that passes costs; none where no other passes
--   RunnerUp cost P m d      a word other than m has P, no other one that has P costs less, and it costs d more than m
--   margin-absent            there is no margin exactly if no word but m passes
--   margin-some              where m is the answer, it is d exactly if there is a runner-up at d
--   lesser o o'              the smaller of two margins, where none is larger than any; lesser-none, lesser-first, lesser-second, lesser-zero,
--                            lesser-comm
--   margin-either            the margin among words that pass one of two tests is the smaller of the two
--   margin-nobody            where nothing passes, there is none
--   margin-beaten            where n is the answer and m beats it, the margin of m is what n costs more
--   margin-le                no margin is larger than what every word costs at most
use Rattle.std.specs.Prelude.{Bool, true, false, not, cond, refl, ◌↔◌, ◌≢◌, ◌⊎◌, ℕ, ◌+◌, ◌-◌, ◌<◌, ◌≤◌, T, ltb}
use Rattle.std.proofs.Math.Path.{◌≡◌, ap}
use Rattle.std.proofs.Common.{sym, ◌∙◌, subst, arith, lt-ltb, le-ltb}
use mathlib.Core.List.{List}
use Rattle.std.proofs.Math.Logic.{inl, inr, ⊎_elim}
use Rattle.std.proofs.Math.Option.{Option, some, none}
use Rattle.std.proofs.Math.Decide.{dec_lt}
use Rattle.lists.specs.Every.{both, both_left, both_right, both-intro}
use Rattle.lists.specs.Same.{same, same-yes, same_of}
use Rattle.lists.specs.Words.{words, lex-asym}
use Rattle.lists.specs.Answers.{Beats, cheaper, earlier, NoWorse, Answers, nobody, best, answers-unique, answers-iff, beats, beats-yes, beats-no, better, better-answers, pick, cheapest, Found, cheapest-words}

unfoldable pub other_than : List ℕ → (List ℕ → Bool) → List ℕ → Bool
other_than m test n = both (not (same n m)) (test n)

unfoldable pub beyond : (List ℕ → ℕ) → List ℕ → Option (List ℕ) → Option ℕ
beyond cost m none = none
beyond cost m (some n) = some (cost n - cost m)

unfoldable pub margin_among : (List ℕ → ℕ) → (List ℕ → Bool) → List (List ℕ) → List ℕ → Option ℕ
margin_among cost test ws m = beyond cost m (cheapest cost (other_than m test) ws)

pub record RunnerUp (cost : List ℕ → ℕ) (P : List ℕ → Type 0) (m : List ℕ) (d : ℕ) : Type 0 where
  pub rival : List ℕ
  pub passes : P rival
  pub other : rival ≢ m
  pub least : (n : List ℕ) → P n → n ≢ m → cost rival ≤ cost n
  pub margin : cost m + d ≡ cost rival

unfoldable pub lesser : Option ℕ → Option ℕ → Option ℕ
lesser none o = o
lesser (some d) none = some d
lesser (some d) (some e) = some (cond (ltb e d) e d)

pub lesser-none : (o : Option ℕ) → lesser o none ≡ o
unfolding lesser
lesser-none none = refl
lesser-none (some d) = refl

pub lesser-first : (d e : ℕ) → d ≤ e → lesser (some d) (some e) ≡ some d
unfolding lesser
lesser-first d e h = ap (λ b. some (cond b e d)) (le-ltb e d h)

pub lesser-second : (d e : ℕ) → e ≤ d → lesser (some d) (some e) ≡ some e
unfolding lesser
lesser-second d e h = go (dec_lt e d)
  where
    go : Dec (e < d) → some (cond (ltb e d) e d) ≡ some e
    go (yes l) = ap (λ b. some (cond b e d)) (lt-ltb e d l)
    go (no l) = ap (λ b. some (cond b e d)) (le-ltb e d (omega arith)) ∙ ap some (omega arith)

pub lesser-zero : (o : Option ℕ) → lesser o (some 0) ≡ some 0
unfolding lesser
lesser-zero none = refl
lesser-zero (some d) = lesser-second d 0 (omega arith)

pub lesser-comm : (o o' : Option ℕ) → lesser o o' ≡ lesser o' o
unfolding lesser
lesser-comm none o = sym (lesser-none o)
lesser-comm (some d) none = refl
lesser-comm (some d) (some e) = go (dec_lt e d)
  where
    go : Dec (e < d) → lesser (some d) (some e) ≡ lesser (some e) (some d)
    go (yes l) = lesser-second d e (omega arith) ∙ sym (lesser-first e d (omega arith))
    go (no l) = lesser-first d e (omega arith) ∙ sym (lesser-second e d (omega arith))

pub margin-le : {cost : List ℕ → ℕ} {b : ℕ} → ((n : List ℕ) → cost n ≤ b) → (test : List ℕ → Bool) (ws : List (List ℕ)) (m : List ℕ) {d : ℕ}
    → margin_among cost test ws m ≡ some d → d ≤ b
unfolding margin_among beyond
margin-le {cost} {b} h test ws m {d} = go (cheapest cost (other_than m test) ws)
  where
    go : (o : Option (List ℕ)) → beyond cost m o ≡ some d → d ≤ b
    go none e = let z : ◌≡◌ {A = ℕ} 0 1 = cc in absurd (omega arith)
    go (some n) e = let s : cost n - cost m ≡ d = cc in omega (arith, h n)

-- ---- the cheapest of the others

-- what is no worse costs no more
no-dearer : {cost : List ℕ → ℕ} {m n : List ℕ} → NoWorse cost m n → cost m ≤ cost n
no-dearer {cost} {m} {n} (inl e) = omega (arith, ap cost e)
no-dearer (inr (cheaper h)) = omega arith
no-dearer (inr (earlier e h)) = omega arith

-- nothing beats itself
beats-other : {cost : List ℕ → ℕ} {m n : List ℕ} → Beats cost m n → n ≢ m
beats-other {cost} {m} {n} (cheaper h) e = omega (arith, ap cost e)
beats-other {m = m} {n = n} (earlier c h) e = lex-asym m m (rw e at h) (rw e at h)

beyond-better : (cost : List ℕ → ℕ) (m : List ℕ) (o o' : Option (List ℕ))
    → beyond cost m (better cost o o') ≡ lesser (beyond cost m o) (beyond cost m o')
unfolding beyond better lesser
beyond-better cost m none o = refl
beyond-better cost m (some k) none = refl
beyond-better cost m (some k) (some l) = go (beats cost k l) refl
  where
    go : (b : Bool) → beats cost k l ≡ b → beyond cost m (pick b (some k) (some l)) ≡ lesser (some (cost k - cost m)) (some (cost l - cost m))
    go true e =
        let h : cost k ≤ cost l = no-dearer (inr (beats-yes cost k l (subst T (sym e) tt))) in
        sym (lesser-first (cost k - cost m) (cost l - cost m) (omega arith))
    go false e =
        let h : cost l ≤ cost k = no-dearer (beats-no cost k l (λ t. subst T e t)) in
        sym (lesser-second (cost k - cost m) (cost l - cost m) (omega arith))

other-yes : (m n : List ℕ) → T (not (same n m)) → n ≢ m
other-yes m n t e = go (same n m) (same_of n m e) t
  where
    go : (b : Bool) → T b → T (not b) → ⊥
    go true s t = t
    go false s t = s

other-no : (m n : List ℕ) → (n ≡ m) ⊎ T (not (same n m))
other-no m n = go (same n m) refl
  where
    go : (b : Bool) → same n m ≡ b → (n ≡ m) ⊎ T (not b)
    go true e = inl (same-yes n m (subst T (sym e) tt))
    go false e = inr tt

module _ (q size : ℕ) (cost : List ℕ → ℕ) where
  -- a word that passes, and is not m
  abbrev Other : (List ℕ → Bool) → List ℕ → List ℕ → Type 0
  Other test m n = Found q size test n × (n ≢ m)

  other-iff : (test : List ℕ → Bool) (m n : List ℕ) → Found q size (other_than m test) n ↔ Other test m n
  unfolding other_than
  other-iff test m n = (into, from)
    where
      into : Found q size (other_than m test) n → Other test m n
      into f = (
        record { word = f.word; passed = both_right (not (same n m)) (test n) f.passed },
        other-yes m n (both_left (not (same n m)) (test n) f.passed),
      )

      from : Other test m n → Found q size (other_than m test) n
      from p =
          record {
            word = p.0.word;
            passed =
                both-intro (not (same n m)) (test n) (⊎_elim (λ e. absurd (p.1 e)) (λ t. t) (other-no m n)) p.0.passed;
          }

  others : (test : List ℕ → Bool) (m : List ℕ) → Answers cost (Other test m) (cheapest cost (other_than m test) (words q size))
  others test m = answers-iff (other-iff test m) (cheapest-words q size cost (other_than m test))

  -- the margin is that of whatever answers among the others
  margin-is : (test : List ℕ → Bool) (m : List ℕ) {o : Option (List ℕ)} → Answers cost (Other test m) o
      → margin_among cost test (words q size) m ≡ beyond cost m o
  unfolding margin_among
  margin-is test m a = ap (beyond cost m) (answers-unique (others test m) a)

  -- ---- when there is one

  pub margin-absent : (test : List ℕ → Bool) (m : List ℕ)
      → (margin_among cost test (words q size) m ≡ none) ↔ ((n : List ℕ) → Found q size test n → n ≡ m)
  unfolding beyond
  margin-absent test m = (only, λ h. margin-is test m (nobody (λ n p. p.1 (h n p.0))))
    where
      go : {o : Option (List ℕ)} → Answers cost (Other test m) o → beyond cost m o ≡ none → (n : List ℕ) → Found q size test n → n ≡ m
      go (nobody h) e n f = ⊎_elim (λ p. p) (λ t. absurd (h n (f, other-yes m n t))) (other-no m n)
      go (best p h) e n f = let z : ◌≡◌ {A = ℕ} 0 1 = cc in absurd (omega arith)

      only : margin_among cost test (words q size) m ≡ none → (n : List ℕ) → Found q size test n → n ≡ m
      only e = go (others test m) (sym (margin-is test m (others test m)) ∙ e)

  pub margin-some : (test : List ℕ → Bool) {m : List ℕ} → Answers cost (Found q size test) (some m) → (d : ℕ)
      → (margin_among cost test (words q size) m ≡ some d) ↔ RunnerUp cost (Found q size test) m d
  unfolding beyond
  margin-some test (best {m = m} p f) d = (
    λ e. go (others test m) (sym (margin-is test m (others test m)) ∙ e),
    λ r. margin-is test m (others test m) ∙ back r (others test m),
  )
    where
      go : {o : Option (List ℕ)} → Answers cost (Other test m) o → beyond cost m o ≡ some d → RunnerUp cost (Found q size test) m d
      go (nobody h) e = let z : ◌≡◌ {A = ℕ} 0 1 = cc in absurd (omega arith)
      go (best {m = k} r h) e =
          let s : cost k - cost m ≡ d = cc in
          record {
            rival = k;
            passes = r.0;
            other = r.1;
            least = λ n g ne. no-dearer (h n (g, ne));
            margin = omega (arith, no-dearer (f k r.0));
          }

      back : RunnerUp cost (Found q size test) m d → {o : Option (List ℕ)} → Answers cost (Other test m) o → beyond cost m o ≡ some d
      back r (nobody h) = absurd (h r.rival (r.passes, r.other))
      back r (best {m = k} s h) =
          let g : cost r.rival ≤ cost k = r.least k s.0 s.1 in
          let l : cost k ≤ cost r.rival = no-dearer (h r.rival (r.passes, r.other)) in
          ap some (omega (arith, r.margin))

  -- ---- of two tests

  pub margin-either : {test other joined : List ℕ → Bool}
      → ((n : List ℕ) → (Found q size test n ⊎ Found q size other n) ↔ Found q size joined n) → (m : List ℕ)
      → margin_among cost joined (words q size) m ≡ lesser (margin_among cost test (words q size) m) (margin_among cost other (words q size) m)
  unfolding margin_among
  margin-either {test} {other} {joined} i m =
      margin-is joined m (answers-iff same-others (better-answers (others test m) (others other m)))
      ∙ beyond-better cost m (cheapest cost (other_than m test) (words q size)) (cheapest cost (other_than m other) (words q size))
    where
      same-others : (n : List ℕ) → (Other test m n ⊎ Other other m n) ↔ Other joined m n
      same-others n = (
        ⊎_elim (λ p. ((i n).0 (inl p.0), p.1)) (λ p. ((i n).0 (inr p.0), p.1)),
        λ p. ⊎_elim (λ f. inl (f, p.1)) (λ f. inr (f, p.1)) ((i n).1 p.0),
      )

  pub margin-nobody : (test : List ℕ → Bool) → Answers cost (Found q size test) none → (m : List ℕ)
      → margin_among cost test (words q size) m ≡ none
  margin-nobody test (nobody h) m = (margin-absent test m).1 (λ n f. absurd (h n f))

  pub margin-beaten : (test : List ℕ → Bool) {m n : List ℕ} → Answers cost (Found q size test) (some n) → Beats cost m n
      → margin_among cost test (words q size) m ≡ some (cost n - cost m)
  unfolding beyond
  margin-beaten test {m} (best p f) b = margin-is test m (best (p, beats-other b) (λ k r. f k r.0))
