-- The laws of nearness, of the count of test words and of the answer, for every member, any T and any places that count.
--
--   near-answers        the answer in the sense of `lists`: it has a near codeword and beats every other such message; or there is none
--   near-append, near-member, member-near     near some test word of a list
--   tests-nil, tests-cons, tests-append, tests-none   the count of a list of test words
--   none-near           where no codeword is within T of any test word of a list, it is 0, and there is no answer
--   tests-answerless    where there is no answer, it is 0
--   tests-le            it is at most their number; tests-doubled: d doubtful places that are not blank have at most 2 ^ d; tests-tree: so d doubtful ones
--   found-append        near two lists is near one of them
--   answer-append       the answer of two lists is the better of their answers
--   answer-none, codeword-none   where no codeword is near
--   answer_word         an answer is a message
use Rattle.std.specs.Prelude.{Bool, true, false, ◌||◌, ◌≡◌, ◌↔◌, ◌⊎◌, ℕ, ◌+◌, ◌^◌, ◌≤◌, length}
use Rattle.std.proofs.Math.Bool.{or_assoc}
use Rattle.std.proofs.Math.Path.{refl, sym, ap}
use Rattle.std.proofs.Common.{◌∙◌, subst, inl, inr, arith, pow_mono}
use mathlib.Core.List.Memᴰ
use mathlib.Core.List.{List, [], ◌∷◌, ◌++◌, Memᴰ}
use Rattle.std.proofs.Math.Logic.{⊎_elim}
use Rattle.std.proofs.Math.Option.{some, none}
use Rattle.std.proofs.Math.Dec.{T}
use Rattle.lists.specs.Count.{bit, bit_le}
use Rattle.lists.specs.Words.{Word}
use Rattle.lists.specs.Answers.{Answers, Found, answers-some, answers-unique, answers-none, answers-iff, nobody, better, better-answers, free, first_that-words, cheapest-words}
use Rattle.soft.specs.Blank.{open_at, unblanked}
use Rattle.soft.specs.BlankLaws.{unblanked-length}
use Rattle.soft.specs.TestWord.{test_words}
use Rattle.soft.specs.TestWordLaws.{test_words-count}
use Rattle.family.specs.Member.{Member, symbols}
use Rattle.near.specs.Near.{near_to, codeword_near, near, is_some, tests_near, message_cost, answer_of}

either : (a b : Bool) → T (a || b) → T a ⊎ T b
either true b t = inl tt
either false b t = inr t

or_left : (a b : Bool) → T a → T (a || b)
or_left true b t = tt
or_left false b t = absurd t

or_right : (a b : Bool) → T b → T (a || b)
or_right true b t = tt
or_right false b t = t

module _ (𝓜 : Member) (counts : ℕ → Bool) (reach : ℕ) where
  -- ---- near some test word

  pub near-append : (k : ℕ) (ts us : List (List ℕ)) (m : List ℕ) → near 𝓜 counts reach k (ts ++ us) m ≡ (near 𝓜 counts reach k ts m || near 𝓜 counts reach k us m)
  unfolding near
  near-append k [] us m = refl
  near-append k (t ∷ ts) us m = ap (λ b. near_to 𝓜 counts reach k t m || b) (near-append k ts us m) ∙ sym (or_assoc (near_to 𝓜 counts reach k t m) (near 𝓜 counts reach k ts m) (near 𝓜 counts reach k us m))

  -- near a list is near one of its test words
  pub near-member : (k : ℕ) (ts : List (List ℕ)) (m : List ℕ) → T (near 𝓜 counts reach k ts m) → (t : List ℕ) × Memᴰ t ts × T (near_to 𝓜 counts reach k t m)
  unfolding near
  near-member k [] m h = absurd h
  near-member k (t ∷ ts) m h = go (either (near_to 𝓜 counts reach k t m) (near 𝓜 counts reach k ts m) h) (near-member k ts m)
    where
      go : T (near_to 𝓜 counts reach k t m) ⊎ T (near 𝓜 counts reach k ts m) → (T (near 𝓜 counts reach k ts m) → (u : List ℕ) × Memᴰ u ts × T (near_to 𝓜 counts reach k u m))
          → (u : List ℕ) × Memᴰ u (t ∷ ts) × T (near_to 𝓜 counts reach k u m)
      go (inl a) ih = (t, Memᴰ.head refl, a)
      go (inr a) ih = let r = ih a in (r.0, Memᴰ.tail r.1, r.2)

  pub member-near : (k : ℕ) (ts : List (List ℕ)) (t m : List ℕ) → Memᴰ t ts → T (near_to 𝓜 counts reach k t m) → T (near 𝓜 counts reach k ts m)
  unfolding near
  member-near k [] t m i h = absurd (Memᴰ.not-nil i)
  member-near k (u ∷ ts) t m i h =
      ⊎_elim (λ (e : t ≡ u). or_left (near_to 𝓜 counts reach k u m) (near 𝓜 counts reach k ts m) (subst (λ x. T (near_to 𝓜 counts reach k x m)) e h))
      (λ j. or_right (near_to 𝓜 counts reach k u m) (near 𝓜 counts reach k ts m) (member-near k ts t m j h)) (Memᴰ.cases_cons i)

  -- ---- the answer

  pub near-answers : (k : ℕ) (columns : ℕ → List ℕ) (ts : List (List ℕ)) → Answers (message_cost 𝓜 k columns) (Found (symbols 𝓜) k (near 𝓜 counts reach k ts)) (answer_of 𝓜 counts reach k columns ts)
  unfolding answer_of
  near-answers k columns ts = cheapest-words (symbols 𝓜) k (message_cost 𝓜 k columns) (near 𝓜 counts reach k ts)

  pub word-answers : (k : ℕ) (word : List ℕ) → Answers free (Found (symbols 𝓜) k (near_to 𝓜 counts reach k word)) (codeword_near 𝓜 counts reach k word)
  unfolding codeword_near
  word-answers k word = first_that-words (symbols 𝓜) k (near_to 𝓜 counts reach k word)

  pub found-append : (k : ℕ) (ts us : List (List ℕ)) (m : List ℕ) → (Found (symbols 𝓜) k (near 𝓜 counts reach k ts) m ⊎ Found (symbols 𝓜) k (near 𝓜 counts reach k us) m) ↔ Found (symbols 𝓜) k (near 𝓜 counts reach k (ts ++ us)) m
  found-append k ts us m = (into, from)
    where
      into : Found (symbols 𝓜) k (near 𝓜 counts reach k ts) m ⊎ Found (symbols 𝓜) k (near 𝓜 counts reach k us) m → Found (symbols 𝓜) k (near 𝓜 counts reach k (ts ++ us)) m
      into (inl f) = record { word = f.word; passed = subst T (sym (near-append k ts us m)) (or_left (near 𝓜 counts reach k ts m) (near 𝓜 counts reach k us m) f.passed) }
      into (inr f) = record { word = f.word; passed = subst T (sym (near-append k ts us m)) (or_right (near 𝓜 counts reach k ts m) (near 𝓜 counts reach k us m) f.passed) }

      from : Found (symbols 𝓜) k (near 𝓜 counts reach k (ts ++ us)) m → Found (symbols 𝓜) k (near 𝓜 counts reach k ts) m ⊎ Found (symbols 𝓜) k (near 𝓜 counts reach k us) m
      from f =
          ⊎_elim (λ a. inl (record { word = f.word; passed = a })) (λ a. inr (record { word = f.word; passed = a }))
          (either (near 𝓜 counts reach k ts m) (near 𝓜 counts reach k us m) (subst T (near-append k ts us m) f.passed))

  pub answer-append : (k : ℕ) (columns : ℕ → List ℕ) (ts us : List (List ℕ))
      → answer_of 𝓜 counts reach k columns (ts ++ us) ≡ better (message_cost 𝓜 k columns) (answer_of 𝓜 counts reach k columns ts) (answer_of 𝓜 counts reach k columns us)
  answer-append k columns ts us =
      answers-unique (near-answers k columns (ts ++ us))
      (answers-iff (found-append k ts us) (better-answers (near-answers k columns ts) (near-answers k columns us)))

  pub answer-none : (k : ℕ) (columns : ℕ → List ℕ) (ts : List (List ℕ)) → ((m : List ℕ) → Found (symbols 𝓜) k (near 𝓜 counts reach k ts) m → ⊥) → answer_of 𝓜 counts reach k columns ts ≡ none
  answer-none k columns ts f = answers-unique (near-answers k columns ts) (nobody f)

  pub codeword-none : (k : ℕ) (word : List ℕ) → ((m : List ℕ) → Found (symbols 𝓜) k (near_to 𝓜 counts reach k word) m → ⊥) → codeword_near 𝓜 counts reach k word ≡ none
  codeword-none k word f = answers-unique (word-answers k word) (nobody f)

  pub answer_word : (k : ℕ) (columns : ℕ → List ℕ) (ts : List (List ℕ)) {m : List ℕ} → answer_of 𝓜 counts reach k columns ts ≡ some m → Word (symbols 𝓜) k m
  answer_word k columns ts e =
      (answers-some (subst (Answers (message_cost 𝓜 k columns) (Found (symbols 𝓜) k (near 𝓜 counts reach k ts))) e (near-answers k columns ts))).word

  -- ---- the count

  pub tests-nil : (k : ℕ) → tests_near 𝓜 counts reach k [] ≡ 0
  unfolding tests_near
  tests-nil k = refl

  pub tests-cons : (k : ℕ) (t : List ℕ) (ts : List (List ℕ)) → tests_near 𝓜 counts reach k (t ∷ ts) ≡ bit (is_some (codeword_near 𝓜 counts reach k t)) + tests_near 𝓜 counts reach k ts
  unfolding tests_near
  tests-cons k t ts = refl

  pub tests-append : (k : ℕ) (ts us : List (List ℕ)) → tests_near 𝓜 counts reach k (ts ++ us) ≡ tests_near 𝓜 counts reach k ts + tests_near 𝓜 counts reach k us
  tests-append k [] us = omega (arith, tests-nil k)
  tests-append k (t ∷ ts) us = omega (arith, tests-cons k t (ts ++ us), tests-cons k t ts, tests-append k ts us)

  pub tests-none : (k : ℕ) (ts : List (List ℕ)) → ((t : List ℕ) → Memᴰ t ts → codeword_near 𝓜 counts reach k t ≡ none) → tests_near 𝓜 counts reach k ts ≡ 0
  tests-none k [] h = tests-nil k
  tests-none k (t ∷ ts) h =
      omega
      (arith, tests-cons k t ts, ap (λ o. bit (is_some o)) (h t (Memᴰ.head refl)), tests-none k ts (λ u m. h u (Memᴰ.tail m)))

  pub none-near : (k : ℕ) (columns : ℕ → List ℕ) (ts : List (List ℕ)) → ((t : List ℕ) → Memᴰ t ts → (m : List ℕ) → Found (symbols 𝓜) k (near_to 𝓜 counts reach k t) m → ⊥)
      → (tests_near 𝓜 counts reach k ts ≡ 0) × (answer_of 𝓜 counts reach k columns ts ≡ none)
  none-near k columns ts far = (
    tests-none k ts (λ t i. codeword-none k t (far t i)),
    answer-none k columns ts
        (λ m f. let r = near-member k ts m f.passed in far r.0 r.1 m (record { word = f.word; passed = r.2 })),
  )

  pub tests-answerless : (k : ℕ) (columns : ℕ → List ℕ) (ts : List (List ℕ)) → answer_of 𝓜 counts reach k columns ts ≡ none → tests_near 𝓜 counts reach k ts ≡ 0
  tests-answerless k columns ts e =
      let a = subst (Answers (message_cost 𝓜 k columns) (Found (symbols 𝓜) k (near 𝓜 counts reach k ts))) e (near-answers k columns ts) in
      tests-none k ts
      (λ t i. codeword-none k t (λ m f. answers-none a m (record { word = f.word; passed = member-near k ts t m i f.passed })))

  pub tests-le : (k : ℕ) (ts : List (List ℕ)) → tests_near 𝓜 counts reach k ts ≤ length ts
  tests-le k [] = omega (arith, tests-nil k)
  tests-le k (t ∷ ts) = omega (arith, tests-cons k t ts, tests-le k ts, bit_le (is_some (codeword_near 𝓜 counts reach k t)))

  pub tests-doubled : (k n : ℕ) (columns : ℕ → List ℕ) (doubtful : List ℕ)
      → tests_near 𝓜 counts reach k (test_words n columns doubtful) ≤ 2 ^ length (unblanked (open_at columns) doubtful)
  tests-doubled k n columns doubtful = omega (arith, tests-le k (test_words n columns doubtful), test_words-count n columns doubtful)

  pub tests-tree : (k n : ℕ) (columns : ℕ → List ℕ) (doubtful : List ℕ) → tests_near 𝓜 counts reach k (test_words n columns doubtful) ≤ 2 ^ length doubtful
  tests-tree k n columns doubtful =
      let few : 2 ^ length (unblanked (open_at columns) doubtful) ≤ 2 ^ length doubtful = pow_mono (unblanked-length (open_at columns) doubtful) in
      omega (arith, tests-doubled k n columns doubtful)
