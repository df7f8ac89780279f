-- Laws of the test words.
--
--   expand-nil, expand-cons   the definition step by step
--   test_words-none         where nothing is doubtful the word of best symbols is the only test word
--   expand-count, test_words-count     d doubtful places that are not blank make 2 ^ d test words
--   expand-length, test_words-length   each has as many places as the word that it is made of
--   test_words-kept         each carries the best symbol at every place that is not doubled; testWords-settled: at every place that is not in the list,
--   test_words-blank        at every blank place,
--   test_words-symbol       and the best or the second symbol at every place
--   test_words-first        the first carries the best symbol everywhere
--   test_words-different    no two are equal: different doubtful places, each with two symbols at least, make different words
--   chosen-test            whichever of the two symbols is chosen at each doubtful place that is not blank, a test word has the chosen ones
--   best_word-length, best_word-at   the word of best symbols
use Rattle.std.specs.Prelude.{true, not, ◌≡◌, ◌≢◌, ◌⊎◌, ℕ, ◌+◌, ◌^◌, ◌<◌, ◌≤◌, length, get_or, set}
use Rattle.std.proofs.Common.{true≢false, sym, ap₂, ◌∙◌, subst, inl, inr, ⊎_elim, pow-suc, arith, length-append, length-set, get_or-set_same, get_or-set_other}
use Rattle.std.proofs.Math.Path.{refl, ap}
use mathlib.Core.List.{List, [], ◌∷◌, ◌++◌, Memᴰ}
use Rattle.std.proofs.Math.Decide.{dec_le, ℕ_discrete}
use Rattle.std.proofs.lemmas.List.{set-get_or}
use Rattle.std.proofs.Math.Seq.{set_out}
use Rattle.lists.specs.Listed.{listed-length, listed_at}
use Rattle.lists.specs.Different.{Different, different_nil, different_cons, different-append}
use Rattle.soft.specs.Column.{is_blank}
use Rattle.soft.specs.Blank.{open_at, unblanked}
use Rattle.soft.specs.BlankLaws.{unblanked-nil, unblanked-member, member-unblanked, unblanked-different}
use Rattle.soft.specs.TestWord.{best_at, second_at, Offered, best_word, expand, test_words}
use Rattle.soft.specs.ColumnLaws.{second-other}

module _ (columns : ℕ → List ℕ) where
  pub expand-nil : (word : List ℕ) → expand columns word [] ≡ word ∷ []
  unfolding expand
  expand-nil word = refl

  pub test_words-none : (n : ℕ) → test_words n columns [] ≡ best_word n columns ∷ []
  unfolding test_words
  test_words-none n = ap (expand columns (best_word n columns)) (unblanked-nil (open_at columns)) ∙ expand-nil (best_word n columns)

  pub expand-cons : (word : List ℕ) (p : ℕ) (ps : List ℕ)
      → expand columns word (p ∷ ps) ≡ expand columns (set word p (best_at columns p)) ps ++ expand columns (set word p (second_at columns p)) ps
  unfolding expand
  expand-cons word p ps = refl

  pub expand-count : (word ps : List ℕ) → length (expand columns word ps) ≡ 2 ^ length ps
  expand-count word [] = ap length (expand-nil word)
  expand-count word (p ∷ ps) =
      ap length (expand-cons word p ps)
      ∙ length-append (expand columns (set word p (best_at columns p)) ps) (expand columns (set word p (second_at columns p)) ps)
      ∙ omega (arith, expand-count (set word p (best_at columns p)) ps, expand-count (set word p (second_at columns p)) ps, pow-suc 2 (length ps))

  -- a member is made of the first branch or of the second
  expand-cases : (word : List ℕ) (p : ℕ) (ps t : List ℕ) → Memᴰ t (expand columns word (p ∷ ps))
      → Memᴰ t (expand columns (set word p (best_at columns p)) ps) ⊎ Memᴰ t (expand columns (set word p (second_at columns p)) ps)
  unfolding expand
  expand-cases word p ps t m = mathlib.Core.List.Memᴰ.append_cases (expand columns (set word p (best_at columns p)) ps) m

  expand-single : (word t : List ℕ) → Memᴰ t (expand columns word []) → t ≡ word
  unfolding expand
  expand-single word t m = mathlib.Core.List.Memᴰ.eq_of_singleton m

  pub expand-length : (word ps t : List ℕ) → Memᴰ t (expand columns word ps) → length t ≡ length word
  expand-length word [] t m = ap length (expand-single word t m)
  expand-length word (p ∷ ps) t m =
      ⊎_elim (λ a. expand-length (set word p (best_at columns p)) ps t a ∙ length-set word p (best_at columns p))
      (λ a. expand-length (set word p (second_at columns p)) ps t a ∙ length-set word p (second_at columns p))
      (expand-cases word p ps t m)

  -- what is not doubled stays
  pub expand-settled : (word ps t : List ℕ) → Memᴰ t (expand columns word ps) → (k : ℕ) → (Memᴰ k ps → ⊥) → get_or t k 0 ≡ get_or word k 0
  expand-settled word [] t m k out = ap (λ (w : List ℕ). get_or w k 0) (expand-single word t m)
  expand-settled word (p ∷ ps) t m k out =
      let other : k ≢ p = λ e. out (mathlib.Core.List.Memᴰ.head e) in
      let rest : Memᴰ k ps → ⊥ = λ a. out (mathlib.Core.List.Memᴰ.tail a) in
      ⊎_elim
      (λ a. expand-settled (set word p (best_at columns p)) ps t a k rest ∙ get_or-set_other word p k (best_at columns p) 0 other)
      (λ a. expand-settled (set word p (second_at columns p)) ps t a k rest ∙ get_or-set_other word p k (second_at columns p) 0 other)
      (expand-cases word p ps t m)

  -- the words of the two branches of a place differ there
  expand-different : (word : List ℕ) {ps : List ℕ} → Different ps → ((p : ℕ) → Memᴰ p ps → (p < length word) × (second_at columns p ≢ best_at columns p))
      → Different (expand columns word ps)
  expand-different word different_nil h = subst Different (sym (expand-nil word)) (different_cons mathlib.Core.List.Memᴰ.not-nil different_nil)
  expand-different word (different_cons {a = p} {l = ps} fresh d) h =
      subst Different (sym (expand-cons word p ps))
      (different-append (expand columns (set word p (second_at columns p)) ps)
      (expand-different (set word p (best_at columns p)) d (λ q m. (rw length-set (h q (mathlib.Core.List.Memᴰ.tail m)).0, (h q (mathlib.Core.List.Memᴰ.tail m)).1)))
      (expand-different (set word p (second_at columns p)) d (λ q m. (rw length-set (h q (mathlib.Core.List.Memᴰ.tail m)).0, (h q (mathlib.Core.List.Memᴰ.tail m)).1)))
      (λ t a b. (h p (mathlib.Core.List.Memᴰ.head refl)).1 (sym (there (second_at columns p) t b) ∙ there (best_at columns p) t a)))
    where
      there : (x : ℕ) (t : List ℕ) → Memᴰ t (expand columns (set word p x) ps) → get_or t p 0 ≡ x
      there x t m = expand-settled (set word p x) ps t m p fresh ∙ get_or-set_same word p x 0 (h p (mathlib.Core.List.Memᴰ.head refl)).0

  -- at each place below the length: what the word has there, or the best or the second symbol
  set-either : (word : List ℕ) (p k x : ℕ) → k < length word → ((k ≡ p) → Offered columns k x) → Offered columns k (get_or word k 0)
      → Offered columns k (get_or (set word p x) k 0)
  set-either word p k x l new old = go (ℕ_discrete k p)
    where
      go : Dec (k ≡ p) → Offered columns k (get_or (set word p x) k 0)
      go (yes e) =
          subst (λ (y : ℕ). Offered columns k y)
          (sym (ap (λ j. get_or (set word p x) j 0) e ∙ get_or-set_same word p x 0 (subst (λ j. j < length word) e l))) (new e)
      go (no e) = subst (λ (y : ℕ). Offered columns k y) (sym (get_or-set_other word p k x 0 e)) old

  expand-either : (word ps t : List ℕ) → Memᴰ t (expand columns word ps) → (k : ℕ) → k < length word → Offered columns k (get_or word k 0)
      → Offered columns k (get_or t k 0)
  expand-either word [] t m k l e = subst (λ (w : List ℕ). Offered columns k (get_or w k 0)) (sym (expand-single word t m)) e
  expand-either word (p ∷ ps) t m k l e =
      ⊎_elim
      (λ a.
      expand-either (set word p (best_at columns p)) ps t a k (rw length-set l)
      (set-either word p k (best_at columns p) l (λ q. inl (ap (best_at columns) (sym q))) e))
      (λ a.
      expand-either (set word p (second_at columns p)) ps t a k (rw length-set l)
      (set-either word p k (second_at columns p) l (λ q. inr (ap (second_at columns) (sym q))) e))
      (expand-cases word p ps t m)

pub best_word-length : (n : ℕ) (columns : ℕ → List ℕ) → length (best_word n columns) ≡ n
unfolding best_word
best_word-length n columns = listed-length n (best_at columns)

pub best_word-at : (n : ℕ) (columns : ℕ → List ℕ) (p : ℕ) → p < n → get_or (best_word n columns) p 0 ≡ best_at columns p
unfolding best_word
best_word-at n columns p l = listed_at n p (best_at columns) 0 l

-- the best symbol, where it stands already, changes nothing
best-again : (n : ℕ) (columns : ℕ → List ℕ) (p : ℕ) → set (best_word n columns) p (best_at columns p) ≡ best_word n columns
best-again n columns p = go (dec_le n p)
  where
    go : Dec (n ≤ p) → set (best_word n columns) p (best_at columns p) ≡ best_word n columns
    go (yes l) = set_out (best_word n columns) p (best_at columns p) (omega (arith, best_word-length n columns))
    go (no l) =
        ap (λ x. set (best_word n columns) p x) (sym (best_word-at n columns p (omega arith))) ∙ set-get_or (best_word n columns) p 0

expand-first : (n : ℕ) (columns : ℕ → List ℕ) (ps : List ℕ)
    → (rest : List (List ℕ)) × (expand columns (best_word n columns) ps ≡ best_word n columns ∷ rest)
expand-first n columns [] = ([], expand-nil columns (best_word n columns))
expand-first n columns (p ∷ ps) =
    let r = expand-first n columns ps in
    let second = expand columns (set (best_word n columns) p (second_at columns p)) ps in (
      r.0 ++ second,
      expand-cons columns (best_word n columns) p ps
          ∙ ap (λ (w : List ℕ). expand columns w ps ++ second) (best-again n columns p)
          ∙ ap (λ (l : List (List ℕ)). l ++ second) r.1,
    )

module _ (n : ℕ) (columns : ℕ → List ℕ) (doubtful : List ℕ) where
  -- the places that are doubled
  abbrev pub doubled : List ℕ
  doubled = unblanked (open_at columns) doubtful

  pub test_words-count : length (test_words n columns doubtful) ≡ 2 ^ length doubled
  unfolding test_words
  test_words-count = expand-count columns (best_word n columns) doubled

  pub test_words-first : (rest : List (List ℕ)) × (test_words n columns doubtful ≡ best_word n columns ∷ rest)
  unfolding test_words
  test_words-first = expand-first n columns doubled

  module _ (t : List ℕ) (m : Memᴰ t (test_words n columns doubtful)) where
    pub test_words-length : length t ≡ n
    unfolding test_words
    test_words-length = expand-length columns (best_word n columns) doubled t m ∙ best_word-length n columns

    -- what is not doubled carries its best symbol
    pub test_words-kept : (p : ℕ) → p < n → (Memᴰ p doubled → ⊥) → get_or t p 0 ≡ best_at columns p
    unfolding test_words
    test_words-kept p l out = expand-settled columns (best_word n columns) doubled t m p out ∙ best_word-at n columns p l

    pub test_words-settled : (p : ℕ) → p < n → (Memᴰ p doubtful → ⊥) → get_or t p 0 ≡ best_at columns p
    test_words-settled p l out = test_words-kept p l (λ i. out (unblanked-member (open_at columns) doubtful p i).0)

    pub test_words-blank : (p : ℕ) → p < n → is_blank (columns p) ≡ true → get_or t p 0 ≡ best_at columns p
    test_words-blank p l e =
        test_words-kept p l
        (λ i. true≢false (sym (unblanked-member (open_at columns) doubtful p i).1 ∙ ap not e))

    pub test_words-symbol : (p : ℕ) → p < n → Offered columns p (get_or t p 0)
    unfolding test_words
    test_words-symbol p l =
        expand-either columns (best_word n columns) doubled t m p (omega (arith, best_word-length n columns)) (inl (best_word-at n columns p l))

pub test_words-different : (n : ℕ) (columns : ℕ → List ℕ) {doubtful : List ℕ} → Different doubtful → ((p : ℕ) → Memᴰ p doubtful → p < n)
    → ((p : ℕ) → Memᴰ p doubtful → 1 < length (columns p)) → Different (test_words n columns doubtful)
unfolding test_words
test_words-different n columns {doubtful} d b two =
    expand-different columns (best_word n columns) (unblanked-different (open_at columns) d)
    (λ p m.
    let i = (unblanked-member (open_at columns) doubtful p m).0 in
    (omega (arith, best_word-length n columns, b p i), second-other (columns p) (two p i)))

module _ (columns : ℕ → List ℕ) (symbol : ℕ → ℕ) where
  -- what is chosen already stays chosen
  set-chosen : (word : List ℕ) (q p : ℕ) → p < length word → (p ≡ q) ⊎ (get_or word p 0 ≡ symbol p) → get_or (set word q (symbol q)) p 0 ≡ symbol p
  set-chosen word q p l c = go (ℕ_discrete p q) c
    where
      go : Dec (p ≡ q) → (p ≡ q) ⊎ (get_or word p 0 ≡ symbol p) → get_or (set word q (symbol q)) p 0 ≡ symbol p
      go (yes e) d =
          ap (λ j. get_or (set word q (symbol q)) j 0) e ∙ get_or-set_same word q (symbol q) 0 (subst (λ j. j < length word) e l) ∙ ap symbol (sym e)
      go (no e) (inl f) = absurd (e f)
      go (no e) (inr f) = get_or-set_other word q p (symbol q) 0 e ∙ f

  -- one doubtful place more, in the first branch of the tree or in the second
  branch : (word : List ℕ) (q : ℕ) (ps t : List ℕ) → Offered columns q (symbol q) → Memᴰ t (expand columns (set word q (symbol q)) ps)
      → Memᴰ t (expand columns word (q ∷ ps))
  branch word q ps t (inl e) m =
      subst (Memᴰ t) (sym (expand-cons columns word q ps))
      (mathlib.Core.List.Memᴰ.append_left (expand columns (set word q (second_at columns q)) ps) (subst (λ x. Memᴰ t (expand columns (set word q x) ps)) e m))
  branch word q ps t (inr e) m =
      subst (Memᴰ t) (sym (expand-cons columns word q ps))
      (mathlib.Core.List.Memᴰ.append_right (expand columns (set word q (best_at columns q)) ps) (subst (λ x. Memᴰ t (expand columns (set word q x) ps)) e m))

  expand-chosen : (word ps : List ℕ) → ((p : ℕ) → Memᴰ p ps → Offered columns p (symbol p))
      → (t : List ℕ) × Memᴰ t (expand columns word ps)
      × ((p : ℕ) → p < length word → Memᴰ p ps ⊎ (get_or word p 0 ≡ symbol p) → get_or t p 0 ≡ symbol p)
  expand-chosen word [] h = (
    word,
    subst (Memᴰ word) (sym (expand-nil columns word)) (mathlib.Core.List.Memᴰ.head refl),
    λ p l c. ⊎_elim (λ m. absurd (mathlib.Core.List.Memᴰ.not-nil m)) (λ e. e) c,
  )
  expand-chosen word (q ∷ ps) h =
      let r = expand-chosen (set word q (symbol q)) ps (λ p m. h p (mathlib.Core.List.Memᴰ.tail m)) in (
        r.0,
        branch word q ps r.0 (h q (mathlib.Core.List.Memᴰ.head refl)) r.1,
        λ p l c.
            r.2 p (rw length-set l)
            (⊎_elim
            (λ m. ⊎_elim (λ e. inr (set-chosen word q p l (inl e))) (λ i. inl i) (mathlib.Core.List.Memᴰ.cases_cons m))
            (λ e. inr (set-chosen word q p l (inr e)))
            c),
      )

  pub chosen-test : (n : ℕ) (doubtful : List ℕ) → ((p : ℕ) → Memᴰ p doubtful → open_at columns p ≡ true → Offered columns p (symbol p))
      → (t : List ℕ) × Memᴰ t (test_words n columns doubtful)
      × ((p : ℕ) → p < n → Memᴰ p doubtful → open_at columns p ≡ true → get_or t p 0 ≡ symbol p)
  unfolding test_words
  chosen-test n doubtful h =
      let r =
      expand-chosen (best_word n columns) (unblanked (open_at columns) doubtful)
      (λ p m. let i = unblanked-member (open_at columns) doubtful p m in h p i.0 i.1) in (
        r.0,
        r.1,
        λ p l m c. r.2 p (omega (arith, best_word-length n columns)) (inl (member-unblanked (open_at columns) doubtful p m c)),
      )
