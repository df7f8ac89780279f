-- Words that one codeword alone can be within T of: a codeword that is close enough to a word is so, and the test words are then only counted. For
-- every member, any T and any places that count.
--
--   Outside n ps u v          v is a word of n places that has the symbols of u at all places but ps
--   expand-outside            the test words of a tree are such words
--   written-outside           so is a word that is written at the places ps
--   filled_of n c word ps      the word with the symbols of c at the places ps, each taken below n
--   Governed k c t            so few of the places that count are places where c and t differ that no other codeword than c is within T of t
--   governed-outside          where c and the filled word differ in few enough places, it is so for every word outside ps
--   Only k m t                no message but m has its codeword within T of t
--   governed-only             so it is where the codeword of m governs t
--   only-near, only-far       then it is the codeword within T, if it is, and else there is none; governed-here: whether there is one
--   within-tests, within-some, within_none   so test words that m alone can be near are only counted: how many are near, and the answer
use Rattle.std.specs.Prelude.{Bool, not, ◌&&◌, ◌||◌, ◌≡◌, ℕ, ◌+◌, ◌%◌, ◌<◌, ◌≤◌, length, get_or, set}
use Rattle.std.proofs.Math.Bool.{true, false, false≢true}
use Rattle.std.proofs.Math.Path.{refl, sym, ap, subst}
use Rattle.std.proofs.Common.{◌∙◌, inl, length-set, le-leb}
use mathlib.Core.List.{List, [], ◌∷◌, Memᴰ}
use Rattle.std.proofs.Math.Logic.{⊎_elim}
use Rattle.std.proofs.Math.Option.{some, none}
use Rattle.std.proofs.Math.Nat.{mod-eq_of_lt}
use native.Mathlib.Omega.{arith}
use Rattle.std.proofs.Math.Dec.{T, leb, leb→le}
use Rattle.std.proofs.Math.Seq.{get_or-set_other}
use Rattle.lists.specs.Every.{both_right}
use Rattle.lists.specs.Count.{bit, count}
use Rattle.lists.specs.Distinct.{among, among-member}
use Rattle.lists.specs.Different.{count-among}
use Rattle.lists.specs.Words.{Word, Lex, lex-asym, lex-or}
use Rattle.lists.specs.Answers.{Found, best, answers-unique}
use Rattle.soft.specs.Total.{symbol_at, differing_in, differ_at}
use Rattle.soft.specs.TotalLaws.{agree-true, differing-triangle, differing-comm}
use Rattle.soft.specs.TestWord.{expand}
use Rattle.soft.specs.TestWordLaws.{expand-length, expand-settled}
use Rattle.family.specs.Member.{Member, symbols, places}
use Rattle.family.specs.Encoding.{encode_of}
use Rattle.near.specs.Near.{m_of, near_to, codeword_near, near, is_some, tests_near, answer_of}
use Rattle.near.specs.Reach.{Workable}
use Rattle.near.specs.Distance.{codewords-apart}
use Rattle.near.specs.Laws.{near-member, near-answers, word-answers, answer-none, codeword-none, tests-nil, tests-cons}
use Rattle.near.specs.Tree.{Places, places_nil, places_cons}
use Rattle.near.specs.Written.{written_of}
use Rattle.near.specs.Within.{tests_within, within-nil, within-cons}

-- ---- words that have the same symbols but at some places differ in no more than these

module _ (n : ℕ) where
  pub record Outside (ps u v : List ℕ) : Type 0 where
    pub size : length v ≡ n
    pub same : (p : ℕ) → ¬ Memᴰ p ps → get_or v p 0 ≡ get_or u p 0

  outside-differing : (counts : ℕ → Bool) {ps word u v : List ℕ} → Outside ps word u → Outside ps word v → differing_in counts n u v ≤ length ps
  unfolding differing_in
  outside-differing counts {ps} {word} {u} {v} a b =
      count-among ps n (λ p. counts p && differ_at u v p) (λ p l t. go p l (both_right (counts p) (differ_at u v p) t) (among p ps) refl)
    where
      go : (p : ℕ) → p < n → T (differ_at u v p) → (b : Bool) → among p ps ≡ b → b ≡ true
      go p l t true e = refl
      go p l t false e =
          let out : ¬ Memᴰ p ps = λ m. false≢true (sym e ∙ among-member m) in
          absurd (subst (λ c. T (not c)) (agree-true u v p (omega (arith, a.size)) (omega (arith, b.size)) (a.same p out ∙ sym (b.same p out))) t)

  pub expand-outside : (columns : ℕ → List ℕ) (word ps : List ℕ) → length word ≡ n → (t : List ℕ) → Memᴰ t (expand columns word ps) → Outside ps word t
  expand-outside columns word ps l t i =
      record { size = expand-length columns word ps t i ∙ l; same = λ p out. expand-settled columns word ps t i p out }

  pub written-outside : (symbol : ℕ → ℕ) {ps : List ℕ} → Places n ps → (word : List ℕ) → length word ≡ n → Outside ps word (written_of n symbol word ps)
  unfolding written_of
  written-outside symbol places_nil word l = record { size = l; same = λ p o. refl }
  written-outside symbol (places_cons {p} {ps} h fresh P) word l =
      let s = symbol (p % n) in
      let r = written-outside symbol P (set word (p % n) s) (length-set word (p % n) s ∙ l) in
      record {
        size = r.size;
        same = λ q o.
            r.same q (λ m. o (mathlib.Core.List.Memᴰ.tail m)) ∙ get_or-set_other word (p % n) q s 0 (λ e. o (mathlib.Core.List.Memᴰ.head (e ∙ mod-eq_of_lt h)));
      }

  abbrev pub filled_of : List ℕ → List ℕ → List ℕ → List ℕ
  filled_of c word ps = written_of n (symbol_at c) word ps

module _ (𝓜 : Member) (counts : ℕ → Bool) (reach : ℕ) where
  abbrev pub Governed : ℕ → List ℕ → List ℕ → Type 0
  Governed k c t = differing_in counts (places 𝓜) c t + reach + m_of 𝓜 k < count (places 𝓜) counts

  abbrev pub Only : ℕ → List ℕ → List ℕ → Type 0
  Only k m t = (n : List ℕ) → Found (symbols 𝓜) k (near_to 𝓜 counts reach k t) n → n ≡ m

  pub governed-outside : (k : ℕ) (c word : List ℕ) {ps : List ℕ} → Places (places 𝓜) ps → length word ≡ places 𝓜
      → differing_in counts (places 𝓜) c (filled_of (places 𝓜) c word ps) + length ps + reach + m_of 𝓜 k < count (places 𝓜) counts
      → (t : List ℕ) → Outside (places 𝓜) ps word t → Governed k c t
  governed-outside k c word {ps} P size close t o =
      omega (
        arith,
        close,
        differing-triangle counts (places 𝓜) c (filled_of (places 𝓜) c word ps) t,
        outside-differing (places 𝓜) counts (written-outside (places 𝓜) (symbol_at c) P word size) o,
      )

  -- ---- near one codeword there is no other

  module _ {k : ℕ} (rate : Workable 𝓜 k) {m : List ℕ} (w : Word (symbols 𝓜) k m) where
    pub governed-only : (t n : List ℕ) → Governed k (encode_of 𝓜 k m) t → Found (symbols 𝓜) k (near_to 𝓜 counts reach k t) n → n ≡ m
    unfolding near_to
    governed-only t n close f =
        ⊎_elim (λ l. absurd (far (λ e. lex-asym m n l (subst (λ x. Lex n x) (sym e) (subst (λ x. Lex x n) e l)))))
        (⊎_elim (λ e. e) (λ l. absurd (far (λ e. lex-asym n m l (subst (λ x. Lex m x) e (subst (λ x. Lex x m) (sym e) l)))))) (lex-or m n)
      where
        far : (m ≡ n → ⊥) → ⊥
        far other =
            omega (
              arith,
              codewords-apart 𝓜 counts rate w f.word other,
              differing-triangle counts (places 𝓜) (encode_of 𝓜 k m) t (encode_of 𝓜 k n),
              differing-comm counts (places 𝓜) t (encode_of 𝓜 k n),
              leb→le (differing_in counts (places 𝓜) (encode_of 𝓜 k n) t) reach f.passed,
            )

    module _ (t : List ℕ) (only : Only k m t) where
      pub only-near : near_to 𝓜 counts reach k t m ≡ true → codeword_near 𝓜 counts reach k t ≡ some m
      only-near e = answers-unique (word-answers 𝓜 counts reach k t) (best (record { word = w; passed = subst T (sym e) tt }) (λ n f. inl (only n f)))

      pub only-far : near_to 𝓜 counts reach k t m ≡ false → codeword_near 𝓜 counts reach k t ≡ none
      only-far e = codeword-none 𝓜 counts reach k t (λ n f. subst T (ap (near_to 𝓜 counts reach k t) (only n f) ∙ e) f.passed)

      pub governed-here : is_some (codeword_near 𝓜 counts reach k t) ≡ near_to 𝓜 counts reach k t m
      governed-here = go (near_to 𝓜 counts reach k t m) refl
        where
          go : (b : Bool) → near_to 𝓜 counts reach k t m ≡ b → is_some (codeword_near 𝓜 counts reach k t) ≡ b
          go true e = ap is_some (only-near e)
          go false e = ap is_some (only-far e)

    pub within-tests : (ts : List (List ℕ)) → ((t : List ℕ) → Memᴰ t ts → Only k m t)
        → tests_near 𝓜 counts reach k ts ≡ tests_within 𝓜 counts reach (encode_of 𝓜 k m) ts
    unfolding near_to
    within-tests [] only = tests-nil 𝓜 counts reach k ∙ sym (within-nil 𝓜 counts reach (encode_of 𝓜 k m))
    within-tests (t ∷ ts) only =
        omega (
          arith,
          tests-cons 𝓜 counts reach k t ts,
          within-cons 𝓜 counts reach (encode_of 𝓜 k m) t ts,
          ap bit (governed-here t (only t (mathlib.Core.List.Memᴰ.head refl))),
          within-tests ts (λ u i. only u (mathlib.Core.List.Memᴰ.tail i)),
        )

    within-near : (ts : List (List ℕ)) → 0 < tests_within 𝓜 counts reach (encode_of 𝓜 k m) ts → T (near 𝓜 counts reach k ts m)
    unfolding near_to near
    within-near [] h = absurd (omega (arith, within-nil 𝓜 counts reach (encode_of 𝓜 k m)))
    within-near (t ∷ ts) h = go (leb (differing_in counts (places 𝓜) (encode_of 𝓜 k m) t) reach) refl (within-near ts)
      where
        go : (b : Bool) → leb (differing_in counts (places 𝓜) (encode_of 𝓜 k m) t) reach ≡ b
            → (0 < tests_within 𝓜 counts reach (encode_of 𝓜 k m) ts → T (near 𝓜 counts reach k ts m))
            → T (near_to 𝓜 counts reach k t m || near 𝓜 counts reach k ts m)
        go true e ih = subst (λ b. T (b || near 𝓜 counts reach k ts m)) (sym e) tt
        go false e ih = subst (λ b. T (b || near 𝓜 counts reach k ts m)) (sym e) (ih (omega (arith, within-cons 𝓜 counts reach (encode_of 𝓜 k m) t ts, ap bit e)))

    near_within : (ts : List (List ℕ)) (t : List ℕ) → Memᴰ t ts → T (near_to 𝓜 counts reach k t m) → 0 < tests_within 𝓜 counts reach (encode_of 𝓜 k m) ts
    unfolding near_to
    near_within [] t i h = absurd (mathlib.Core.List.Memᴰ.not-nil i)
    near_within (u ∷ ts) t i h =
        ⊎_elim
        (λ (e : t ≡ u).
        omega (
          arith,
          within-cons 𝓜 counts reach (encode_of 𝓜 k m) u ts,
          ap bit
              (le-leb (differing_in counts (places 𝓜) (encode_of 𝓜 k m) u) reach
              (subst (λ v. differing_in counts (places 𝓜) (encode_of 𝓜 k m) v ≤ reach) e (leb→le (differing_in counts (places 𝓜) (encode_of 𝓜 k m) t) reach h))),
        ))
        (λ j. omega (arith, within-cons 𝓜 counts reach (encode_of 𝓜 k m) u ts, near_within ts t j h)) (mathlib.Core.List.Memᴰ.cases_cons i)

    module _ (columns : ℕ → List ℕ) (ts : List (List ℕ)) (only : (t : List ℕ) → Memᴰ t ts → Only k m t) where
      pub within-some : 0 < tests_within 𝓜 counts reach (encode_of 𝓜 k m) ts → answer_of 𝓜 counts reach k columns ts ≡ some m
      within-some some_one =
          answers-unique (near-answers 𝓜 counts reach k columns ts)
          (best (record { word = w; passed = within-near ts some_one })
          (λ n f.
          let r = near-member 𝓜 counts reach k ts n f.passed in
          inl (only r.0 r.1 n (record { word = f.word; passed = r.2 }))))

      pub within_none : tests_within 𝓜 counts reach (encode_of 𝓜 k m) ts ≡ 0 → answer_of 𝓜 counts reach k columns ts ≡ none
      within_none e =
          answer-none 𝓜 counts reach k columns ts
          (λ n f.
          let r = near-member 𝓜 counts reach k ts n f.passed in
          let q = only r.0 r.1 n (record { word = f.word; passed = r.2 }) in
          omega (arith, near_within ts r.0 r.1 (subst (λ x. T (near_to 𝓜 counts reach k r.0 x)) q r.2)))
