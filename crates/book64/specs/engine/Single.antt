-- What the tree answers for one test word is what the engine looks for, where the columns are blank at the places of the engine's list and nowhere else.
--
--   BlankAt blanks columns   the blank places of the columns are those of the list
--   same_number, same-reach  so there are as many, and T is the same
--   same-near                the same codeword is near, or none
--   near-open                so it is near any word with the same symbols at the places that are not in the list
--   answer-one               and it is the answer of the columns to that test word alone, at whatever cost
use Rattle.std.specs.Prelude.{Bool, true, false, ◌≡◌, refl, ◌↔◌, ℕ, ◌+◌, ◌<◌, ◌≤◌, T, length, get_or}
use Rattle.std.proofs.Common.{sym, ap, ◌∙◌, subst, inl, arith}
use Rattle.std.proofs.Math.Path.{ap₂}
use mathlib.Core.List.Memᴰ
use mathlib.Core.List.{List, [], ◌∷◌, Memᴰ}
use Rattle.std.proofs.Math.Option.{Option, some, none}
use Rattle.std.proofs.Math.Dec.{leb}
use Rattle.lists.specs.Count.{count-ext}
use Rattle.lists.specs.Answers.{Answers, Found, free, best, answers-unique, answers-some, answers-none, answers-iff}
use Rattle.soft.specs.Blank.{open_at}
use Rattle.soft.specs.BlankLaws.{open-count}
use Rattle.soft.specs.Total.{differing_in}
use Rattle.soft.specs.TotalLaws.{differing-mono, differing-comm, differing-open}
use Rattle.family.specs.Member.{m16}
use Rattle.code.specs.Encoding.{encode_of, known_rate}
use Rattle.near.specs.Near.{near_to, codeword_near}
use Rattle.near.specs.Near as Near
use Rattle.near.specs.Laws.{near-member, member-near, near-answers, word-answers, answer-none}
use Rattle.near.specs.Codeword.{near-one}
use Rattle.near.specs.Here.{reach_of, reach_in, blanks_in, blank_limit, answer_of}
use Rattle.book64.specs.Here.{places, width, fit_places}
use Rattle.book64.specs.Rates.{known-rate, rate-workable}
use Rattle.book64.specs.engine.Engine.{unblanked_by, near_by}
use Rattle.book64.specs.engine.EngineLaws.{unblanked-count, unblanked-repairs}

abbrev pub BlankAt : List ℕ → (ℕ → List ℕ) → Type 0
BlankAt blanks columns = (p : ℕ) → p < places → open_at columns p ≡ unblanked_by blanks p

module _ (blanks : List ℕ) (fit : fit_places blanks ≡ true) (columns : ℕ → List ℕ) (same : BlankAt blanks columns) where
  pub same_number : blanks_in columns ≡ length blanks
  same_number =
      omega (arith, open-count places columns, unblanked-count blanks fit, count-ext places (open_at columns) (unblanked_by blanks) same)

  pub same-reach : (k : ℕ) → reach_in k columns ≡ reach_of k (length blanks)
  same-reach k = ap (reach_of k) same_number

  differ : (u v : List ℕ) → differing_in (open_at columns) places u v ≡ differing_in (unblanked_by blanks) places u v
  differ u v =
      let a = differing-mono (open_at columns) (unblanked_by blanks) places u v (λ p l t. subst T (sym (same p l)) t) in
      let b = differing-mono (unblanked_by blanks) (open_at columns) places u v (λ p l t. subst T (same p l) t) in
      omega arith

  module _ (k : ℕ) (word : List ℕ) where
    near_same : (m : List ℕ) → near_to m16 (open_at columns) (reach_in k columns) k word m ≡ near_to m16 (unblanked_by blanks) (reach_of k (length blanks)) k word m
    unfolding near_to
    near_same m = ap₂ leb (differ (encode_of k m) word) (same-reach k)

    found-same : (m : List ℕ) → Found width k (near_to m16 (open_at columns) (reach_in k columns) k word) m
        ↔ Found width k (near_to m16 (unblanked_by blanks) (reach_of k (length blanks)) k word) m
    found-same m = (
      λ f. record { word = f.word; passed = subst T (near_same m) f.passed },
      λ f. record { word = f.word; passed = subst T (sym (near_same m)) f.passed },
    )

    pub same-near : codeword_near m16 (open_at columns) (reach_in k columns) k word ≡ near_by k blanks word
    same-near =
        answers-unique (answers-iff found-same (word-answers m16 (open_at columns) (reach_in k columns) k word))
        (word-answers m16 (unblanked_by blanks) (reach_of k (length blanks)) k word)

    module _ (known : known_rate k ≡ true) (few : length blanks ≤ blank_limit k) where
      -- near the test word alone
      alone : (m : List ℕ) → Found width k (Near.near m16 (open_at columns) (reach_in k columns) k (word ∷ [])) m
          → Found width k (near_to m16 (unblanked_by blanks) (reach_of k (length blanks)) k word) m
      alone m f =
          let r = near-member m16 (open_at columns) (reach_in k columns) k (word ∷ []) m f.passed in
          (found-same m).0
          (record {
            word = f.word;
            passed = subst (λ t. T (near_to m16 (open_at columns) (reach_in k columns) k t m)) (Memᴰ.eq_of_singleton r.1) r.2;
          })

      pub answer-one : answer_of k columns (word ∷ []) ≡ near_by k blanks word
      answer-one = go (near_by k blanks word) refl
        where
          A : Answers free (Found width k (near_to m16 (unblanked_by blanks) (reach_of k (length blanks)) k word)) (near_by k blanks word)
          A = word-answers m16 (unblanked_by blanks) (reach_of k (length blanks)) k word

          go : (o : Option (List ℕ)) → near_by k blanks word ≡ o → answer_of k columns (word ∷ []) ≡ near_by k blanks word
          go none e =
              answer-none m16 (open_at columns) (reach_in k columns) k columns (word ∷ []) (λ m f. answers-none (subst (Answers free _) e A) m (alone m f)) ∙ sym e
          go (some m) e =
              let f = answers-some (subst (Answers free _) e A) in
              answers-unique (near-answers m16 (open_at columns) (reach_in k columns) k columns (word ∷ []))
              (best
              (record {
                word = f.word;
                passed = member-near m16 (open_at columns) (reach_in k columns) k (word ∷ []) word m (Memᴰ.head refl) ((found-same m).1 f).passed;
              })
              (λ n g.
              inl
              (near-one m16 (unblanked_by blanks) (reach_of k (length blanks)) (rate-workable (known-rate k known)) word (unblanked-repairs k blanks known fit few)
              (alone n g) f)))
              ∙ sym e

-- what a word has at blank places does not count
near-alike : (k : ℕ) (blanks u v : List ℕ) → length u ≡ length v → ((p : ℕ) → p < places → unblanked_by blanks p ≡ true → get_or u p 0 ≡ get_or v p 0)
    → (m : List ℕ) → near_to m16 (unblanked_by blanks) (reach_of k (length blanks)) k u m ≡ near_to m16 (unblanked_by blanks) (reach_of k (length blanks)) k v m
unfolding near_to
near-alike k blanks u v long same m =
    ap (λ d. leb d (reach_of k (length blanks)))
    (differing-comm (unblanked_by blanks) places (encode_of k m) u ∙ differing-open (unblanked_by blanks) places u v (encode_of k m) long same
    ∙ differing-comm (unblanked_by blanks) places v (encode_of k m))

pub near-open : (k : ℕ) (blanks u v : List ℕ) → length u ≡ length v → ((p : ℕ) → p < places → unblanked_by blanks p ≡ true → get_or u p 0 ≡ get_or v p 0)
    → near_by k blanks u ≡ near_by k blanks v
near-open k blanks u v long same =
    answers-unique (answers-iff both (word-answers m16 (unblanked_by blanks) (reach_of k (length blanks)) k u))
    (word-answers m16 (unblanked_by blanks) (reach_of k (length blanks)) k v)
  where
    test : (m : List ℕ) → near_to m16 (unblanked_by blanks) (reach_of k (length blanks)) k u m ≡ near_to m16 (unblanked_by blanks) (reach_of k (length blanks)) k v m
    test m = near-alike k blanks u v long same m

    both : (m : List ℕ) → Found width k (near_to m16 (unblanked_by blanks) (reach_of k (length blanks)) k u) m
        ↔ Found width k (near_to m16 (unblanked_by blanks) (reach_of k (length blanks)) k v) m
    both m = (
      λ f. record { word = f.word; passed = subst T (test m) f.passed },
      λ f. record { word = f.word; passed = subst T (sym (test m)) f.passed },
    )
