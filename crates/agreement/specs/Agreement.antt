-- Engine and tree agree on the codeword of one test word or its absence, for every rate, test word and list of blank places: what the contracts of the
-- two codes say together.
--
--   Agrees call f       the call says 'none near' exactly where the search has no answer, and writes the codeword of the search's answer
--   engine-agrees       so it is with whatever is found among the one test word,
--   engine-search       which is what the contract of `tree::search` says of a node at which no place is left to decide,
--   engine-branch       that of `tree::branch` of a branch that decides the last place,
--   engine-nearest      and that of `chase::nearest` where nothing is doubtful, of a word with the best symbols at the places that are not blank
--   agrees-by           all of these, by the answer to a test word that may be another where places are blank
use Rattle.std.specs.Prelude.{true, ◌≡◌, refl, List, [], ◌∷◌, ◌↔◌, ℕ, ◌<◌, length, get_or, take, set}
use Rattle.std.proofs.Common.{sym, ap, ◌∙◌, subst, arith}
use Rattle.std.proofs.Math.Option.{Option, some, none}
use Rattle.refusals.specs.Refusal.{accepted, none_near}
use Rattle.code.specs.Rates.{known-bounds}
use Rattle.soft.specs.Column.{symbols, column_of}
use Rattle.soft.specs.TestWord.{best_at, best_word, test_words}
use Rattle.soft.specs.TestWordLaws.{expand-nil, test_words-none, best_word-length, best_word-at}
use Rattle.near.specs.Here.{answer_of, Places}
use Rattle.near.specs.Tree.{places_nil}
use Rattle.answer.specs.declared.Answer.{Answer}
use Rattle.answer.specs.declared.Answer.TheVariants.{NoneNear, Near}
use Rattle.answers.specs.declared.Finding.{Finding}
use Rattle.answers.specs.Result.{total-near}
use Rattle.answers.specs.Nearest.{Nearest, nearest-nobody, nearest-somebody}
use Rattle.answers.specs.Answered.{Sound, found-sound}
use Rattle.tree.specs.Searching.{Ready, SearchOf, BranchOf}
use Rattle.chase.specs.Call.{Asked, nearest_of}
use Rattle.chase.specs.Laws.{nearest-asked, nearest-call}
use Rattle.book64.specs.Here.{places}
use Rattle.book64.specs.engine.Engine.{unblanked_by, near_by, Eliminated, engine_of}
use Rattle.book64.specs.engine.EngineLaws.{EnginePassed, engine-none, engine-some, engine-fits}
use Rattle.book64.specs.engine.Single.{BlankAt, answer-one, near-open}

pub record Agrees (call : Eliminated) (f : Finding) : Type 0 where
  pub nobody : (call.number ≡ none_near) ↔ (f.answer ≡ NoneNear)
  pub somebody : (call.number ≡ accepted) ↔ ((f.answer ≡ NoneNear) → ⊥)
  pub same : call.number ≡ accepted → call.codeword ≡ f.codeword

none≢some : {m : List ℕ} → ◌≡◌ {A = Option (List ℕ)} none (some m) → ⊥
none≢some e = subst (λ (o : Option (List ℕ)). go o) e tt
  where
    go : Option (List ℕ) → Type 0
    go none = Unit {0}
    go (some m) = ⊥

-- by the answer of the columns to a test word, where that is what the engine looks for
module _ (k : ℕ) (word blanks codeword q : List ℕ) (P : EnginePassed k word blanks (length codeword) (length q)) (columns : ℕ → List ℕ) (test : List ℕ)
    (answer-is : answer_of k columns (test ∷ []) ≡ near_by k blanks word) where
  pub agrees-by : {f : Finding} → Nearest k columns (test ∷ []) f → Sound k columns f → Agrees (engine_of k word blanks codeword q) f
  agrees-by {f} N S = go f.answer refl
    where
      go : (a : Answer) → f.answer ≡ a → Agrees (engine_of k word blanks codeword q) f
      go NoneNear e =
          let n = ap (λ (c : Eliminated). c.number) (engine-none k word blanks codeword q (engine-fits k word blanks codeword q P) (sym answer-is ∙ nearest-nobody N e)) in
          record {
            nobody = ((λ z. e), (λ z. n));
            somebody = ((λ z. absurd (omega (arith, sym n ∙ z))), (λ z. absurd (z e)));
            same = λ z. absurd (omega (arith, sym n ∙ z));
          }
      go (Near t d) e =
          let s = nearest-somebody N t (total-near e) in
          let c = engine-some k word blanks codeword q (engine-fits k word blanks codeword q P) (sym answer-is ∙ s.0) in
          let n = ap (λ (c : Eliminated). c.number) c in
          let other : f.answer ≡ NoneNear → ⊥ = λ z. none≢some (sym (nearest-nobody N z) ∙ s.0) in
          record {
            nobody = ((λ z. absurd (omega (arith, sym n ∙ z))), (λ z. absurd (other z)));
            somebody = ((λ z. other), (λ z. n));
            same = λ z. ap (λ (c : Eliminated). c.codeword) c ∙ sym S.encoded;
          }

module _ (k : ℕ) (word blanks codeword q : List ℕ) (P : EnginePassed k word blanks (length codeword) (length q)) (columns : ℕ → List ℕ)
    (blank : BlankAt blanks columns) where
  abbrev call : Eliminated
  call = engine_of k word blanks codeword q

  pub engine-agrees : {f : Finding} → Nearest k columns (word ∷ []) f → Sound k columns f → Agrees call f
  engine-agrees = agrees-by k word blanks codeword q P columns word (answer-one blanks P.fit columns blank k word P.known P.few)

  pub engine-search : {rows : List (List ℕ)} {leads : List ℕ} {f : Finding} → SearchOf k columns word [] rows leads 0 f → Sound k columns f
      → Ready k columns word [] rows leads → Agrees call f
  engine-search {f = f} search S ready =
      engine-agrees (subst (λ ts. Nearest k columns ts f) (expand-nil columns word) (search.finds ready places_nil)) S

  pub engine-branch : (other : List ℕ) (place symbol : ℕ) → word ≡ set other place symbol → {rows : List (List ℕ)} {leads : List ℕ} {f : Finding}
      → BranchOf k columns other place symbol [] rows leads 0 f → Sound k columns f → Ready k columns other (place ∷ []) rows leads → Places (place ∷ [])
      → Agrees call f
  engine-branch other place symbol e {f = f} branch S ready is-place =
      engine-agrees
      (subst (λ t. Nearest k columns (t ∷ []) f) (sym e)
      (subst (λ ts. Nearest k columns ts f) (expand-nil columns (set other place symbol)) (branch.finds ready is-place)))
      S

-- nothing is doubtful: the one test word is the word of best symbols
module _ (k : ℕ) (word blanks codeword q : List ℕ) (P : EnginePassed k word blanks (length codeword) (length q)) (costs : List ℕ)
    (blank : BlankAt blanks (column_of symbols costs)) (is-best : (p : ℕ) → p < places → unblanked_by blanks p ≡ true → get_or word p 0 ≡ best_at (column_of symbols costs) p)
  where
    abbrev best : List ℕ
    best = best_word places (column_of symbols costs)

    -- the engine has the same near word
    same-best : answer_of k (column_of symbols costs) (best ∷ []) ≡ near_by k blanks word
    same-best =
        answer-one blanks P.fit (column_of symbols costs) blank k best P.known P.few
        ∙ near-open k blanks best word (best_word-length places (column_of symbols costs) ∙ sym P.word_long)
        (λ p l o. best_word-at places (column_of symbols costs) p l ∙ sym (is-best p l o))

    pub engine-nearest : (doubtful : List ℕ) → Asked k costs doubtful 0 → {f : Finding} → f ≡ nearest_of k costs doubtful 0
        → Agrees (engine_of k word blanks codeword q) f
    engine-nearest doubtful asked {f} e =
        agrees-by k word blanks codeword q P (column_of symbols costs) best same-best
        (subst (λ ts. Nearest k (column_of symbols costs) ts f) (test_words-none (column_of symbols costs) places) ((nearest-call k costs doubtful 0 f e).asked asked))
        (subst (Sound k (column_of symbols costs)) (sym (e ∙ nearest-asked k costs doubtful 0 asked))
        (found-sound k (column_of symbols costs) (test_words places (column_of symbols costs) (take 0 doubtful)) (known-bounds k asked.known).1))
