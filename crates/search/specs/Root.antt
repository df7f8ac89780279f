-- From the settled places to the root of the tree, for every modem of the family and whatever keeps the rows: what is told of what is found there is what the
-- search answers.
--
--   root          by the tree, where the rows store a basis through the settled places
--   root-known    by a codeword that is known and governs the root
use Rattle.std.specs.Prelude.{Bool, true, ◌≡◌, List, ℕ, ◌-◌, length, take, drop}
use Rattle.std.proofs.Math.Path.{sym}
use Rattle.std.proofs.Common.{ap, ◌∙◌, subst, subst₂, arith}
use Rattle.lists.specs.Padded.{padded}
use Rattle.family.specs.Member.{places}
use Rattle.soft.specs.Blank.{open_at, unblanked, flag_at}
use Rattle.soft.specs.BlankLaws.{unblanked-member}
use Rattle.soft.specs.TestWord.{best_word, expand, test_words}
use Rattle.soft.specs.TestWordLaws.{best_word-length}
use Rattle.near.specs.Near.{m_of, reach_of}
use Rattle.near.specs.Interpolated.{limit_of}
use Rattle.near.specs.Tree.{Places, places-unblanked}
use Rattle.near.specs.Flags.{Flagged}
use Rattle.values.specs.Holds.{Values, Stored}
use Rattle.values.specs.Settled.{settled}
use Rattle.search.specs.Result.{Finding}
use Rattle.search.specs.Nearest.{Nearest}
use Rattle.search.specs.Answered.{Sound, told_of, told_is}
use Rattle.search.specs.OpenFlags.{OpenFlags, limit-flagged}
use Rattle.search.specs.Settled.{settled-decided}
use Rattle.search.specs.Known.{governs_of, WithinOf, answer_here}
use Rattle.search.specs.Governing.{sound-below, governs-only, governed-nearest}
use Rattle.search.specs.Searching.{SearchOf}
use Rattle.search.specs.Doubling.{doubled-take}
use Rattle.search.specs.Call.{Scope, columns_of, Asked, nearest_of}
use Rattle.search.specs.CallLaws.{nearest-asked}

module _ (𝓢 : Scope) (k : ℕ) (costs doubtful : List ℕ) (doubt : ℕ) (f : Finding) (counts : List ℕ) (b : ℕ) where
  open 𝓢 use {member, longest, most_doubt}

  abbrev columns : ℕ → List ℕ
  columns = columns_of 𝓢 costs

  -- the places that are doubled
  abbrev doubled : List ℕ
  doubled = unblanked (open_at columns) (take doubt doubtful)

  module _ (word array : List ℕ) (number : ℕ) (A : Asked 𝓢 k costs doubtful doubt) (M : OpenFlags member k columns counts b)
      (word-is : word ≡ best_word (places member) columns) (array-is : array ≡ padded most_doubt (unblanked (flag_at counts) (take doubt doubtful)))
      (number_is : number ≡ length (unblanked (flag_at counts) (take doubt doubtful))) where
    taken : take number array ≡ doubled
    taken = doubled-take (flag_at counts) doubtful A.few array-is number_is ∙ ap (λ c. unblanked c (take doubt doubtful)) M.flags

    -- all of them are left
    left-all : drop (number - number) (take number array) ≡ doubled
    left-all = let z : number - number ≡ 0 = omega arith in ap (λ n. drop n (take number array)) z ∙ taken

    doubled-places : Places (places member) doubled
    doubled-places = places-unblanked (open_at columns) A.fit

    -- what is found of the test words is what is told
    told-root : Nearest member k columns (expand columns word doubled) f → Sound member longest k columns f
        → told_of member longest f ≡ nearest_of 𝓢 k costs doubtful doubt
    unfolding test_words
    told-root N sound =
        told_is (subst (λ w. Nearest member k columns (expand columns w doubled) f) word-is N) sound ∙ sym (nearest-asked 𝓢 k costs doubtful doubt A)

    pub root : {R L : Type 0} (valuesIn : R → ℕ → Values member) (leadIn : L → ℕ → ℕ) (flags : List ℕ) (rows : R) (leads : L) (m limit : ℕ)
        → (Places (places member) (take number array) → Flagged (places member) (flag_at counts) (take number array) flags) → m ≡ m_of member k
        → limit ≡ limit_of member (reach_of member k b) k → Stored member m word limit (settled word flags (places member)) (valuesIn rows) (leadIn leads)
        → SearchOf member valuesIn leadIn k columns word (drop (number - number) (take number array)) rows leads number f
        → Sound member longest k columns f → told_of member longest f ≡ nearest_of 𝓢 k costs doubtful doubt
    root valuesIn leadIn flags rows leads m limit flagged m-is limit_is B S sound =
        let F : Flagged (places member) (open_at columns) doubled flags =
        subst₂ (λ c ps. Flagged (places member) c ps flags) M.flags taken (flagged (subst (Places (places member)) (sym taken) doubled-places)) in
        let S' : SearchOf member valuesIn leadIn k columns word doubled rows leads number f =
        subst (λ ps. SearchOf member valuesIn leadIn k columns word ps rows leads number f) left-all S in
        told-root
        (S'.finds
        (record {
          nodes = settled word flags (places member);
          decided = settled-decided word flags member (open_at columns) doubled F;
          all_open = λ p i. (unblanked-member (open_at columns) (take doubt doubtful) p i).1;
          stored =
              subst₂ (λ n l. Stored member n word l (settled word flags (places member)) (valuesIn rows) (leadIn leads)) m-is (limit_is ∙ limit-flagged M) B;
        })
        doubled-places)
        sound

    pub root-known : (known : Finding) (holds : Bool) (tests : ℕ) → Sound member longest k columns known
        → holds ≡ governs_of member k counts b known word (drop (number - number) (take number array)) → holds ≡ true
        → WithinOf member k counts b columns known.codeword word (drop (number - number) (take number array)) number tests
        → f ≡ answer_here member columns known tests → told_of member longest f ≡ nearest_of 𝓢 k costs doubtful doubt
    root-known known holds tests sound test governs counted f-is =
        let rate = 𝓢.workable k A.known in
        let size : length word ≡ places member = ap length word-is ∙ best_word-length (places member) columns in
        let W : WithinOf member k counts b columns known.codeword word doubled number tests =
        subst (λ ps. WithinOf member k counts b columns known.codeword word ps number tests) left-all counted in
        let G : governs_of member k counts b known word doubled ≡ true = ap (governs_of member k counts b known word) (sym left-all) ∙ sym test ∙ governs in
        told-root
        (subst (Nearest member k columns (expand columns word doubled)) (sym f-is)
        (governed-nearest sound rate M (expand columns word doubled) (governs-only sound rate M word doubled size G doubled-places) tests (W.count doubled-places)))
        (subst (Sound member longest k columns) (sym f-is) (sound-below sound tests))
