-- What closing makes of a message that was sent: when it gives it back, when it gives nothing dearer, when it gives nothing else, and when it refuses.
--
--   differing-doubted    of the places that are not blank a word differs from any test word in no more than the wrong ones and the doubtful ones
--   few-near             so its codeword is near
--   alone-near           so no codeword is near but that of m, whatever it has at the doubtful places
--   near-answered, near-dearer   where a codeword is near there is an answer, and the codeword is the answer's or dearer
--   only-near            the only near codeword: closing gives its message
--   few-alone            few wrong places, and so few doubtful ones that d + 2T + b < n − M (`near` FewDoubtful): the message is alone
--   always-alone         few wrong places, and the message sent is alone: closing gives it, and there is no margin
--   always-sure          so it does with few wrong places and so few doubtful ones
--   always-absent        with so few doubtful places there is no margin, whatever the answer
--   never-another        the message sent is alone (Alone): closing gives it or says 'none near', and nothing else is taken for it
--   always-repaired      no doubtful places, and at most T places that are not blank and at which the sent symbol is not the best symbol: closing gives the
--                        message sent
--   faded-repaired       so it does where no more places are blank than the limit says and at most T of the others are wrong
--   faded-right          and where none of the others is wrong
--   always-refused       no doubtful places, and the message sent is so far: closing says 'none near', and nothing else is taken for it; the buffers are as
--                        they were
--   always-found         few wrong places: closing never says 'none near', and gives the message sent or one that is no dearer
--
-- T is always the one that the blank places leave (Reach): there is none if they are too many. Of tables and bit values TableRepairs says the same.
--
-- From here to the code: the contract of `close` is `Closing` in `session`, whose number, message and report are those of `closeOf` of the session's
-- book. `closes-only`, `closes-alone`, `closes-never`, `closes-absent`, `closes-repaired`, `closes-refused` and `closes-found` are the same of whatever
-- answers as closing does (`Closes`), so also of closing after any list of calls.
use Rattle.std.proofs.Math.Bool.{Bool, true, false, not}
use Rattle.std.specs.Prelude.{◌&&◌, ◌≡◌, ◌≢◌, ◌⊎◌, T as Holds, eqb, length, get_or}
use Rattle.std.proofs.Common.{true≢false, ◌∙◌, subst, inl, inr, eqb-true, eq-eqb}
use Rattle.std.proofs.Math.Path.{refl, sym, ap}
use mathlib.Core.List.Memᴰ
use mathlib.Core.List.{List, [], ◌∷◌, Memᴰ}
use Rattle.std.proofs.Math.Logic.{⊎_elim}
use Rattle.std.proofs.Math.Option.{none}
use Prim.Native.Nat.{ℕ, ◌+◌, ◌<◌, ◌≤◌}
use Rattle.std.proofs.Math.Decide.{ℕ_discrete}
use native.Mathlib.Omega.{arith}
use Rattle.refusals.specs.Refusal.{accepted, none_near}
use Rattle.lists.specs.Count.{count-mono, count_none, count-split}
use Rattle.lists.specs.Different.{count-among}
use Rattle.lists.specs.Every.{both_left, both_right, both-intro, T_true}
use Rattle.lists.specs.Distinct.{among, among-member, member-among}
use Rattle.lists.specs.Words.{Word, Lex, lex-or, lex-asym}
use Rattle.soft.specs.Blank.{open_at}
use Rattle.soft.specs.BlankLaws.{member-unblanked, unblanked-length}
use Rattle.soft.specs.TestWord.{best_at, best_word, test_words}
use Rattle.soft.specs.TestWordLaws.{test_words-none, test_words-length, test_words-settled, chosen-test}
use Rattle.soft.specs.Total.{symbol_at, changed_at, changed_of, total_of, differ_at, differing_in}
use Rattle.soft.specs.TotalLaws.{agree-true, changed-differing, differing-comm, differing-triangle}
use Rattle.family.specs.Encoding.{encode_of}
use Rattle.family.specs.Evaluation.{encode-length}
use Rattle.near.specs.Near.{blank_limit, reach_of}
use Rattle.near.specs.Reach.{Reach, reach-is, reach-only, reach-within}
use Rattle.near.specs.Distance.{open-apart}
use Rattle.near.specs.Rivals.{doubled, FewDoubtful, genus-few, no-second}
use Rattle.book.specs.Model.{Model, places, width}
use Rattle.book.specs.Book.{Book}
use Rattle.book.specs.Columns.{columns_of}
use Rattle.book.specs.Entries.{Missing}
use Rattle.book.specs.closing.Closing.{report_length, Closed, margin_for, report_for, close_of}
use Rattle.book.proofs.closing.ClosingLaws.{close-kept}
use Rattle.book.specs.opening.OpeningLaws.{Known}
use Rattle.book.specs.closing.Report.{runner_in, runner_of}
use Rattle.book.proofs.closing.Report.{runner-none, margin-byte}
use Rattle.book.specs.sentences.Sentences.{tests_of, total_for, blanks_in, IsNear, Dearer, IsAnswer, Closes}
use Rattle.book.proofs.sentences.Sentences.{near-found, closes}
use Rattle.book.specs.sentences.Repairs.{wrong_at, wrong_of, FewWrong, FewWrongIn, not_best, TooFar, RefusedAs, Alone, RepairedIn, NoDearerIn, AloneIn, SureIn, NeverIn, FewDoubtfulIn}

-- where a test word has the word's symbol if the place is doubtful and not blank, it differs from it, of the places that are not blank, at wrong ones only
module _ (n : ℕ) (columns : ℕ → List ℕ) (doubtful word t : List ℕ) (size : length word ≡ n) (m : Memᴰ t (test_words n columns doubtful)) where
  differ-wrong : (p : ℕ) → p < n → (Memᴰ p doubtful → open_at columns p ≡ true → get_or t p 0 ≡ symbol_at word p)
      → Holds (open_at columns p && differ_at word t p) → Holds (wrong_at columns doubtful word p)
  differ-wrong p l chosen d = go (among p doubtful) refl (eqb (symbol_at word p) (best_at columns p)) refl
    where
      counts : Holds (open_at columns p)
      counts = both_left (open_at columns p) (differ_at word t p) d

      same : symbol_at word p ≡ symbol_at t p → ⊥
      same e =
          subst Holds (ap not (agree-true word t p (omega arith) (omega (arith, test_words-length n columns doubtful t m)) e))
          (both_right (open_at columns p) (differ_at word t p) d)

      settled : among p doubtful ≡ false → Memᴰ p doubtful → ⊥
      settled e i = true≢false (sym (among-member i) ∙ e)

      go : (a : Bool) → among p doubtful ≡ a → (b : Bool) → eqb (symbol_at word p) (best_at columns p) ≡ b → Holds (not a && (open_at columns p && not b))
      go true e b f = absurd (same (sym (chosen (member-among p doubtful e) (T_true (open_at columns p) counts))))
      go false e true f =
          absurd (same (eqb-true (symbol_at word p) (best_at columns p) f ∙ sym (test_words-settled n columns doubtful t m p l (settled e))))
      go false e false f = both-intro (open_at columns p) true counts tt

  differing-wrong : ((p : ℕ) → p < n → Memᴰ p doubtful → open_at columns p ≡ true → get_or t p 0 ≡ symbol_at word p)
      → differing_in (open_at columns) n word t ≤ wrong_of n columns doubtful word
  unfolding differing_in wrong_of
  differing-wrong chosen =
      count-mono n (λ p. open_at columns p && differ_at word t p) (wrong_at columns doubtful word) (λ p l. differ-wrong p l (chosen p l))

  -- whatever the word has at the doubtful places
  pub differing-doubted : differing_in (open_at columns) n word t ≤ wrong_of n columns doubtful word + length (doubled columns doubtful)
  unfolding differing_in wrong_of
  differing-doubted =
      omega (
        arith,
        count-split n differs chosen,
        count-among (doubled columns doubtful) n (λ p. differs p && chosen p) (λ p l x. T_true (chosen p) (both_right (differs p) (chosen p) x)),
        count-mono n (λ p. differs p && not (chosen p)) (wrong_at columns doubtful word)
            (λ p l x. differ-wrong p l (λ i o. out p (both_right (differs p) (not (chosen p)) x) i o) (both_left (differs p) (not (chosen p)) x)),
      )
    where
      differs : ℕ → Bool
      differs p = open_at columns p && differ_at word t p

      chosen : ℕ → Bool
      chosen p = among p (doubled columns doubtful)

      out : (p : ℕ) → Holds (not (chosen p)) → Memᴰ p doubtful → open_at columns p ≡ true → get_or t p 0 ≡ symbol_at word p
      out p x i o = absurd (subst (λ b. Holds (not b)) (among-member (member-unblanked (open_at columns) doubtful p i o)) x)

-- no more places are wrong than have not the best symbol
wrong-le : (n : ℕ) (columns : ℕ → List ℕ) (doubtful word : List ℕ) → wrong_of n columns doubtful word ≤ changed_of n columns word
unfolding wrong_of changed_of
wrong-le n columns doubtful word =
    count-mono n (wrong_at columns doubtful word) (changed_at columns word) (λ p l. both_right (not (among p doubtful)) (changed_at columns word p))

-- two messages are equal or not
equal-or : (m n : List ℕ) → (m ≡ n) ⊎ (n ≢ m)
equal-or m n =
    ⊎_elim (λ l. inr (λ e. lex-asym m m (subst (Lex m) e l) (subst (Lex m) e l)))
    (⊎_elim (λ e. inl (sym e)) (λ l. inr (λ e. lex-asym m m (subst (λ x. Lex x m) e l) (subst (λ x. Lex x m) e l))))
    (lex-or m n)

module _ (𝓓 : Model) where
  open 𝓓 use {member, workable}

  -- ---- few wrong places

  pub few-near : (book : Book) (T : ℕ) (m : List ℕ) → FewWrongIn 𝓓 book T m → IsNear 𝓓 book T m
  unfolding tests_of
  few-near book T m few =
      let columns = columns_of 𝓓 book.row in
      let sent = encode_of member book.rate m in
      let r = chosen-test columns (symbol_at sent) (places 𝓓) book.doubtful few.at_doubtful in
      record {
        word = few.word;
        test = r.0;
        tested = r.1;
        few = omega (
          arith,
          few.at_settled,
          differing-wrong (places 𝓓) columns book.doubtful sent r.0 (encode-length member book.rate m) r.1 r.2,
        );
      }

  -- ---- what a call makes of it

  pub not-best-changed : (k : ℕ) (columns : ℕ → List ℕ) (m : List ℕ) → changed_of (places 𝓓) columns (encode_of member k m) ≡ not_best 𝓓 k columns m
  not-best-changed k columns m = changed-differing (places 𝓓) columns (encode_of member k m) (encode-length member k m)

  pub none-wrong : (k : ℕ) (columns : ℕ → List ℕ) (m : List ℕ)
      → ((p : ℕ) → p < places 𝓓 → open_at columns p ≡ true → symbol_at (encode_of member k m) p ≡ best_at columns p) → not_best 𝓓 k columns m ≡ 0
  unfolding changed_of
  none-wrong k columns m right =
      sym (not-best-changed k columns m)
      ∙ count_none (places 𝓓) (changed_at columns (encode_of member k m)) (λ p l. go p l (open_at columns p) refl)
    where
      go : (p : ℕ) → p < places 𝓓 → (b : Bool) → open_at columns p ≡ b → (b && not (eqb (symbol_at (encode_of member k m) p) (best_at columns p))) ≡ false
      go p l true e = ap not (eq-eqb (symbol_at (encode_of member k m) p) (best_at columns p) (right p l e))
      go p l false e = refl

  -- so few doubtful places, and few wrong ones
  pub few-alone : {k : ℕ} {columns : ℕ → List ℕ} {doubtful : List ℕ} {T : ℕ} {m : List ℕ} → FewDoubtful member k columns doubtful T
      → FewWrong 𝓓 k columns doubtful T m → Alone 𝓓 k columns doubtful T m
  few-alone doubt few = record { word = few.word; alone = omega (arith, doubt, few.at_settled) }

  -- no codeword is near but that of the message
  pub alone-near : {book : Book} {T : ℕ} {m : List ℕ} → Known 𝓓 book.rate → AloneIn 𝓓 book T m → (n : List ℕ) → IsNear 𝓓 book T n → n ≡ m
  unfolding tests_of
  alone-near {book} {T} {m} rate alone n near = ⊎_elim (λ e. e) (λ d. absurd (apart d)) (equal-or n m)
    where
      columns : ℕ → List ℕ
      columns = columns_of 𝓓 book.row

      codeword : List ℕ → List ℕ
      codeword = encode_of member book.rate

      apart : m ≢ n → ⊥
      apart d =
          omega (
            arith,
            near.few,
            alone.alone,
            open-apart member columns (workable book.rate rate) near.word alone.word (λ e. d (sym e)),
            differing-triangle (open_at columns) (places 𝓓) (codeword n) near.test (codeword m),
            differing-comm (open_at columns) (places 𝓓) near.test (codeword m),
            differing-doubted (places 𝓓) columns book.doubtful (codeword m) near.test (encode-length member book.rate m) near.tested,
          )

  abbrev best_in : Book → List ℕ
  best_in book = best_word (places 𝓓) (columns_of 𝓓 book.row)

  -- where no place is doubtful, the word of best symbols is the only test word
  one-test : (book : Book) → book.doubtful ≡ [] → tests_of 𝓓 book ≡ best_in book ∷ []
  unfolding tests_of
  one-test book empty = ap (test_words (places 𝓓) (columns_of 𝓓 book.row)) empty ∙ test_words-none (columns_of 𝓓 book.row) (places 𝓓)

  module _ {book : Book} {c : Closed} (sentences : Closes 𝓓 book c) (full : (p : ℕ) → Missing 𝓓 book.row p → ⊥) {T : ℕ}
      (reach : Reach member book.rate (blanks_in 𝓓 book) T) where
    -- where a codeword is near there is an answer,
    pub near-answered : (m : List ℕ) → IsNear 𝓓 book T m → IsAnswer 𝓓 book T c
    near-answered m near = sentences.otherwise full reach (λ e. (sentences.none-near full reach).0 e m near)

    -- and the codeword is the answer's or dearer
    pub near-dearer : (m : List ℕ) → IsNear 𝓓 book T m → (c.message ≡ m) ⊎ Dearer 𝓓 book c.message m
    near-dearer m near = ⊎_elim (λ e. inl e) (λ d. inr ((near-answered m near).others m near d)) (equal-or c.message m)

    -- an answer that is the message's
    answer-only : {m : List ℕ} → IsAnswer 𝓓 book T c → c.message ≡ m → RepairedIn 𝓓 book m c
    answer-only a e =
        record {
          number = a.number;
          message = e;
          report = a.report ∙ ap (report_for 𝓓 book.rate (columns_of 𝓓 book.row) book.doubtful) e;
        }

    pub closes-only : (m : List ℕ) → IsNear 𝓓 book T m → ((n : List ℕ) → IsNear 𝓓 book T n → n ≡ m) → RepairedIn 𝓓 book m c
    closes-only m near only = let a = near-answered m near in answer-only a (only c.message a.near)

    pub closes-found : (m : List ℕ) → FewWrongIn 𝓓 book T m → NoDearerIn 𝓓 book m c
    unfolding total_for
    closes-found m few =
        let near = few-near book T m few in
        let a = near-answered m near in
        record {
          number = a.number;
          total = total (near-dearer m near);
          tie = tie (near-dearer m near);
          report = a.report;
        }
      where
        cost : List ℕ → ℕ
        cost n = total_of (places 𝓓) (columns_of 𝓓 book.row) (encode_of member book.rate n)

        Outcome : Type 0
        Outcome = (c.message ≡ m) ⊎ ((cost c.message < cost m) ⊎ ((cost c.message ≡ cost m) × Lex c.message m))

        total : Outcome → cost c.message ≤ cost m
        total (inl e) = omega (arith, ap cost e)
        total (inr (inl l)) = omega arith
        total (inr (inr r)) = omega (arith, r.0)

        tie : Outcome → cost c.message ≡ cost m → (c.message ≡ m) ⊎ Lex c.message m
        tie (inl e) q = inl e
        tie (inr (inl l)) q = absurd (omega arith)
        tie (inr (inr r)) q = inr r.1

    module _ (rate : Known 𝓓 book.rate) where
      pub closes-never : {m : List ℕ} → AloneIn 𝓓 book T m → RepairedIn 𝓓 book m c ⊎ (c.number ≡ none_near)
      closes-never {m} alone = go (ℕ_discrete c.number none_near)
        where
          go : Dec (c.number ≡ none_near) → RepairedIn 𝓓 book m c ⊎ (c.number ≡ none_near)
          go (yes e) = inr e
          go (no d) = inl (answer-only (sentences.otherwise full reach d) (alone-near rate alone c.message (sentences.otherwise full reach d).near))

      pub closes-absent : FewDoubtfulIn 𝓓 book T → IsAnswer 𝓓 book T c
          → margin_for 𝓓 book.rate (columns_of 𝓓 book.row) book.doubtful c.message ≡ none
      unfolding tests_of
      closes-absent doubt a =
          a.margin_there ∙ a.absent.1 (λ n near. ⊎_elim (λ e. e) (λ d. absurd (apart near d)) (equal-or n c.message))
        where
          apart : {n : List ℕ} → IsNear 𝓓 book T n → c.message ≢ n → ⊥
          apart near =
              no-second member (workable book.rate rate) (columns_of 𝓓 book.row) (reach-within member reach) book.doubtful
              (subst (FewDoubtfulIn 𝓓 book) (reach-only member reach) doubt)
              (near-found 𝓓 book reach a.near) (near-found 𝓓 book reach near)

      pub closes-alone : {m : List ℕ} → FewWrongIn 𝓓 book T m → AloneIn 𝓓 book T m → SureIn 𝓓 book m c
      closes-alone {m} few alone =
          let a = near-answered m (few-near book T m few) in
          let e = alone-near rate alone c.message a.near in
          let absent =
          ap (margin_for 𝓓 book.rate (columns_of 𝓓 book.row) book.doubtful) (sym e) ∙ a.margin_there
          ∙ a.absent.1 (λ n near. alone-near rate alone n near ∙ sym e) in
          let r = answer-only a e in
          record {
            repaired = r;
            absent = absent;
            absent_byte =
                ap (runner_in 𝓓) r.report ∙ margin-byte 𝓓 book.rate (columns_of 𝓓 book.row) book.doubtful m ∙ ap runner_of absent ∙ runner-none;
          }

      -- with no doubtful place
      module _ (none-doubtful : book.doubtful ≡ []) where
        none-doubled : length (doubled (columns_of 𝓓 book.row) book.doubtful) ≡ 0
        none-doubled =
            omega (arith, unblanked-length (open_at (columns_of 𝓓 book.row)) book.doubtful, ap (λ (l : List ℕ). length l) none-doubtful)

        few-wrong : (m : List ℕ)
            → wrong_of (places 𝓓) (columns_of 𝓓 book.row) book.doubtful (encode_of member book.rate m) ≤ not_best 𝓓 book.rate (columns_of 𝓓 book.row) m
        few-wrong m =
            omega (
              arith,
              wrong-le (places 𝓓) (columns_of 𝓓 book.row) book.doubtful (encode_of member book.rate m),
              not-best-changed book.rate (columns_of 𝓓 book.row) m,
            )

        pub closes-repaired : (m : List ℕ) → Word (width 𝓓) book.rate m → not_best 𝓓 book.rate (columns_of 𝓓 book.row) m ≤ T → RepairedIn 𝓓 book m c
        closes-repaired m word few =
            let right : FewWrongIn 𝓓 book T m =
            record {
              word = word;
              at_doubtful = λ p i. absurd (Memᴰ.not-nil (subst (Memᴰ p) none-doubtful i));
              at_settled = omega (arith, few, few-wrong m);
            } in
            (closes-alone right (few-alone (genus-few member (columns_of 𝓓 book.row) reach book.doubtful (omega (arith, none-doubled))) right)).repaired

        -- near the only test word, which is that of best symbols
        near-few : (n : List ℕ) → IsNear 𝓓 book T n → not_best 𝓓 book.rate (columns_of 𝓓 book.row) n ≤ T
        near-few n near =
            let e : near.test ≡ best_in book = Memᴰ.eq_of_singleton (subst (Memᴰ near.test) (one-test book none-doubtful) near.tested) in
            omega (arith, near.few, ap (differing_in (open_at (columns_of 𝓓 book.row)) (places 𝓓) (encode_of member book.rate n)) e)

        -- the sent one is too far, and no other one is near
        pub closes-refused : (m : List ℕ) → TooFar 𝓓 book.rate (columns_of 𝓓 book.row) T m → c.number ≡ none_near
        closes-refused m far =
            (sentences.none-near full reach).1
            (λ n near.
            let e = alone-near rate (record { word = far.word; alone = omega (arith, far.alone, none-doubled, few-wrong m) }) n near in
            omega (arith, near-few n near, far.far, ap (not_best 𝓓 book.rate (columns_of 𝓓 book.row)) e))

  -- ---- closing

  module _ (book : Book) (full : (p : ℕ) → Missing 𝓓 book.row p → ⊥) (message report : List ℕ) (long : length message ≡ book.rate)
      (whole_report : length report ≡ report_length 𝓓) (m : List ℕ) where
    module _ {T : ℕ} (reach : Reach member book.rate (blanks_in 𝓓 book) T) where
      pub only-near : IsNear 𝓓 book T m → ((n : List ℕ) → IsNear 𝓓 book T n → n ≡ m) → RepairedIn 𝓓 book m (close_of 𝓓 book message report)
      only-near = closes-only (closes 𝓓 message report long whole_report) full reach m

      pub always-repaired : Known 𝓓 book.rate → book.doubtful ≡ [] → Word (width 𝓓) book.rate m
          → not_best 𝓓 book.rate (columns_of 𝓓 book.row) m ≤ T → RepairedIn 𝓓 book m (close_of 𝓓 book message report)
      always-repaired rate none-doubtful = closes-repaired (closes 𝓓 message report long whole_report) full reach rate none-doubtful m

      refused : (close_of 𝓓 book message report).number ≡ none_near → RefusedAs 𝓓 none_near message report (close_of 𝓓 book message report)
      refused e = record { number = e; kept = close-kept 𝓓 book message report (λ a. absurd (omega (arith, e, a))) }

      pub always-refused : Known 𝓓 book.rate → book.doubtful ≡ [] → TooFar 𝓓 book.rate (columns_of 𝓓 book.row) T m
          → RefusedAs 𝓓 none_near message report (close_of 𝓓 book message report)
      always-refused rate none-doubtful far = refused (closes-refused (closes 𝓓 message report long whole_report) full reach rate none-doubtful m far)

      pub always-alone : Known 𝓓 book.rate → FewWrongIn 𝓓 book T m → AloneIn 𝓓 book T m → SureIn 𝓓 book m (close_of 𝓓 book message report)
      always-alone rate = closes-alone (closes 𝓓 message report long whole_report) full reach rate

      pub always-sure : Known 𝓓 book.rate → FewDoubtfulIn 𝓓 book T → FewWrongIn 𝓓 book T m → SureIn 𝓓 book m (close_of 𝓓 book message report)
      always-sure rate doubt few = always-alone rate few (few-alone doubt few)

      pub never-another : Known 𝓓 book.rate → AloneIn 𝓓 book T m → NeverIn 𝓓 book m message report (close_of 𝓓 book message report)
      never-another rate alone =
          ⊎_elim (λ r. inl r) (λ e. inr (refused e)) (closes-never (closes 𝓓 message report long whole_report) full reach rate alone)

      pub always-absent : Known 𝓓 book.rate → FewDoubtfulIn 𝓓 book T → (close_of 𝓓 book message report).number ≡ accepted
          → margin_for 𝓓 book.rate (columns_of 𝓓 book.row) book.doubtful (close_of 𝓓 book message report).message ≡ none
      always-absent rate doubt number =
          let all = closes 𝓓 message report long whole_report in
          closes-absent all full reach rate doubt (all.otherwise full reach (λ e. omega (arith, e, number)))

      pub always-found : FewWrongIn 𝓓 book T m → NoDearerIn 𝓓 book m (close_of 𝓓 book message report)
      always-found = closes-found (closes 𝓓 message report long whole_report) full reach m

    -- ---- places lost to fades

    module _ (rate : Known 𝓓 book.rate) (none-doubtful : book.doubtful ≡ []) (word : Word (width 𝓓) book.rate m)
        (few_blank : blanks_in 𝓓 book ≤ blank_limit member book.rate) where
      pub faded-repaired : not_best 𝓓 book.rate (columns_of 𝓓 book.row) m ≤ reach_of member book.rate (blanks_in 𝓓 book)
          → RepairedIn 𝓓 book m (close_of 𝓓 book message report)
      faded-repaired few = always-repaired (reach-is member (workable book.rate rate) few_blank) rate none-doubtful word few

      pub faded-right : ((p : ℕ) → p < places 𝓓 → open_at (columns_of 𝓓 book.row) p ≡ true
          → symbol_at (encode_of member book.rate m) p ≡ best_at (columns_of 𝓓 book.row) p) → RepairedIn 𝓓 book m (close_of 𝓓 book message report)
      faded-right right = faded-repaired (omega (arith, none-wrong book.rate (columns_of 𝓓 book.row) m right))
