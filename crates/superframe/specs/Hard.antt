-- The columns of a word that was received, cost 0 for the symbol received and 1 for the others, and what decoding by them without doubt answers.
--
--   hard-own, hard-other   the column of one symbol: what the symbol costs, and what another does
--   hard-column, hard-beyond   the columns of a word, place by place, and beyond its last one
--   hard-open, hard-blank  none of them is blank
--   hard-word              the word of best symbols is the word received
--   hard-answer            so the answer is the codeword within T of the word, if there is one
--   hard-none, hard-some   decoding says 'none near' and leaves both buffers as they were, or gives the message
--   hard-long              what it leaves in a part of k symbols has k symbols, whatever the columns
--   none-blank, fit_none   without blank places all places count, and the empty list is fit
--   within-near, near_within   the codeword within T, if there is one: whichever is within T is it, and it is within T
use Rattle.std.specs.Prelude.{true, not, ◌&&◌, ◌≡◌, refl, List, [], ◌∷◌, ◌≢◌, ℕ, zero, suc, ◌-◌, ◌<◌, ◌≤◌, length, get_or, replicate}
use Rattle.std.proofs.Math.Path.{sym}
use Rattle.std.proofs.Common.{ap, ◌∙◌, subst, arith, lt-ltb}
use Rattle.std.proofs.Math.Option.{some, none}
use Rattle.lists.specs.Distinct.{among, below}
use Rattle.lists.specs.Every.{true-T, T_true}
use Rattle.lists.specs.Listed.{listed_by}
use Rattle.lists.specs.Words.{all_below, all_below-at}
use Rattle.lists.specs.Answers.{Answers, Found, free, answers-some}
use Rattle.refusals.specs.Refusal.{accepted, none_near}
use Rattle.soft.specs.Column.{places, symbols, cost_of, best_of, is_blank}
use Rattle.soft.specs.Blank.{open_at}
use Rattle.soft.specs.TestWord.{best_at, best_word, test_words}
use Rattle.soft.specs.TestWordLaws.{test_words-none}
use Rattle.family.specs.Member.{m16}
use Rattle.code.specs.Encoding.{known_rate}
use Rattle.near.specs.Near.{near_to}
use Rattle.near.specs.Laws.{word-answers}
use Rattle.near.specs.Codeword.{near-one}
use Rattle.near.specs.Governing.{only-near}
use Rattle.near.specs.Here.{reach_of, blank_limit, blanks_in, answer_of}
use Rattle.book64.specs.Modem64.{modem64}
use Rattle.book.specs.opening.Opening as Opening
use Rattle.book64.specs.Rates.{known-rate, rate-workable}
use Rattle.book.specs.closing.Closing.{Closed, refused_closing}
use Rattle.book.proofs.closing.ClosingLaws.{decode-none, decode-some, decode-sized}
use Rattle.book64.specs.Here.{width, fit_places, report_length, decode_of}
use Rattle.book64.specs.engine.Engine.{unblanked_by, near_by}
use Rattle.book64.specs.engine.EngineLaws.{IsWithin, within-found, found_within, unblanked-repairs}
use Rattle.book64.specs.engine.Single.{BlankAt, same_number, answer-one}
use Rattle.soft.specs.Hard as Hard
use Rattle.superframe.specs.Superframe.{hard_column, hard_columns}

-- ---- one column

pub hard-own : (s : ℕ) → s < symbols → cost_of (hard_column s) s ≡ 0
hard-own s l = Hard.hard-own symbols s l

pub hard-other : (s t : ℕ) → t < symbols → s ≢ t → cost_of (hard_column s) t ≡ 1
hard-other s t l d = Hard.hard-other symbols s t l d

-- ---- the columns of a word

pub hard-column : (word : List ℕ) (p : ℕ) → p < length word → hard_columns word p ≡ hard_column (get_or word p 0)
unfolding hard_columns
hard-column [] p h = absurd (omega arith)
hard-column (s ∷ word) zero h = refl
hard-column (s ∷ word) (suc p) h = hard-column word p (omega arith)

pub hard-beyond : (word : List ℕ) (p : ℕ) → length word ≤ p → hard_columns word p ≡ replicate symbols 0
unfolding hard_columns
hard-beyond [] p h = refl
hard-beyond (s ∷ word) zero h = absurd (omega arith)
hard-beyond (s ∷ word) (suc p) h = hard-beyond word p (omega arith)

pub hard-open : (word : List ℕ) (p : ℕ) → p < length word → get_or word p 0 < symbols → open_at (hard_columns word) p ≡ true
hard-open word p h l = ap (λ (c : List ℕ). not (is_blank c)) (hard-column word p h) ∙ ap not (Hard.hard-open symbols (get_or word p 0) (omega arith) l)

-- ---- no place is blank

pub none-blank : (p : ℕ) → p < places → unblanked_by [] p ≡ true
unfolding unblanked_by among
none-blank p h = ap (λ b. b && true) (lt-ltb p places h)

pub fit_none : fit_places [] ≡ true
unfolding Opening.fit_places Opening.rising Opening.rising_from below
fit_none = refl

pub hard-long : (k : ℕ) (columns : ℕ → List ℕ) (doubtful part report : List ℕ) → length part ≡ k → length report ≡ report_length
    → length (decode_of k columns doubtful part report).message ≡ k
hard-long k columns doubtful part report long whole = (decode-sized modem64 k columns doubtful part report long whole).message_sized ∙ long

-- ---- the answer

module _ (word : List ℕ) (long : length word ≡ places) (small : all_below symbols word ≡ true) where
  abbrev columns : ℕ → List ℕ
  columns = hard_columns word

  symbol-at : (p : ℕ) → p < places → get_or word p 0 < symbols
  symbol-at p h = all_below-at symbols word (true-T (all_below symbols word) small) p (omega arith)

  pub hard-blank : BlankAt [] columns
  hard-blank p h = hard-open word p (omega arith) (symbol-at p h) ∙ sym (none-blank p h)

  pub hard-word : best_word places columns ≡ word
  unfolding best_word
  hard-word =
      sym
      (listed_by 0 places word (best_at columns) long
      (λ p h. sym (ap best_of (hard-column word p (omega arith)) ∙ Hard.hard-best symbols (get_or word p 0) (omega arith) (symbol-at p h))))

  few_blank : (k : ℕ) → blanks_in columns ≤ blank_limit k
  few_blank k = omega (arith, same_number [] fit_none columns hard-blank)

  module _ (k : ℕ) (known : known_rate k ≡ true) where
    pub hard-answer : answer_of k columns (test_words places columns []) ≡ near_by k [] word
    hard-answer =
        ap (answer_of k columns) (test_words-none columns places ∙ ap (λ t. t ∷ []) hard-word)
        ∙ answer-one [] fit_none columns hard-blank k word known (omega arith)

    module _ (part report : List ℕ) where
      pub hard-none : near_by k [] word ≡ none → decode_of k columns [] part report ≡ refused_closing none_near part report
      hard-none e = decode-none modem64 k columns [] part report (few_blank k) (hard-answer ∙ e)

      pub hard-some : {m : List ℕ} → near_by k [] word ≡ some m
          → ((decode_of k columns [] part report).number ≡ accepted) × ((decode_of k columns [] part report).message ≡ m)
      hard-some e =
          let c = decode-some modem64 k columns [] part report (few_blank k) (hard-answer ∙ e) in
          (ap (λ (d : Closed). d.number) c, ap (λ (d : Closed). d.message) c)

-- ---- the codeword within T

module _ (k : ℕ) (word : List ℕ) where
  abbrev IsFound : List ℕ → Type 0
  IsFound = Found width k (near_to m16 (unblanked_by []) (reach_of k 0) k word)

  answers : Answers free IsFound (near_by k [] word)
  answers = word-answers m16 (unblanked_by []) (reach_of k 0) k word

  pub within-near : known_rate k ≡ true → {m : List ℕ} → IsWithin k [] word m → near_by k [] word ≡ some m
  within-near known h =
      let f = within-found h in
      let w = rate-workable (known-rate k known) in
      only-near m16 (unblanked_by []) (reach_of k 0) w f.word word
      (λ n g. near-one m16 (unblanked_by []) (reach_of k 0) w word (unblanked-repairs k [] known fit_none (omega arith)) g f)
      (T_true _ f.passed)

  pub near_within : {m : List ℕ} → near_by k [] word ≡ some m → IsWithin k [] word m
  near_within e = found_within (answers-some (subst (Answers free IsFound) e answers))
