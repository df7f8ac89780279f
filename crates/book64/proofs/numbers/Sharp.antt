-- The bounds of Repairs at document 01's rates, in numbers, and that both are sharp at rate 39.
--
--   few-six              six doubtful places are few at every rate and with any blank places within the limit
--   few-seven            and seven at rates 39 and 49 where no place is blank
--   alone-39, alone-49, alone-52   where no place is blank, a message is alone with up to 13 wrong and doubtful places together at rate 39, 8 at rate 49
--                        and 6 at rate 52
--   none-blank, all_there   of the two frames below
--   eight-not-few        with eight doubtful places there may be two near codewords: zero and the light one at frame 50
--   fourteen-another     with fourteen wrong places, and none doubtful, another message may be handed up: at frame 34 every closing into buffers of the
--                        right sizes gives the light one, and zero has fourteen wrong places
use Rattle.std.specs.Prelude.{Bool, true, false, ◌&&◌, ◌≡◌, refl, ◌⊎◌, ℕ, ◌+◌, ◌-◌, ◌%◌, ◌≤◌, T as Holds, eqb, length, get_or, replicate}
use Rattle.std.proofs.Common.{sym, ap, ◌∙◌, subst, inl, inr, ⊎_elim, arith, eqb-true}
use mathlib.Core.List.Memᴰ
use mathlib.Core.List.{List, [], ◌∷◌, Memᴰ}
use Rattle.lists.specs.Count.{sum_of, count}
use Rattle.lists.specs.Distinct.{among}
use Rattle.lists.specs.Every.{every, both_left, both_right, T_true}
use Rattle.lists.specs.Listed.{listed}
use Rattle.lists.specs.Words.{Word}
use Rattle.soft.specs.Blank.{open_at, blanks_of, unblanked}
use Rattle.soft.specs.Column.{first_but, cheaper_of, best_but, best_of, second_of, is_blank}
use Rattle.soft.specs.TestWord.{best_word}
use Rattle.soft.specs.Total.{agree, differing_in}
use Rattle.family.specs.Member.{m16}
use Rattle.family.specs.Encoding.{encode_of}
use Rattle.near.specs.Rivals.{doubled, genus-few, genus-odd}
use Rattle.near.specs.Here.{IsReach, blank_limit}
use Rattle.near.proofs.Here.{m-is, genus-4, blank-limit-is, reach-table}
use Rattle.near.specs.LeastDistance.{zero-codeword}
use Rattle.near.specs.Distances.{symbol39}
use Rattle.near.proofs.Distances.{light-39}
use Rattle.book64.specs.Modem64.{modem64}
use Rattle.book.specs.Book.{column_in, taken, some_missing}
use Rattle.book.specs.Columns.{columns_of}
use Rattle.book.specs.Entries.{Missing, missing-none}
use Rattle.book.specs.closing.Closing.{close_of}
use Rattle.book64.specs.Rates.{rate-39, rate_known}
use Rattle.book.specs.sentences.Sentences.{IsNear}
use Rattle.book.specs.tables.Table.{entries_of}
use Rattle.book.specs.sentences.Repairs.{wrong_of}
use Rattle.book.proofs.sentences.Repairs.{few-near, always-repaired}
use Rattle.book64.specs.Here.{FewWrong, FewDoubtful, Alone, Repaired}
use Rattle.book64.specs.numbers.Sharp.{frame, zeros, light, eight, between}

-- ---- the bounds

module _ (columns : ℕ → List ℕ) (doubtful : List ℕ) where
  pub few-six : {k T : ℕ} → IsReach k (blanks_of 64 columns) T → length (doubled columns doubtful) ≤ 6 → FewDoubtful k columns doubtful T
  few-six reach few = genus-few m16 columns reach doubtful (omega (arith, few, genus-4))

  pub few-seven : {k T : ℕ} → (k ≡ 39) ⊎ (k ≡ 49) → blanks_of 64 columns ≡ 0 → IsReach k (blanks_of 64 columns) T
      → length (doubled columns doubtful) ≤ 7 → FewDoubtful k columns doubtful T
  few-seven {k} rate none reach few = genus-odd m16 columns reach doubtful (odd rate) (omega (arith, few, genus-4))
    where
      odd : (k ≡ 39) ⊎ (k ≡ 49) → (blank_limit k - blanks_of 64 columns) % 2 ≡ 1
      odd (inl e) = omega (arith, none, blank-limit-is k, m-is k)
      odd (inr e) = omega (arith, none, blank-limit-is k, m-is k)

  module _ (none : blanks_of 64 columns ≡ 0) {m : List ℕ} where
    pub alone-39 : Word 16 39 m → wrong_of 64 columns doubtful (encode_of m16 39 m) + length (doubled columns doubtful) ≤ 13 → Alone 39 columns doubtful 6 m
    alone-39 word few = record { word = word; alone = omega (arith, few, none, m-is 39) }

    pub alone-49 : Word 16 49 m → wrong_of 64 columns doubtful (encode_of m16 49 m) + length (doubled columns doubtful) ≤ 8 → Alone 49 columns doubtful 1 m
    alone-49 word few = record { word = word; alone = omega (arith, few, none, m-is 49) }

    pub alone-52 : Word 16 52 m → wrong_of 64 columns doubtful (encode_of m16 52 m) + length (doubled columns doubtful) ≤ 6 → Alone 52 columns doubtful 0 m
    alone-52 word few = record { word = word; alone = omega (arith, few, none, m-is 52) }

-- ---- and beyond them

abbrev columns : ℕ → ℕ → List ℕ
columns a = columns_of modem64 (frame a)

-- a test that passes at each place of a list
each : (ℕ → Bool) → List ℕ → Bool
each test [] = true
each test (p ∷ ps) = test p && each test ps

each_at : (test : ℕ → Bool) (l : List ℕ) → Holds (each test l) → (p : ℕ) → Memᴰ p l → Holds (test p)
unfolding each
each_at test [] h p m = absurd (Memᴰ.not-nil m)
each_at test (q ∷ ps) h p m =
    ⊎_elim (λ (e : p ≡ q). subst (λ x. Holds (test x)) (sym e) (both_left (test q) (each test ps) h))
    (λ (i : Memᴰ p ps). each_at test ps (both_right (test q) (each test ps) h) p i) (Memᴰ.cases_cons m)

-- zero has the best symbol at the eight places, and the light one the second
has : List ℕ → (List ℕ → ℕ) → ℕ → Bool
has word of p = eqb (get_or word p 0) (of (columns 50 p))

has-eq : (word : List ℕ) (of : List ℕ → ℕ) (p : ℕ) → Holds (has word of p) → get_or word p 0 ≡ of (columns 50 p)
unfolding has
has-eq word of p h = eqb-true (get_or word p 0) (of (columns 50 p)) (T_true (eqb (get_or word p 0) (of (columns 50 p))) h)

offered : Holds (each (has (replicate 64 0) best_of) eight) × Holds (each (has (listed 64 symbol39) second_of) eight)
unfolding each has frame columns_of column_in entries_of listed best_of second_of best_but cheaper_of first_but
offered = (tt, tt)

wrong : (wrong_of 64 (columns 50) eight (replicate 64 0) ≡ 6) × (wrong_of 64 (columns 50) eight (listed 64 symbol39) ≡ 6)
    × (wrong_of 64 (columns 34) [] (replicate 64 0) ≡ 14)
unfolding wrong_of count sum_of among frame columns_of column_in entries_of listed best_of best_but cheaper_of first_but is_blank every
wrong = (refl, refl, refl)

pub none-blank : (a : ℕ) → (a ≡ 50) ⊎ (a ≡ 34) → blanks_of 64 (columns_of modem64 (frame a)) ≡ 0
unfolding blanks_of count sum_of frame columns_of column_in entries_of listed is_blank every
none-blank a (inl e) = ap (λ x. blanks_of 64 (columns x)) e ∙ refl
none-blank a (inr e) = ap (λ x. blanks_of 64 (columns x)) e ∙ refl

none-missing : (some_missing modem64 (frame 50) ≡ false) × (some_missing modem64 (frame 34) ≡ false)
unfolding some_missing taken frame column_in entries_of listed every
none-missing = (refl, refl)

-- six symbols of the light one are not the best
changed : differing_in (open_at (columns 34)) 64 (listed 64 symbol39) (best_word 64 (columns 34)) ≡ 6
unfolding differing_in agree best_word count sum_of frame columns_of column_in entries_of listed best_of best_but cheaper_of first_but is_blank every
changed = refl

pub all_there : (a : ℕ) → (a ≡ 50) ⊎ (a ≡ 34) → (p : ℕ) → Missing modem64 (frame a) p → ⊥
all_there a e = missing-none modem64 (frame a) (go e)
  where
    go : (a ≡ 50) ⊎ (a ≡ 34) → some_missing modem64 (frame a) ≡ false
    go (inl q) = ap (λ x. some_missing modem64 (frame x)) q ∙ none-missing.0
    go (inr q) = ap (λ x. some_missing modem64 (frame x)) q ∙ none-missing.1

-- T is 6: no place is blank
reach : (a : ℕ) → (a ≡ 50) ⊎ (a ≡ 34) → IsReach 39 (blanks_of 64 (columns a)) 6
reach a e = subst (λ b. IsReach 39 b 6) (sym (none-blank a e)) ((reach-table 0).0 (omega arith))

zero-encodes : encode_of m16 39 zeros ≡ replicate 64 0
zero-encodes = (zero-codeword m16 39).encodes

light-encodes : encode_of m16 39 light ≡ listed 64 symbol39
light-encodes = light-39.encodes

near-both : FewWrong 39 (columns 50) eight 6 zeros × FewWrong 39 (columns 50) eight 6 light
near-both = (
  record {
    word = (zero-codeword m16 39).word;
    at_doubtful = λ p i o.
        inl
        (ap (λ (w : List ℕ). get_or w p 0) zero-encodes
        ∙ has-eq (replicate 64 0) best_of p (each_at (has (replicate 64 0) best_of) eight offered.0 p i));
    at_settled = omega (arith, ap (wrong_of 64 (columns 50) eight) zero-encodes, wrong.0);
  },
  record {
    word = light-39.word;
    at_doubtful = λ p i o.
        inr
        (ap (λ (w : List ℕ). get_or w p 0) light-encodes
        ∙ has-eq (listed 64 symbol39) second_of p (each_at (has (listed 64 symbol39) second_of) eight offered.1 p i));
    at_settled = omega (arith, ap (wrong_of 64 (columns 50) eight) light-encodes, wrong.1);
  },
)

pub eight-not-few : (length (doubled (columns_of modem64 (frame 50)) eight) ≡ 8) × IsReach 39 (blanks_of 64 (columns_of modem64 (frame 50))) 6
    × IsNear modem64 between 6 zeros × IsNear modem64 between 6 light
unfolding unblanked frame columns_of column_in entries_of listed is_blank every
eight-not-few = (refl, reach 50 (inl refl), few-near modem64 between 6 zeros near-both.0, few-near modem64 between 6 light near-both.1)

pub fourteen-another : (message report : List ℕ) → length message ≡ 39 → length report ≡ 14
    → (wrong_of 64 (columns_of modem64 (frame 34)) [] (encode_of m16 39 zeros) ≡ 14) × IsReach 39 (blanks_of 64 (columns_of modem64 (frame 34))) 6
    × Repaired 39 (columns_of modem64 (frame 34)) [] light (close_of modem64 (record { rate = 39; doubtful = []; row = frame 34 }) message report)
fourteen-another message report long whole_report = (
  ap (wrong_of 64 (columns 34) []) zero-encodes ∙ wrong.2,
  reach 34 (inr refl),
  always-repaired modem64 (record { rate = 39; doubtful = []; row = frame 34 }) (all_there 34 (inr refl)) message report long whole_report light
      (reach 34 (inr refl)) (rate_known rate-39) refl light-39.word
      (omega (arith, ap (λ (w : List ℕ). differing_in (open_at (columns 34)) 64 w (best_word 64 (columns 34))) light-encodes, changed)),
)
