-- Over a whole frame: the count of test words that the report shows is at how many of them the engine gives a codeword.
--
--   blank_places columns   the list of blank places, rising; blank-places-fit, blank-places-are: it is fit for the engine, and they are those of the columns
--   gives k blanks codeword q t   the engine, asked with the test word t, gives a codeword
--   engine_tests k blanks codeword q tests   at how many of the test words it does
--   test-passed           a test word of a frame passes the engine's checks
--   engine-tests          how many test words have a codeword within T is at how many the engine gives one, for every rate, columns and doubtful places
--   tree-tests            so it is with the count in what `chase::nearest` finds
use Rattle.std.specs.Prelude.{Bool, true, false, not, cond, ◌&&◌, ◌≡◌, ℕ, zero, suc, ◌+◌, ◌<◌, ◌≤◌, T, eqb, ltb, leb, length, get_or, take}
use Rattle.std.proofs.Math.Path.{refl, ap₂}
use Rattle.std.proofs.Common.{sym, ap, ◌∙◌, subst, inl, inr, arith, lt-ltb, le-leb}
use mathlib.Core.List.{List, [], ◌∷◌, ◌++◌, append-nil, Memᴰ}
use Rattle.std.proofs.Math.Option.{Option, some, none}
use Rattle.lists.specs.Count.{bit, kept, kept-nil, kept-suc, kept-passes, kept-member}
use Rattle.lists.specs.Distinct.{among, among-member, not-among, below, and_left, and_right, and_both}
use Rattle.lists.specs.Every.{true-T, T_true}
use Rattle.lists.specs.Member.{member-at}
use Rattle.lists.specs.Words.{all_below, all_below-from}
use Rattle.refusals.specs.Refusal.{accepted}
use Rattle.code.specs.Encoding.{known_rate}
use Rattle.soft.specs.Column.{symbols, column_of, is_blank}
use Rattle.soft.specs.ColumnLaws.{best-below, second_below, column-length}
use Rattle.soft.specs.Blank.{blank_at}
use Rattle.soft.specs.TestWord.{Offered, test_words}
use Rattle.soft.specs.TestWordLaws.{test_words-length, test_words-symbol}
use Rattle.near.specs.Near.{is_some}
use Rattle.near.specs.Near as Near
use Rattle.near.specs.Here.{blank_limit, blanks_in, tests_near}
use Rattle.interpolant.specs.LeastQ.{reading_length}
use Rattle.chase.specs.Call.{Asked, nearest_of}
use Rattle.chase.specs.Laws.{nearest-call}
use Rattle.book.specs.opening.Opening as Opening
use Rattle.book.specs.opening.OpeningLaws.{below_of}
use Rattle.book64.specs.Here.{places, fit_places, tests_for}
use Rattle.book64.specs.engine.Engine.{unblanked_by, near_by, Eliminated, engine_checks, engine_of}
use Rattle.book64.specs.engine.EngineLaws.{EnginePassed, engine-none, engine-some, engine-fits}
use Rattle.book64.specs.engine.Single.{BlankAt, same_number, same-near}

-- ---- the list of blank places

unfoldable pub blank_places : (ℕ → List ℕ) → List ℕ
blank_places columns = kept places (blank_at columns)

-- one more place, above all others
rises : (least : ℕ) (l : List ℕ) (n : ℕ) → least ≤ n → ((p : ℕ) → Memᴰ p l → p < n) → Opening.rising_from least l ≡ true
    → Opening.rising_from least (l ++ (n ∷ [])) ≡ true
unfolding Opening.rising_from
rises least [] n low above e = and_both (leb least n) true (le-leb least n low) refl
rises least (p ∷ l) n low above e =
    and_both (leb least p) (Opening.rising_from (suc p) (l ++ (n ∷ []))) (and_left (leb least p) (Opening.rising_from (suc p) l) e)
    (rises (suc p) l n (above p (Memᴰ.head refl)) (λ q m. above q (Memᴰ.tail m)) (and_right (leb least p) (Opening.rising_from (suc p) l) e))

kept-rises : (n : ℕ) (f : ℕ → Bool) → Opening.rising_from 0 (kept n f) ≡ true
unfolding Opening.rising_from
kept-rises zero f = ap (Opening.rising_from 0) (kept-nil f)
kept-rises (suc n) f = ap (Opening.rising_from 0) (kept-suc n f) ∙ go (f n) (kept-rises n f)
  where
    go : (b : Bool) → Opening.rising_from 0 (kept n f) ≡ true → Opening.rising_from 0 (kept n f ++ cond b (n ∷ []) []) ≡ true
    go true e = rises 0 (kept n f) n (omega arith) (λ p m. (kept-passes n f p m).0) e
    go false e = ap (Opening.rising_from 0) (append-nil (kept n f)) ∙ e

pub blank-places-fit : (columns : ℕ → List ℕ) → fit_places (blank_places columns) ≡ true
unfolding Opening.fit_places Opening.rising blank_places
blank-places-fit columns =
    let l = kept places (blank_at columns) in
    and_both (below places l) (Opening.rising_from 0 l)
    (below_of places l (λ i h. (kept-passes places (blank_at columns) (get_or l i 0) (member-at l 0 i h)).0)) (kept-rises places (blank_at columns))

pub blank-places-are : (columns : ℕ → List ℕ) → BlankAt (blank_places columns) columns
unfolding unblanked_by blank_places
blank-places-are columns p h = go (is_blank (columns p)) refl
  where
    l : List ℕ
    l = kept places (blank_at columns)

    at : {b : Bool} → among p l ≡ b → not b ≡ (ltb p places && not (among p l))
    at e = sym (ap₂ (λ a b. a && not b) (lt-ltb p places h) e)

    go : (b : Bool) → is_blank (columns p) ≡ b → not b ≡ (ltb p places && not (among p l))
    go true e = at (among-member (kept-member places (blank_at columns) p h (true-T (is_blank (columns p)) e)))
    go false e = at (not-among p l (λ m. subst T e (kept-passes places (blank_at columns) p m).1))

-- ---- the count

unfoldable pub gives : ℕ → List ℕ → List ℕ → List ℕ → List ℕ → Bool
gives k blanks codeword q t = eqb (engine_of k t blanks codeword q).number accepted

unfoldable pub engine_tests : ℕ → List ℕ → List ℕ → List ℕ → List (List ℕ) → ℕ
engine_tests k blanks codeword q [] = 0
engine_tests k blanks codeword q (t ∷ tests) = bit (gives k blanks codeword q t) + engine_tests k blanks codeword q tests

-- where the checks pass, it gives one exactly if one is within T
gives-near : (k : ℕ) (word blanks codeword q : List ℕ) → EnginePassed k word blanks (length codeword) (length q)
    → is_some (near_by k blanks word) ≡ gives k blanks codeword q word
unfolding gives
gives-near k word blanks codeword q P = go (near_by k blanks word) refl
  where
    fits : engine_checks k word blanks (length codeword) (length q) ≡ accepted
    fits = engine-fits k word blanks codeword q P

    go : (o : Option (List ℕ)) → near_by k blanks word ≡ o → is_some o ≡ eqb (engine_of k word blanks codeword q).number accepted
    go none e = sym (ap (λ (c : Eliminated). eqb c.number accepted) (engine-none k word blanks codeword q fits e))
    go (some m) e = sym (ap (λ (c : Eliminated). eqb c.number accepted) (engine-some k word blanks codeword q fits e))

module _ (k : ℕ) (known : known_rate k ≡ true) (columns : ℕ → List ℕ) (full : (p : ℕ) → p < places → length (columns p) ≡ symbols)
    (few : blanks_in columns ≤ blank_limit k) (codeword q : List ℕ) (codeword_long : length codeword ≡ places) (q_long : length q ≡ reading_length) where
  abbrev blanks : List ℕ
  blanks = blank_places columns

  pub test-passed : (doubtful t : List ℕ) → Memᴰ t (test_words places columns doubtful) → EnginePassed k t blanks (length codeword) (length q)
  test-passed doubtful t m =
      record {
        known = known;
        word_long = test_words-length places columns doubtful t m;
        codeword_long = codeword_long;
        q_long = q_long;
        symbols = T_true (all_below symbols t) (all_below-from symbols t (λ p h. at p (omega (arith, test_words-length places columns doubtful t m))));
        fit = blank-places-fit columns;
        few = omega (arith, same_number blanks (blank-places-fit columns) columns (blank-places-are columns));
      }
    where
      at : (p : ℕ) → p < places → get_or t p 0 < symbols
      at p h = go (test_words-symbol places columns doubtful t m p h)
        where
          go : Offered columns p (get_or t p 0) → get_or t p 0 < symbols
          go (inl e) = omega (arith, e, full p h, best-below (columns p) (omega (arith, full p h)))
          go (inr e) = omega (arith, e, full p h, second_below (columns p) (omega (arith, full p h)))

  -- test word by test word
  each : (tests : List (List ℕ)) → ((t : List ℕ) → Memᴰ t tests → EnginePassed k t blanks (length codeword) (length q))
      → tests_near k columns tests ≡ engine_tests k blanks codeword q tests
  unfolding Near.tests_near engine_tests
  each [] h = refl
  each (t ∷ tests) h =
      ap₂ (λ a b. bit a + b)
      (ap is_some (same-near blanks (blank-places-fit columns) columns (blank-places-are columns) k t)
      ∙ gives-near k t blanks codeword q (h t (Memᴰ.head refl)))
      (each tests (λ u m. h u (Memᴰ.tail m)))

  pub engine-tests : (doubtful : List ℕ) → tests_for k columns doubtful ≡ engine_tests k blanks codeword q (test_words places columns doubtful)
  engine-tests doubtful = each (test_words places columns doubtful) (test-passed doubtful)

-- as the search counts them, of a list of costs
pub tree-tests : (k : ℕ) (costs doubtful : List ℕ) (doubt : ℕ) → Asked k costs doubtful doubt → (codeword q : List ℕ) → length codeword ≡ places
    → length q ≡ reading_length
    → (nearest_of k costs doubtful doubt).tests
    ≡ engine_tests k (blank_places (column_of symbols costs)) codeword q (test_words places (column_of symbols costs) (take doubt doubtful))
tree-tests k costs doubtful doubt A codeword q codeword_long q_long =
    ((nearest-call k costs doubtful doubt (nearest_of k costs doubtful doubt) refl).asked A).count
    ∙ engine-tests k A.known (column_of symbols costs) (λ p h. column-length symbols costs p) A.few_blank codeword q codeword_long q_long
    (take doubt doubtful)
