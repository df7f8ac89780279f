-- Laws of a word's total, pinned and changed places, of the places in which two words differ, and of the report.
--
--   total_of-suc, pinned_of-suc   one place more
--   pinned-summed          a cost at the ceiling is summed as it stands, and counted as pinned
--   pinned-total           the pinned places alone cost the ceiling each
--   pinned-told            no place is pinned exactly if no symbol of the word costs the ceiling at its place
--   total-bound            n costs of at most b cost at most n * b
--   differing-le, differing-self, differing-comm, differing-triangle, differing-none   differing is a distance of words of n places
--   differing-mono         where fewer places count, two words differ in no more of them; differing-fewer: so of those that count than of all
--   differing-set          a word with one symbol or another at a place
--   changed-blank, differing-open   a blank place is never changed, and what a word has at places that do not count never makes it differ
--   blank-cost, blank-total   all symbols cost the same at a blank place; so the total is the sum over the other places, and what the blank ones add is
--                          the same for every word of symbols
--   changed-differing      the changed places are those, of those that are not blank, in which a word differs from the word of best symbols
--   bytes_of-length, margin_bytes-length, report_of-length   how many bytes a report has: 14 where each count of places is one byte
--   changed-flag, changed-flags   the flags of changed places, and how many are 1
use Rattle.std.specs.Prelude.{Bool, true, false, not, cond, ◌&&◌, ◌≡◌, refl, List, [], ◌∷◌, ◌++◌, ◌≢◌, ◌↔◌, ◌⊎◌, T, ltb, eqb, length, set}
use Rattle.std.proofs.Common.{sym, ap₂, ◌∙◌, subst, inl, inr, ⊎_elim, add-one, arith, ltb→lt, eqb→eq, length-append, length-set, ext_get_or, get_or-set_same, get_or-set_other}
use Rattle.std.proofs.Math.Path.{ap}
use Rattle.std.proofs.Math.Option.{Option, none, some}
use Prim.Native.Nat.{ℕ, zero, suc, ◌+◌, ◌*◌, ◌/◌, ◌%◌, ◌<◌, ◌≤◌}
use Rattle.std.proofs.Math.Decide.{ℕ_discrete}
use borrow.Author.Tests.{lt-ltb, eq-eqb, ne_eqb, eqb-false, not-false}
use Rattle.lists.specs.Every.{both_left, both_right, both-intro, T_true, T_false}
use Rattle.lists.specs.Count.{bit, sum_of, sum_of-suc, sum_of-ext, sum_of-mono, sum_of-plus, sum_of-bound, count, count-nil, count-suc, count-ext, count-le, count-mono, count_none, count-zero, count-but}
use Rattle.soft.specs.Column.{cost_of, best_of, ceiling, is_blank}
use Rattle.soft.specs.Blank.{open_at, flag_at}
use Rattle.soft.specs.BlankLaws.{blank-same, flag-listed}
use Rattle.soft.specs.TestWord.{best_at, best_word}
use Rattle.soft.specs.Total.{symbol_at, cost_in, total_of, pinned_at, pinned_of, changed_at, changed_of, changed_flags, agree, differ_at, everywhere, differing_in, differing, bytes_of, margin_bytes, report_of}
use Rattle.soft.specs.TestWordLaws.{best_word-length, best_word-at}

module _ (columns : ℕ → List ℕ) (word : List ℕ) where
  pub total_of-suc : (n : ℕ) → total_of (suc n) columns word ≡ total_of n columns word + cost_in columns word n
  unfolding total_of
  total_of-suc n = sum_of-suc n (cost_in columns word)

  pub pinned_of-suc : (n : ℕ) → pinned_of (suc n) columns word ≡ pinned_of n columns word + bit (pinned_at columns word n)
  unfolding pinned_of
  pinned_of-suc n = count-suc n (pinned_at columns word)

  pub pinned-summed : (n : ℕ) → cost_in columns word n ≡ ceiling
      → (total_of (suc n) columns word ≡ total_of n columns word + ceiling) × (pinned_of (suc n) columns word ≡ suc (pinned_of n columns word))
  pinned-summed n e = (
    total_of-suc n ∙ ap (λ x. total_of n columns word + x) e,
    pinned_of-suc n ∙ ap (λ t. pinned_of n columns word + bit t) (eq-eqb (cost_in columns word n) ceiling e) ∙ add-one (pinned_of n columns word),
  )

  pub pinned-total : (n : ℕ) → pinned_of n columns word * ceiling ≤ total_of n columns word
  unfolding total_of pinned_of
  pinned-total zero = omega (arith, count-nil (pinned_at columns word))
  pinned-total (suc n) = go (ℕ_discrete (cost_in columns word n) ceiling) (pinned-total n)
    where
      go : Dec (cost_in columns word n ≡ ceiling) → pinned_of n columns word * ceiling ≤ total_of n columns word
          → pinned_of (suc n) columns word * ceiling ≤ total_of (suc n) columns word
      go (yes e) ih = omega (arith, (pinned-summed n e).0, (pinned-summed n e).1)
      go (no e) ih =
          omega
          (arith, total_of-suc n, pinned_of-suc n ∙ ap (λ t. pinned_of n columns word + bit t) (ne_eqb (cost_in columns word n) ceiling e))

  pub pinned-told : (n : ℕ) → (pinned_of n columns word ≡ 0) ↔ ((p : ℕ) → p < n → cost_in columns word p ≢ ceiling)
  unfolding pinned_of
  pinned-told n = (
    λ e p l. eqb-false (cost_in columns word p) ceiling (count-zero n (pinned_at columns word) e p l),
    λ h. count_none n (pinned_at columns word) (λ p l. ne_eqb (cost_in columns word p) ceiling (h p l)),
  )

  pub total-bound : (n b : ℕ) → ((p : ℕ) → p < n → cost_in columns word p ≤ b) → total_of n columns word ≤ n * b
  unfolding total_of
  total-bound n b h = sum_of-bound n b (cost_in columns word) h

  pub pinned-le : (n : ℕ) → pinned_of n columns word ≤ n
  unfolding pinned_of
  pinned-le n = count-le n (pinned_at columns word)

  pub changed-le : (n : ℕ) → changed_of n columns word ≤ n
  unfolding changed_of
  changed-le n = count-le n (changed_at columns word)

-- two words agree at a place exactly if both have an entry there and it is the same
pub agree-true : (u v : List ℕ) (p : ℕ) → p < length u → p < length v → symbol_at u p ≡ symbol_at v p → agree u v p ≡ true
unfolding agree
agree-true u v p lu lv e = simp (lt-ltb p (length u) lu, lt-ltb p (length v) lv, eq-eqb (symbol_at u p) (symbol_at v p) e)

pub agree-false : (u v : List ℕ) (p : ℕ) → p < length u → p < length v → symbol_at u p ≢ symbol_at v p → agree u v p ≡ false
unfolding agree
agree-false u v p lu lv e = simp (lt-ltb p (length u) lu, lt-ltb p (length v) lv, ne_eqb (symbol_at u p) (symbol_at v p) e)

pub differing-le : (n : ℕ) (u v : List ℕ) → differing n u v ≤ n
unfolding differing_in
differing-le n u v = count-le n (differ_at u v)

pub record AgreeAt (u v : List ℕ) (p : ℕ) : Type 0 where
  pub left : p < length u
  pub right : p < length v
  pub same : symbol_at u p ≡ symbol_at v p

pub agree-facts : (u v : List ℕ) (p : ℕ) → T (agree u v p) → AgreeAt u v p
unfolding agree
agree-facts u v p t =
    let a = both_right (ltb p (length u)) (ltb p (length v) && eqb (symbol_at u p) (symbol_at v p)) t in
    record {
      left = ltb→lt p (length u) (both_left (ltb p (length u)) (ltb p (length v) && eqb (symbol_at u p) (symbol_at v p)) t);
      right = ltb→lt p (length v) (both_left (ltb p (length v)) (eqb (symbol_at u p) (symbol_at v p)) a);
      same = eqb→eq (symbol_at u p) (symbol_at v p) (both_right (ltb p (length v)) (eqb (symbol_at u p) (symbol_at v p)) a);
    }

pub facts-agree : (u v : List ℕ) (p : ℕ) → AgreeAt u v p → agree u v p ≡ true
facts-agree u v p a = agree-true u v p a.left a.right a.same

agree-sym : (u v : List ℕ) (p : ℕ) → AgreeAt u v p → AgreeAt v u p
agree-sym u v p a = record { left = a.right; right = a.left; same = sym a.same }

agree_trans : (u v w : List ℕ) (p : ℕ) → AgreeAt u v p → AgreeAt v w p → AgreeAt u w p
agree_trans u v w p a b = record { left = a.left; right = b.right; same = a.same ∙ b.same }

-- what holds of a test, by what it is
decide : (b : Bool) → (T b → ⊥) ⊎ T b
decide true = inr tt
decide false = inl (λ t. t)

agree-comm : (u v : List ℕ) (p : ℕ) → agree u v p ≡ agree v u p
agree-comm u v p =
    ⊎_elim
    (λ no-uv. T_false (agree u v p) no-uv ∙ sym (T_false (agree v u p) (λ t. no-uv (subst T (sym (facts-agree u v p (agree-sym v u p (agree-facts v u p t)))) tt))))
    (λ t. T_true (agree u v p) t ∙ sym (facts-agree v u p (agree-sym u v p (agree-facts u v p t))))
    (decide (agree u v p))

pub differing-self : (n : ℕ) (u : List ℕ) → n ≤ length u → differing n u u ≡ 0
unfolding differing_in
differing-self n u l = count_none n (differ_at u u) (λ p k. ap not (agree-true u u p (omega arith) (omega arith) refl))

pub differing-comm : (counts : ℕ → Bool) (n : ℕ) (u v : List ℕ) → differing_in counts n u v ≡ differing_in counts n v u
unfolding differing_in
differing-comm counts n u v = count-ext n _ _ (λ p l. ap (λ b. counts p && not b) (agree-comm u v p))

pub differing-triangle : (counts : ℕ → Bool) (n : ℕ) (u v w : List ℕ) → differing_in counts n u w ≤ differing_in counts n u v + differing_in counts n v w
unfolding differing_in count
differing-triangle counts n u v w =
    let m = sum_of-mono n (λ p. bit (counts p && differ_at u w p)) (λ p. bit (counts p && differ_at u v p) + bit (counts p && differ_at v w p)) (λ p l. counted (counts p) p) in
    omega (arith, m, sum_of-plus n (λ p. bit (counts p && differ_at u v p)) (λ p. bit (counts p && differ_at v w p)))
  where
    third : (a b c : Bool) → (T a → T b → T c) → bit (not c) ≤ bit (not a) + bit (not b)
    third a b true h = omega arith
    third true true false h = absurd (h tt tt)
    third true false false h = omega arith
    third false b false h = omega arith

    at : (p : ℕ) → bit (differ_at u w p) ≤ bit (differ_at u v p) + bit (differ_at v w p)
    at p =
        third (agree u v p) (agree v w p) (agree u w p)
        (λ a b. subst T (sym (facts-agree u w p (agree_trans u v w p (agree-facts u v p a) (agree-facts v w p b)))) tt)

    counted : (c : Bool) (p : ℕ) → bit (c && differ_at u w p) ≤ bit (c && differ_at u v p) + bit (c && differ_at v w p)
    counted true p = at p
    counted false p = omega arith

-- words of n places that differ nowhere are equal
pub differing-none : (n : ℕ) (u v : List ℕ) → length u ≡ n → length v ≡ n → differing n u v ≡ 0 → u ≡ v
unfolding differing_in
differing-none n u v lu lv e =
    ext_get_or 0 u v (lu ∙ sym lv)
    (λ p l. (agree-facts u v p (subst T (sym (not-false (agree u v p) (count-zero n (differ_at u v) e p (omega arith)))) tt)).same)

pub differing-mono : (counts fewer : ℕ → Bool) (n : ℕ) (u v : List ℕ) → ((p : ℕ) → p < n → T (fewer p) → T (counts p)) → differing_in fewer n u v ≤ differing_in counts n u v
unfolding differing_in
differing-mono counts fewer n u v h =
    count-mono n (λ p. fewer p && differ_at u v p) (λ p. counts p && differ_at u v p)
    (λ p l t.
    both-intro (counts p) (differ_at u v p) (h p l (both_left (fewer p) (differ_at u v p) t)) (both_right (fewer p) (differ_at u v p) t))

pub differing-fewer : (counts : ℕ → Bool) (n : ℕ) (u v : List ℕ) → differing_in counts n u v ≤ differing n u v
differing-fewer counts n u v = differing-mono everywhere counts n u v (λ p l t. tt)

-- at a place that is written anew a word agrees with one that has the symbol written there
agree-set : (u v : List ℕ) (p x : ℕ) → p < length u → p < length v → agree u (set v p x) p ≡ eqb (symbol_at u p) x
unfolding agree
agree-set u v p x lu lv =
    simp (lt-ltb p (length u) lu, lt-ltb p (length (set v p x)) (rw length-set lv), get_or-set_same v p x 0 lv)

-- and at another place it does not matter what is written
agree-beside : (u v : List ℕ) (p x y q : ℕ) → q ≢ p → agree u (set v p x) q ≡ agree u (set v p y) q
unfolding agree
agree-beside u v p x y q other =
    ap₂ (λ (m s : ℕ). ltb q (length u) && (ltb q m && eqb (symbol_at u q) s)) (length-set v p x ∙ sym (length-set v p y))
    (get_or-set_other v p q x 0 other ∙ sym (get_or-set_other v p q y 0 other))

-- a word with the symbol x or y at place p: the other places differ equally from a word
pub differing-set : (counts : ℕ → Bool) (n : ℕ) (u v : List ℕ) (p x y : ℕ) → p < n → p < length u → p < length v
    → differing_in counts n u (set v p x) + bit (counts p && not (eqb (symbol_at u p) y))
    ≡ differing_in counts n u (set v p y) + bit (counts p && not (eqb (symbol_at u p) x))
unfolding differing_in
differing-set counts n u v p x y l lu lv =
    ap (λ b. count n (λ q. counts q && differ_at u (set v p x) q) + bit (counts p && not b)) (sym (agree-set u v p y lu lv))
    ∙ count-but n p (λ q. counts q && differ_at u (set v p x) q) (λ q. counts q && differ_at u (set v p y) q) l
    (λ q k other. ap (λ b. counts q && not b) (agree-beside u v p x y q other))
    ∙ ap (λ b. count n (λ q. counts q && differ_at u (set v p y) q) + bit (counts p && not b)) (agree-set u v p x lu lv)

pub changed-blank : (columns : ℕ → List ℕ) (word : List ℕ) (p : ℕ) → is_blank (columns p) ≡ true → changed_at columns word p ≡ false
changed-blank columns word p e = ap (λ b. not b && not (eqb (symbol_at word p) (best_of (columns p)))) e

-- words that agree at the places that count differ equally from any other
pub differing-open : (counts : ℕ → Bool) (n : ℕ) (u v t : List ℕ) → length u ≡ length v
    → ((p : ℕ) → p < n → counts p ≡ true → symbol_at u p ≡ symbol_at v p) → differing_in counts n u t ≡ differing_in counts n v t
unfolding differing_in agree
differing-open counts n u v t long same =
    count-ext n (λ p. counts p && differ_at u t p) (λ p. counts p && differ_at v t p) (λ p l. at p l (counts p) refl)
  where
    at : (p : ℕ) → p < n → (b : Bool) → counts p ≡ b → (counts p && differ_at u t p) ≡ (counts p && differ_at v t p)
    at p l true e =
        ap₂ (λ (m s : ℕ). counts p && not (ltb p m && (ltb p (length t) && eqb s (symbol_at t p)))) long (same p l e)
    at p l false e = ap (λ b. b && differ_at u t p) e ∙ sym (ap (λ b. b && differ_at v t p) e)

-- at a blank place every symbol costs what symbol 0 costs
pub blank-cost : (columns : ℕ → List ℕ) (word : List ℕ) (p : ℕ) → is_blank (columns p) ≡ true → symbol_at word p < length (columns p)
    → cost_in columns word p ≡ cost_of (columns p) 0
blank-cost columns word p e l = (blank-same (columns p)).0 e (symbol_at word p) 0 l (omega arith)

-- what the places that are not blank cost, and what the blank ones do
unfoldable pub open_total : ℕ → (ℕ → List ℕ) → List ℕ → ℕ
open_total n columns word = sum_of n (λ p. cond (open_at columns p) (cost_in columns word p) 0)

unfoldable pub blank_total : ℕ → (ℕ → List ℕ) → ℕ
blank_total n columns = sum_of n (λ p. cond (open_at columns p) 0 (cost_of (columns p) 0))

pub blank-total : (n : ℕ) (columns : ℕ → List ℕ) (word : List ℕ) → ((p : ℕ) → p < n → symbol_at word p < length (columns p))
    → total_of n columns word ≡ open_total n columns word + blank_total n columns
unfolding total_of open_total blank_total
blank-total n columns word symbols =
    sum_of-ext n (cost_in columns word) (λ p. cond (open_at columns p) (cost_in columns word p) 0 + cond (open_at columns p) 0 (cost_of (columns p) 0))
    (λ p l. at p l (is_blank (columns p)) refl)
    ∙ sum_of-plus n (λ p. cond (open_at columns p) (cost_in columns word p) 0) (λ p. cond (open_at columns p) 0 (cost_of (columns p) 0))
  where
    at : (p : ℕ) → p < n → (b : Bool) → is_blank (columns p) ≡ b
        → cost_in columns word p ≡ cond (not (is_blank (columns p))) (cost_in columns word p) 0 + cond (not (is_blank (columns p))) 0 (cost_of (columns p) 0)
    at p l true e =
        omega (
          arith,
          blank-cost columns word p e (symbols p l),
          ap (λ b. cond (not b) (cost_in columns word p) 0 + cond (not b) 0 (cost_of (columns p) 0)) e,
        )
    at p l false e =
        omega (arith, ap (λ b. cond (not b) (cost_in columns word p) 0 + cond (not b) 0 (cost_of (columns p) 0)) e)

-- the changed places of a word of n places are those, of those that are not blank, in which it differs from the word of best symbols
pub changed-differing : (n : ℕ) (columns : ℕ → List ℕ) (word : List ℕ) → length word ≡ n
    → changed_of n columns word ≡ differing_in (open_at columns) n word (best_word n columns)
unfolding changed_of differing_in
changed-differing n columns word l =
    count-ext n (changed_at columns word) (λ p. open_at columns p && differ_at word (best_word n columns) p)
    (λ p k. ap (λ b. open_at columns p && not b) (at p k))
  where
    best : (p : ℕ) → p < n → best_at columns p ≡ symbol_at (best_word n columns) p
    best p k = sym (best_word-at n columns p k)

    at : (p : ℕ) → p < n → eqb (symbol_at word p) (best_at columns p) ≡ agree word (best_word n columns) p
    at p k = go (ℕ_discrete (symbol_at word p) (best_at columns p))
      where
        long : p < length (best_word n columns)
        long = omega (arith, best_word-length n columns)

        go : Dec (symbol_at word p ≡ best_at columns p) → eqb (symbol_at word p) (best_at columns p) ≡ agree word (best_word n columns) p
        go (yes e) =
            eq-eqb (symbol_at word p) (best_at columns p) e ∙ sym (agree-true word (best_word n columns) p (omega arith) long (e ∙ best p k))
        go (no e) =
            ne_eqb (symbol_at word p) (best_at columns p) e
            ∙ sym (agree-false word (best_word n columns) p (omega arith) long (λ q. e (q ∙ sym (best p k))))

pub bytes_of-length : (n v : ℕ) → length (bytes_of n v) ≡ n
unfolding bytes_of
bytes_of-length zero v = refl
bytes_of-length (suc n) v =
    length-append (bytes_of n (v / 256)) (v % 256 ∷ []) ∙ ap (λ k. k + 1) (bytes_of-length n (v / 256)) ∙ add-one n

pub margin_bytes-length : (margin : Option ℕ) → length (margin_bytes margin) ≡ 5
unfolding margin_bytes
margin_bytes-length none = omega (arith, length-append (bytes_of 1 0) (bytes_of 4 0), bytes_of-length 1 0, bytes_of-length 4 0)
margin_bytes-length (some d) = omega (arith, length-append (bytes_of 1 1) (bytes_of 4 d), bytes_of-length 1 1, bytes_of-length 4 d)

pub report_of-length : (wide total tests pinned changed : ℕ) (margin : Option ℕ) (mark : ℕ)
    → length (report_of wide total tests pinned changed margin mark) ≡ 12 + wide + wide
unfolding report_of
report_of-length wide total tests pinned changed margin mark =
    omega (
      arith,
      length-append (bytes_of 4 total) (bytes_of 2 tests ++ (bytes_of wide pinned ++ (bytes_of wide changed ++ (margin_bytes margin ++ bytes_of 1 mark)))),
      length-append (bytes_of 2 tests) (bytes_of wide pinned ++ (bytes_of wide changed ++ (margin_bytes margin ++ bytes_of 1 mark))),
      length-append (bytes_of wide pinned) (bytes_of wide changed ++ (margin_bytes margin ++ bytes_of 1 mark)),
      length-append (bytes_of wide changed) (margin_bytes margin ++ bytes_of 1 mark),
      length-append (margin_bytes margin) (bytes_of 1 mark),
      bytes_of-length 4 total,
      bytes_of-length 2 tests,
      bytes_of-length wide pinned,
      bytes_of-length wide changed,
      margin_bytes-length margin,
      bytes_of-length 1 mark,
    )

-- ---- the flags of changed places

module _ (n : ℕ) (columns : ℕ → List ℕ) (word : List ℕ) where
  pub changed-flag : (p : ℕ) → p < n → flag_at (changed_flags n columns word) p ≡ changed_at columns word p
  unfolding changed_flags
  changed-flag p l = flag-listed n (changed_at columns word) p l

  pub changed-flags : count n (flag_at (changed_flags n columns word)) ≡ changed_of n columns word
  unfolding changed_of
  changed-flags = count-ext n (flag_at (changed_flags n columns word)) (changed_at columns word) changed-flag
