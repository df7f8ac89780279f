-- The order of messages, and the cases of two answers, for every modem of the family.
--
--   before-yes, before-no, before-next, before-end   which of two messages is the smaller one, from symbol t on
--   lesser-absent, lesser-unrivalled, lesser_both, lesser-alone, lesser-one, lesser-other   the lesser of two margins, by their cases
--   join-other, join_first   two findings of which one has no answer
--   join-cheaper, join-dearer   two answers with different totals: the other is a rival
--   join-before, join-after, join-same   two with one total: by their messages, and where these are one
--   before-cmp, after-cmp   the order of messages as the library compares lists
--   better-cmp, worse-cmp   which of two totals with their messages is better, as it compares pairs
--   join-less, join-greater, join-equal   two answers, by what it answers
use Rattle.std.specs.Prelude.{Bool, ◌&&◌, ◌||◌, ◌≡◌, List, [], ◌∷◌, ℕ, suc, ◌+◌, ◌-◌, ◌<◌, ◌≤◌, ltb, eqb, min, length, get_or, take, drop, None, Some}
use Rattle.std.specs.declared.cmp.Ordering.{Ordering}
use Rattle.std.specs.declared.cmp.Ordering.TheVariants.{Less, Equal, Greater}
use Rattle.std.specs.Ordering.{is_lt, is_gt, ordering_then, ordering_reverse, nat_cmp}
use Rattle.std.specs.Cmp.{nat_cmp_is}
use Rattle.std.specs.Cmp.Lexicographic.{slice_cmp}
use Rattle.std.proofs.lemmas.Cmp.{nat_list_cmp_total}
use Rattle.std.proofs.Math.Bool.{true, false, cond}
use Rattle.std.proofs.Math.Decide.{dec_lt}
use Rattle.std.proofs.Math.Path.{refl, sym, ap, ap₂}
use Rattle.std.proofs.Common.{◌∙◌, add-one, arith, length-take, drop_of_length-le, drop-cons, get_or-take, lt-ltb, le-ltb, eq-eqb, ne_eqb}
use Rattle.std.proofs.Math.Option.{Option, some}
use Rattle.lists.specs.Words.{is_before}
use Rattle.lists.specs.Margin.{lesser, lesser-none, lesser-first, lesser-second, lesser-zero}
use Rattle.answer.specs.Margin.{Margin, margin_is, margin_from, from_is}
use Rattle.answer.specs.declared.Answer.{Answer}
use Rattle.answer.specs.declared.Answer.TheVariants.{NoneNear, Near}
use Rattle.search.specs.Result.{Finding, found-same}
use Rattle.search.specs.Answered.{counted, answering}
use Rattle.search.specs.Better.{is_better, better_for, better_of}

-- ---- the order of messages

before-heads : (a b : ℕ) (m n : List ℕ) → a ≡ b → is_before (a ∷ m) (b ∷ n) ≡ is_before m n
unfolding is_before
before-heads a b m n e = go (ltb a b) (le-ltb a b (omega arith)) (eqb a b) (eq-eqb a b e)
  where
    go : (c : Bool) → c ≡ false → (d : Bool) → d ≡ true → is_before (a ∷ m) (b ∷ n) ≡ is_before m n
    go c p d q = simp (le-ltb a b (omega arith), eq-eqb a b e)

before-less : (a b : ℕ) (m n : List ℕ) → a < b → is_before (a ∷ m) (b ∷ n) ≡ true
unfolding is_before
before-less a b m n h = simp (lt-ltb a b h)

before_more : (a b : ℕ) (m n : List ℕ) → b < a → is_before (a ∷ m) (b ∷ n) ≡ false
unfolding is_before
before_more a b m n h = simp (le-ltb a b (omega arith), ne_eqb a b (λ (e : a ≡ b). omega arith))

-- of two numbers the first is smaller, the second, or they are equal
module _ (X : ℕ → ℕ → Type 0) (less : (a b : ℕ) → a < b → X a b) (more : (a b : ℕ) → b < a → X a b) (same : (a b : ℕ) → a ≡ b → X a b) where
  three-ways : (a b : ℕ) → X a b
  three-ways a b = go (dec_lt a b) (dec_lt b a)
    where
      go : Dec (a < b) → Dec (b < a) → X a b
      go (yes h) q = less a b h
      go (no n) (yes h) = more a b h
      go (no n) (no m) = same a b (omega arith)

pub before-cmp : (m n : List ℕ) → is_before m n ≡ is_lt (slice_cmp nat_cmp m n)
unfolding is_before
before-cmp [] [] = refl
before-cmp [] (b ∷ n) = refl
before-cmp (a ∷ m) [] = refl
before-cmp (a ∷ m) (b ∷ n) =
    three-ways (λ x y. is_before (x ∷ m) (y ∷ n) ≡ is_lt (ordering_then (nat_cmp x y) (slice_cmp nat_cmp m n)))
    (λ x y h. before-less x y m n h ∙ ap (λ o. is_lt (ordering_then o (slice_cmp nat_cmp m n))) (nat_cmp_is x y Less h))
    (λ x y h. before_more x y m n h ∙ ap (λ o. is_lt (ordering_then o (slice_cmp nat_cmp m n))) (nat_cmp_is x y Greater h))
    (λ x y h. before-heads x y m n h ∙ before-cmp m n ∙ ap (λ o. is_lt (ordering_then o (slice_cmp nat_cmp m n))) (nat_cmp_is x y Equal h))
    a b

turned : (o : Ordering) → is_lt (ordering_reverse o) ≡ is_gt o
turned Less = refl
turned Equal = refl
turned Greater = refl

pub after-cmp : (m n : List ℕ) → is_before n m ≡ is_gt (slice_cmp nat_cmp m n)
after-cmp m n =
    before-cmp n m ∙ ap is_lt (nat_list_cmp_total.antisymm n m) ∙ turned (slice_cmp nat_cmp m n)

module _ (k t : ℕ) (a b : List ℕ) {size : ℕ} (small : k ≤ size) (la : length a ≡ size) (lb : length b ≡ size) (inside : t < k) where
  -- from symbol t on
  heads : (l : List ℕ) → length l ≡ size → drop t (take k l) ≡ get_or l t 0 ∷ drop (suc t) (take k l)
  heads l e =
      drop-cons (take k l) t 0 (omega (arith, length-take k l))
      ∙ ap (λ x. x ∷ drop (suc t) (take k l)) (get_or-take k l t 0 inside)

  pub before-yes : get_or a t 0 < get_or b t 0 → is_before (drop t (take k a)) (drop t (take k b)) ≡ true
  before-yes h = ap₂ is_before (heads a la) (heads b lb) ∙ before-less _ _ _ _ h

  pub before-no : get_or b t 0 < get_or a t 0 → is_before (drop t (take k a)) (drop t (take k b)) ≡ false
  before-no h = ap₂ is_before (heads a la) (heads b lb) ∙ before_more _ _ _ _ h

  pub before-next : get_or a t 0 ≡ get_or b t 0 → is_before (drop t (take k a)) (drop t (take k b)) ≡ is_before (drop (t + 1) (take k a)) (drop (t + 1) (take k b))
  before-next h =
      ap₂ is_before (heads a la) (heads b lb) ∙ before-heads _ _ _ _ h
      ∙ ap (λ n. is_before (drop n (take k a)) (drop n (take k b))) (sym (add-one t))

-- nothing is left
pub before-end : (k t : ℕ) (a b : List ℕ) {size : ℕ} → t ≡ k → k ≤ size → length a ≡ size → length b ≡ size
    → is_before (drop t (take k a)) (drop t (take k b)) ≡ false
unfolding is_before
before-end k t a b {size} e h la lb = ap₂ is_before (none_left a la) (none_left b lb)
  where
    none_left : (l : List ℕ) → length l ≡ size → drop t (take k l) ≡ []
    none_left l q = let b : length (take k l) ≤ t = omega (arith, length-take k l) in drop_of_length-le (take k l) b

-- ---- two answers

-- the smaller of two margins
module _ (first second : Margin) where
  pub lesser-absent : first ≡ None → margin_is second ≡ lesser (margin_is first) (margin_is second)
  unfolding margin_is lesser
  lesser-absent e = sym (ap (λ d. lesser (margin_is d) (margin_is second)) e)

  pub lesser-unrivalled : second ≡ None → margin_is first ≡ lesser (margin_is first) (margin_is second)
  unfolding margin_is
  lesser-unrivalled e = sym (ap (λ d. lesser (margin_is first) (margin_is d)) e ∙ lesser-none (margin_is first))

  module _ {one : ℕ} (a : first ≡ Some one) where
    pub lesser-alone : second ≡ None → margin_is (Some one) ≡ lesser (margin_is first) (margin_is second)
    unfolding margin_is
    lesser-alone e = sym (ap₂ (λ d g. lesser (margin_is d) (margin_is g)) a e ∙ lesser-none (some one))

    module _ {other : ℕ} (b : second ≡ Some other) where
      pub lesser-other : other < one → margin_is (Some other) ≡ lesser (margin_is first) (margin_is second)
      unfolding margin_is
      lesser-other h = sym (ap₂ (λ d g. lesser (margin_is d) (margin_is g)) a b ∙ lesser-second one other (omega arith))

      pub lesser-one : one ≤ other → margin_is (Some one) ≡ lesser (margin_is first) (margin_is second)
      unfolding margin_is
      lesser-one h = sym (ap₂ (λ d g. lesser (margin_is d) (margin_is g)) a b ∙ lesser-first one other h)

    pub lesser_both : {other least : ℕ} → second ≡ Some other → least ≡ min one other → margin_is (Some least) ≡ lesser (margin_is first) (margin_is second)
    unfolding margin_is
    lesser_both {other} {least} b e = go (dec_lt other one)
      where
        go : Dec (other < one) → margin_is (Some least) ≡ lesser (margin_is first) (margin_is second)
        go (yes h) = let l : least ≡ other = omega arith in ap (λ n. margin_is (Some n)) l ∙ lesser-other b h
        go (no n) = let l : least ≡ one = omega arith in ap (λ n. margin_is (Some n)) l ∙ lesser-one b (omega arith)

-- which of two totals with their messages is better
module _ (k t u : ℕ) (m n : List ℕ) where
  cheaper-wins : t < u → is_better k t m u n ≡ true
  unfolding is_better
  cheaper-wins h = ap (λ c. c || (eqb t u && is_before (take k m) (take k n))) (lt-ltb t u h)

  dearer-loses : u < t → is_better k t m u n ≡ false
  unfolding is_better
  dearer-loses h =
      ap₂ (λ c d. c || (d && is_before (take k m) (take k n))) (le-ltb t u (omega arith)) (ne_eqb t u (λ (e : t ≡ u). omega arith))

  equal_by : t ≡ u → is_better k t m u n ≡ is_before (take k m) (take k n)
  unfolding is_better
  equal_by e = ap₂ (λ c d. c || (d && is_before (take k m) (take k n))) (le-ltb t u (omega arith)) (eq-eqb t u e)

  -- as the library compares the pairs
  abbrev pub order_of : Ordering
  order_of = ordering_then (nat_cmp t u) (slice_cmp nat_cmp (take k m) (take k n))

  by-total : {o : Ordering} → o ≡ nat_cmp t u → ordering_then o (slice_cmp nat_cmp (take k m) (take k n)) ≡ order_of
  by-total e = ap (λ o. ordering_then o (slice_cmp nat_cmp (take k m) (take k n))) e

module _ (k : ℕ) (m n : List ℕ) where
  pub better-cmp : (t u : ℕ) → is_better k t m u n ≡ is_lt (order_of k t u m n)
  better-cmp =
      three-ways (λ t u. is_better k t m u n ≡ is_lt (order_of k t u m n))
      (λ t u h. cheaper-wins k t u m n h ∙ ap is_lt (by-total k t u m n (nat_cmp_is t u Less h)))
      (λ t u h. dearer-loses k t u m n h ∙ ap is_lt (by-total k t u m n (nat_cmp_is t u Greater h)))
      (λ t u h. equal_by k t u m n h ∙ before-cmp (take k m) (take k n) ∙ ap is_lt (by-total k t u m n (nat_cmp_is t u Equal h)))

  pub worse-cmp : (t u : ℕ) → is_better k u n t m ≡ is_gt (order_of k t u m n)
  worse-cmp =
      three-ways (λ t u. is_better k u n t m ≡ is_gt (order_of k t u m n))
      (λ t u h. dearer-loses k u t n m h ∙ ap is_gt (by-total k t u m n (nat_cmp_is t u Less h)))
      (λ t u h. cheaper-wins k u t n m h ∙ ap is_gt (by-total k t u m n (nat_cmp_is t u Greater h)))
      (λ t u h. equal_by k u t n m (sym h) ∙ after-cmp (take k m) (take k n) ∙ ap is_gt (by-total k t u m n (nat_cmp_is t u Equal h)))

module _ (k : ℕ) (a b : Finding) where
  -- what is kept, by the two answers
  kept : (r f : Finding) {x y : Answer} → a.answer ≡ x → b.answer ≡ y → better_for k x y a b ≡ f → r.answer ≡ f.answer
      → r.message ≡ f.message → r.codeword ≡ f.codeword → r.tests ≡ a.tests + b.tests → r ≡ better_of k a b
  unfolding better_of counted
  kept r f ax by e ea em ec et =
      found-same r (counted (a.tests + b.tests) f) ea em ec et
      ∙ sym (ap (counted (a.tests + b.tests)) (ap₂ (λ x y. better_for k x y a b) ax by ∙ e))

  pub join-other : (r : Finding) → a.answer ≡ NoneNear → r.answer ≡ b.answer → r.message ≡ b.message → r.codeword ≡ b.codeword
      → r.tests ≡ a.tests + b.tests → r ≡ better_of k a b
  unfolding better_for
  join-other r none-a = kept r b none-a refl refl

  pub join_first : (r : Finding) (t : ℕ) (d : Margin) → b.answer ≡ NoneNear → a.answer ≡ Near t d → r.answer ≡ Near t d → r.message ≡ a.message
      → r.codeword ≡ a.codeword → r.tests ≡ a.tests + b.tests → r ≡ better_of k a b
  unfolding better_for
  join_first r t d none-b at rt = kept r a at none-b refl (rt ∙ sym at)

  module _ (t u : ℕ) (d e : Margin) (at : a.answer ≡ Near t d) (bt : b.answer ≡ Near u e) (r : Finding) (et : r.tests ≡ a.tests + b.tests) where
    abbrev wins : Bool
    wins = is_better k t a.message u b.message

    abbrev loses : Bool
    loses = is_better k u b.message t a.message

    -- with the margin that the code joins
    margined : (v : ℕ) {g : Margin} {o : Option ℕ} → margin_is g ≡ o → Near v g ≡ Near v (margin_from o)
    margined v {g} eg = ap (Near v) (sym (from_is g) ∙ ap margin_from eg)

    abbrev first : Finding
    first = answering (Near t (margin_from (lesser (margin_is d) (some (u - t))))) a

    abbrev other : Finding
    other = answering (Near u (margin_from (lesser (margin_is e) (some (t - u))))) b

    abbrev one : Finding
    one = answering (Near u (margin_from (lesser (margin_is d) (margin_is e)))) b

    chosen : (x y : Bool) → wins ≡ x → loses ≡ y → better_for k (Near t d) (Near u e) a b ≡ cond x first (cond y other one)
    unfolding better_for
    chosen x y p q = ap₂ (λ v w. cond v first (cond w other one)) p q

    keep-first : {g : Margin} → wins ≡ true → margin_is g ≡ lesser (margin_is d) (some (u - t)) → r.answer ≡ Near t g → r.message ≡ a.message
        → r.codeword ≡ a.codeword → r ≡ better_of k a b
    unfolding answering
    keep-first w eg rt em ec = kept r first at bt (chosen true loses w refl) (rt ∙ margined t eg) em ec et

    keep-other : {g : Margin} → wins ≡ false → loses ≡ true → margin_is g ≡ lesser (margin_is e) (some (t - u)) → r.answer ≡ Near u g
        → r.message ≡ b.message → r.codeword ≡ b.codeword → r ≡ better_of k a b
    unfolding answering
    keep-other w l eg rt em ec = kept r other at bt (chosen false true w l) (rt ∙ margined u eg) em ec et

    pub join-cheaper : {g : Margin} → t < u → margin_is g ≡ lesser (margin_is d) (margin_is (Some (u - t))) → r.answer ≡ Near t g → r.message ≡ a.message
        → r.codeword ≡ a.codeword → r ≡ better_of k a b
    unfolding margin_is
    join-cheaper h = keep-first (cheaper-wins k t u a.message b.message h)

    pub join-dearer : {g : Margin} → u < t → margin_is g ≡ lesser (margin_is e) (margin_is (Some (t - u))) → r.answer ≡ Near u g → r.message ≡ b.message
        → r.codeword ≡ b.codeword → r ≡ better_of k a b
    unfolding margin_is
    join-dearer h = keep-other (dearer-loses k t u a.message b.message h) (cheaper-wins k u t b.message a.message h)

    -- equal totals
    module _ (s : t ≡ u) where
      zero-margin : (g : Margin) {v : ℕ} → v ≡ 0 → margin_is (Some 0) ≡ lesser (margin_is g) (some v)
      unfolding margin_is
      zero-margin g z = sym (ap (λ (w : ℕ). lesser (margin_is g) (some w)) z ∙ lesser-zero (margin_is g))

      pub join-before : is_before (take k a.message) (take k b.message) ≡ true → r.answer ≡ Near t (Some 0) → r.message ≡ a.message
          → r.codeword ≡ a.codeword → r ≡ better_of k a b
      join-before f = keep-first (equal_by k t u a.message b.message s ∙ f) (zero-margin d (omega arith))

      pub join-after : is_before (take k a.message) (take k b.message) ≡ false → is_before (take k b.message) (take k a.message) ≡ true
          → r.answer ≡ Near u (Some 0) → r.message ≡ b.message → r.codeword ≡ b.codeword → r ≡ better_of k a b
      join-after f g =
          keep-other (equal_by k t u a.message b.message s ∙ f) (equal_by k u t b.message a.message (sym s) ∙ g) (zero-margin e (omega arith))

      pub join-same : {g : Margin} → is_before (take k a.message) (take k b.message) ≡ false
          → is_before (take k b.message) (take k a.message) ≡ false → margin_is g ≡ lesser (margin_is d) (margin_is e) → r.answer ≡ Near u g
          → r.message ≡ b.message → r.codeword ≡ b.codeword → r ≡ better_of k a b
      unfolding answering
      join-same f h eg rt em ec =
          kept r one at bt
          (chosen false false (equal_by k t u a.message b.message s ∙ f) (equal_by k u t b.message a.message (sym s) ∙ h)) (rt ∙ margined u eg) em ec et

    -- by the order of the totals with the messages
    module _ (o : Ordering) (o-is : o ≡ order_of k t u a.message b.message) where
      abbrev better_is : wins ≡ is_lt o
      better_is = better-cmp k a.message b.message t u ∙ ap is_lt (sym o-is)

      abbrev worse_is : loses ≡ is_gt o
      worse_is = worse-cmp k a.message b.message t u ∙ ap is_gt (sym o-is)

      pub join-less : {g : Margin} → o ≡ Less → margin_is g ≡ lesser (margin_is d) (margin_is (Some (u - t))) → r.answer ≡ Near t g
          → r.message ≡ a.message → r.codeword ≡ a.codeword → r ≡ better_of k a b
      unfolding margin_is
      join-less h = keep-first (better_is ∙ ap is_lt h)

      pub join-greater : {g : Margin} → o ≡ Greater → margin_is g ≡ lesser (margin_is e) (margin_is (Some (t - u))) → r.answer ≡ Near u g
          → r.message ≡ b.message → r.codeword ≡ b.codeword → r ≡ better_of k a b
      unfolding margin_is
      join-greater h = keep-other (better_is ∙ ap is_lt h) (worse_is ∙ ap is_gt h)

      pub join-equal : {g : Margin} → o ≡ Equal → margin_is g ≡ lesser (margin_is d) (margin_is e) → r.answer ≡ Near u g
          → r.message ≡ b.message → r.codeword ≡ b.codeword → r ≡ better_of k a b
      unfolding answering
      join-equal h eg rt em ec =
          kept r one at bt (chosen false false (better_is ∙ ap is_lt h) (worse_is ∙ ap is_gt h)) (rt ∙ margined u eg) em ec et
