-- Which rates and doubtful lists opening accepts, in document 01's words.
--
--   Known rate           a known rate of the modem
--   DoubtfulList list    at most as many places as the largest doubt, all of them the modem's, strictly rising: each smaller than the next
--   list-fits, fits-list the lists that pass the test
--   list-short           they are no longer than the largest doubt
--   fits-places          places that rise strictly are different
--   below_of             a list each of whose entries is below n passes the test for that
use Rattle.std.proofs.Math.Bool.{true}
use Rattle.std.specs.Prelude.{◌&&◌, ◌≡◌, refl, ℕ, zero, suc, ◌<◌, ◌≤◌, ltb, length, get_or}
use mathlib.Core.List.Memᴰ
use mathlib.Core.List.{List, [], ◌∷◌, Memᴰ}
use Rattle.std.proofs.Common.{⊎_elim, le_of_suc-le-suc, arith}
use Rattle.std.proofs.Math.Dec.{leb}
use borrow.Author.Tests.{lt-ltb, leb-true, le-leb}
use Rattle.lists.specs.Distinct.{below, below_at, below-cons, and_left, and_right, and_both}
use Rattle.near.specs.Tree.{Places, places_nil, places_cons}
use Rattle.book.specs.Model.{Model, places}
use Rattle.book.specs.opening.Opening.{rising_from, rising, fit_places, fit_doubt}

rising-of : (n : ℕ) (list : List ℕ) → (0 < length list → n ≤ get_or list 0 0)
    → ((i : ℕ) → suc i < length list → get_or list i 0 < get_or list (suc i) 0) → rising_from n list ≡ true
unfolding rising_from
rising-of n [] h r = refl
rising-of n (p ∷ list) h r =
    and_both (leb n p) (rising_from (suc p) list) (le-leb n p (h (omega arith)))
    (rising-of (suc p) list (λ l. r 0 (omega arith)) (λ i l. r (suc i) (omega arith)))

rising-from : (n : ℕ) (list : List ℕ) → rising_from n list ≡ true
    → (0 < length list → n ≤ get_or list 0 0) × ((i : ℕ) → suc i < length list → get_or list i 0 < get_or list (suc i) 0)
unfolding rising_from
rising-from n [] e = ((λ l. absurd (omega arith)), (λ i l. absurd (omega arith)))
rising-from n (p ∷ list) e =
    let f : leb n p ≡ true = and_left (leb n p) (rising_from (suc p) list) e in
    let r = rising-from (suc p) list (and_right (leb n p) (rising_from (suc p) list) e) in
    ((λ l. leb-true n p f), go r.0 r.1)
  where
    go : (0 < length list → suc p ≤ get_or list 0 0) → ((i : ℕ) → suc i < length list → get_or list i 0 < get_or list (suc i) 0)
        → (i : ℕ) → suc i < length (p ∷ list) → get_or (p ∷ list) i 0 < get_or (p ∷ list) (suc i) 0
    go first rest zero l = first (le_of_suc-le-suc l)
    go first rest (suc i) l = rest i (le_of_suc-le-suc l)

pub below_of : (n : ℕ) (list : List ℕ) → ((i : ℕ) → i < length list → get_or list i 0 < n) → below n list ≡ true
unfolding below
below_of n [] h = refl
below_of n (p ∷ list) h =
    and_both (ltb p n) (below n list) (lt-ltb p n (h 0 (omega arith))) (below_of n list (λ i l. h (suc i) (omega arith)))

rising-above : (n : ℕ) (list : List ℕ) → rising_from n list ≡ true → (q : ℕ) → Memᴰ q list → n ≤ q
unfolding rising_from
rising-above n [] e q m = absurd (Memᴰ.not-nil m)
rising-above n (p ∷ list) e q m =
    let f : n ≤ p = leb-true n p (and_left (leb n p) (rising_from (suc p) list) e) in
    ⊎_elim (λ s. omega arith)
    (λ l. omega (arith, rising-above (suc p) list (and_right (leb n p) (rising_from (suc p) list) e) q l))
    (Memᴰ.cases_cons m)

-- for any number of places
rising-places : (least n : ℕ) (list : List ℕ) → rising_from least list ≡ true → below n list ≡ true → Places n list
unfolding rising_from
rising-places least n [] e b = places_nil
rising-places least n (p ∷ list) e b =
    let r : rising_from (suc p) list ≡ true = and_right (leb least p) (rising_from (suc p) list) e in
    let h = below-cons n p list b in
    places_cons h.0 (λ (m : Memᴰ p list). omega (arith, rising-above (suc p) list r p m)) (rising-places (suc p) n list r h.1)

module _ (𝓓 : Model) where
  open 𝓓 use {known, most_doubt}

  pub fits-places : (list : List ℕ) → fit_places 𝓓 list ≡ true → Places (places 𝓓) list
  unfolding fit_places rising
  fits-places list e =
      let b = below (places 𝓓) list in
      let c = rising_from 0 list in
      rising-places 0 (places 𝓓) list (and_right b c e) (and_left b c e)

  abbrev pub Known : ℕ → Type 0
  Known rate = known rate ≡ true

  pub record DoubtfulList (list : List ℕ) : Type 0 where
    pub short : length list ≤ most_doubt
    pub in_range : (i : ℕ) → i < length list → get_or list i 0 < places 𝓓
    pub rises : (i : ℕ) → suc i < length list → get_or list i 0 < get_or list (suc i) 0

  pub list-fits : {list : List ℕ} → DoubtfulList list → fit_doubt 𝓓 list ≡ true
  unfolding fit_doubt fit_places rising
  list-fits {list} d =
      and_both (leb (length list) most_doubt) (below (places 𝓓) list && rising_from 0 list) (le-leb (length list) most_doubt d.short)
      (and_both (below (places 𝓓) list) (rising_from 0 list) (below_of (places 𝓓) list d.in_range)
      (rising-of 0 list (λ l. omega arith) d.rises))

  pub list-short : (list : List ℕ) → fit_doubt 𝓓 list ≡ true → length list ≤ most_doubt
  unfolding fit_doubt
  list-short list f = leb-true (length list) most_doubt (and_left (leb (length list) most_doubt) (fit_places 𝓓 list) f)

  pub fits-list : (list : List ℕ) → fit_doubt 𝓓 list ≡ true → DoubtfulList list
  unfolding fit_doubt fit_places rising
  fits-list list e =
      let a = leb (length list) most_doubt in
      let b = below (places 𝓓) list in
      let c = rising_from 0 list in
      let f : (b && c) ≡ true = and_right a (b && c) e in
      record {
        short = leb-true (length list) most_doubt (and_left a (b && c) e);
        in_range = λ i l. below_at (places 𝓓) list i (and_left b c f) l;
        rises = (rising-from 0 list (and_right b c f)).1;
      }
