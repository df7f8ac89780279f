-- Loops that go through a list of places, at each turn of which what is asked of the list is asked of what is left of it; and what the tests of
-- an opening say.
--
--   among-start, among-here, among_next, among-end   a search
--   fits_from n list      each place is one of the modem's, at least n and above the one before it
--   fits-start, fits_next, fits-above, fits-fallen, fits-end   whether a list is fit
--   long-unfit, short-fit   a list longer than the largest doubt is not, and of others the places decide
use Rattle.std.specs.Prelude.{Bool, true, false, ◌&&◌, ◌≡◌, List, ◌∷◌, ℕ, suc, ◌+◌, ◌<◌, ◌≤◌, length, get_or}
use Rattle.std.proofs.Math.Bool.{and-false}
use Rattle.std.proofs.Math.Path.{refl, sym, ap}
use Rattle.std.proofs.Common.{◌∙◌, drop_of_length-le, drop-cons}
use Rattle.std.proofs.Math.Numerals.{add-one}
use Rattle.std.proofs.Math.ListN.{drop}
use borrow.Author.Tests.{lt-ltb, le-ltb, le-leb, lt-leb, eq-eqb, ne_eqb}
use Rattle.lists.specs.Distinct.{among, below}
use Rattle.book.specs.Model.{Model, places}
use Rattle.book.specs.opening.Opening.{rising_from, rising, fit_places, fit_doubt}

-- ---- a search

pub among-start : (p : ℕ) (list : List ℕ) → among p list ≡ among p (drop 0 list)
among-start p list = refl

pub among-end : (p : ℕ) (list : List ℕ) (i : ℕ) → length list ≤ i → among p list ≡ among p (drop i list) → false ≡ among p list
unfolding among
among-end p list i h e = sym (e ∙ ap (among p) (drop_of_length-le list h))

module _ (p : ℕ) (list : List ℕ) (i : ℕ) (h : i < length list) (e : among p list ≡ among p (drop i list)) where
  pub among-here : get_or list i 0 ≡ p → true ≡ among p list
  unfolding among
  among-here q = sym (e ∙ ap (among p) (drop-cons list i 0 h) ∙ rw (eq-eqb (get_or list i 0) p q))

  pub among_next : (get_or list i 0 ≡ p → ⊥) → among p list ≡ among p (drop (i + 1) list)
  unfolding among
  among_next q = e ∙ ap (among p) (drop-cons list i 0 h) ∙ rw (add-one i, ne_eqb (get_or list i 0) p q)

-- ---- a list of places

module _ (𝓓 : Model) where
  open 𝓓 use {most_doubt}

  -- each place is one of the modem's, at least n and above the one before it
  unfoldable pub fits_from : ℕ → List ℕ → Bool
  fits_from n list = below (places 𝓓) list && rising_from n list

  pub fits-start : (list : List ℕ) → fit_places 𝓓 list ≡ fits_from 0 (drop 0 list)
  unfolding fits_from fit_places rising
  fits-start list = refl

  pub fits-end : (list : List ℕ) (n i : ℕ) → length list ≤ i → fit_places 𝓓 list ≡ fits_from n (drop i list) → true ≡ fit_places 𝓓 list
  unfolding fits_from below rising_from
  fits-end list n i h e = sym (e ∙ ap (fits_from n) (drop_of_length-le list h))

  module _ (list : List ℕ) (n i : ℕ) (h : i < length list) (e : fit_places 𝓓 list ≡ fits_from n (drop i list)) where
    here : fit_places 𝓓 list ≡ fits_from n (get_or list i 0 ∷ drop (suc i) list)
    here = e ∙ ap (fits_from n) (drop-cons list i 0 h)

    pub fits_next : get_or list i 0 < places 𝓓 → n ≤ get_or list i 0 → fit_places 𝓓 list ≡ fits_from (get_or list i 0 + 1) (drop (i + 1) list)
    unfolding fits_from below rising_from
    fits_next a b =
        here ∙ rw (add-one i, add-one (get_or list i 0), lt-ltb (get_or list i 0) (places 𝓓) a, le-leb n (get_or list i 0) b)

    pub fits-above : places 𝓓 ≤ get_or list i 0 → false ≡ fit_places 𝓓 list
    unfolding fits_from below
    fits-above a = sym (here ∙ rw (le-ltb (get_or list i 0) (places 𝓓) a))

    pub fits-fallen : get_or list i 0 < n → false ≡ fit_places 𝓓 list
    unfolding fits_from below rising_from
    fits-fallen a =
        sym (here ∙ rw (lt-leb n (get_or list i 0) a) (and-false (below (places 𝓓) (get_or list i 0 ∷ drop (suc i) list))))

  -- ---- the tests of an opening

  pub long-unfit : (list : List ℕ) → most_doubt < length list → fit_doubt 𝓓 list ≡ false
  unfolding fit_doubt
  long-unfit list h = rw (lt-leb (length list) most_doubt h)

  pub short-fit : (list : List ℕ) → length list ≤ most_doubt → fit_doubt 𝓓 list ≡ fit_places 𝓓 list
  unfolding fit_doubt
  short-fit list h = rw (le-leb (length list) most_doubt h)
