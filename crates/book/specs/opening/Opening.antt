-- Opening a session: rate, then doubtful list.
--
--   rising list          strictly rising: each number is at least one more than the number before it
--   fit_places list       each is one of the modem's places, and they are strictly rising
--   fit_doubt list        a doubtful list: such places, and at most as many as the largest doubt
--   refused_opening n     refused with the number n: a new book of the modem's first rate with an empty list
--   open_of rate list     what opening answers: 1 or 4 if refused, else a new book of that rate and list
use Rattle.std.specs.Prelude.{Bool, true, cond, ◌&&◌, List, [], ◌∷◌, ℕ, suc, leb, length}
use Rattle.lists.specs.Distinct.{below}
use Rattle.refusals.specs.Refusal.{accepted, unknown_rate, wrong_doubt}
use Rattle.book.specs.Model.{Model, places}
use Rattle.book.specs.Book.{new_book, Outcome}

-- each number is at least n, and at least one more than the number before it
unfoldable pub rising_from : ℕ → List ℕ → Bool
rising_from n [] = true
rising_from n (p ∷ list) = leb n p && rising_from (suc p) list

unfoldable pub rising : List ℕ → Bool
rising list = rising_from 0 list

module _ (𝓓 : Model) where
  open 𝓓 use {known, most_doubt, first}

  unfoldable pub fit_places : List ℕ → Bool
  fit_places list = below (places 𝓓) list && rising list

  unfoldable pub fit_doubt : List ℕ → Bool
  fit_doubt list = leb (length list) most_doubt && fit_places list

  unfoldable pub refused_opening : ℕ → Outcome
  refused_opening n = record { number = n; book = new_book first [] }

  unfoldable pub open_of : ℕ → List ℕ → Outcome
  open_of rate list =
      cond (known rate)
      (cond (fit_doubt list) (record { number = accepted; book = new_book rate list }) (refused_opening wrong_doubt))
      (refused_opening unknown_rate)
