-- Withdrawing one place: place range, then place not taken.
--
--   freed row p          the row without the place
--   without_place book p  the book without the place and its column in its row
--   withdraw_of book p    what a withdrawal answers: 5 if the modem has no such place, 13 if it is not taken, the book as it was; else 0 and the book without
--                        the place
use Rattle.std.specs.Prelude.{cond, List, [], ◌∷◌, ℕ, eqb, ltb}
use Rattle.refusals.specs.Refusal.{accepted, no_place, not_taken}
use Rattle.book.specs.Model.{Model, places}
use Rattle.book.specs.Book.{Entry, Book, taken, Outcome}

unfoldable pub freed : List Entry → ℕ → List Entry
freed [] p = []
freed (e ∷ row) p = cond (eqb e.place p) (freed row p) (e ∷ freed row p)

unfoldable pub without_place : Book → ℕ → Book
without_place book p = record { rate = book.rate; doubtful = book.doubtful; row = freed book.row p }

module _ (𝓓 : Model) where
  unfoldable pub withdraw_of : Book → ℕ → Outcome
  withdraw_of book p =
      cond (ltb p (places 𝓓))
      (cond (taken book.row p)
      (record { number = accepted; book = without_place book p })
      (record { number = not_taken; book = book }))
      (record { number = no_place; book = book })
