-- Delivering one place and its column: place range, then place taken.
--
--   with_entry book p column   the book with the place and its column at the end of its row
--   deliver_of book p column   what delivery answers: 5 if the modem has no such place, 6 if it is taken, the book as it was; else 0 and the longer row
--   on_accepted o next         the next step from the book of an accepted one; a refused one refuses the opening with its number
--   deliver_row book entries   the entries delivered in their order, up to the first that is refused
use Rattle.std.specs.Prelude.{cond, List, [], ◌∷◌, ◌++◌, ℕ, eqb, ltb}
use Rattle.refusals.specs.Refusal.{accepted, no_place, place_taken}
use Rattle.book.specs.Model.{Model, places}
use Rattle.book.specs.Book.{Entry, Book, taken, Outcome}
use Rattle.book.specs.opening.Opening.{refused_opening}

unfoldable pub with_entry : Book → ℕ → List ℕ → Book
with_entry book p column =
    record {
      rate = book.rate;
      doubtful = book.doubtful;
      row = book.row ++ (record { place = p; column = column } ∷ []);
    }

module _ (𝓓 : Model) where
  unfoldable pub deliver_of : Book → ℕ → List ℕ → Outcome
  deliver_of book p column =
      cond (ltb p (places 𝓓))
      (cond (taken book.row p)
      (record { number = place_taken; book = book })
      (record { number = accepted; book = with_entry book p column }))
      (record { number = no_place; book = book })

  unfoldable pub on_accepted : Outcome → (Book → Outcome) → Outcome
  on_accepted o next = cond (eqb o.number accepted) (next o.book) (refused_opening 𝓓 o.number)

  unfoldable pub deliver_row : Book → List Entry → Outcome
  deliver_row book [] = record { number = accepted; book = book }
  deliver_row book (e ∷ entries) = on_accepted (deliver_of book e.place e.column) (λ after. deliver_row after entries)
