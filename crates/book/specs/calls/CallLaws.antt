-- What document 01's sentences about every call and every list of calls speak of. The sentences stand in proofs/.
--
--   Changes book call    the call leaves the book as it was, or is an accepted delivery, and puts the place and its column at the end of the row, or is an
--                        accepted withdrawal, and takes the place out of it
--   Fits call, AllFit calls   what the types say of the arguments of a call, and of a list of calls: a delivery's column is a column
--   deliveries entries   the entries as deliveries
use Rattle.std.specs.Prelude.{◌≡◌, ◌⊎◌, ℕ}
use mathlib.Core.List.{List, [], ◌∷◌}
use Rattle.refusals.specs.Refusal.{accepted}
use Rattle.book.specs.Model.{Model}
use Rattle.book.specs.Book.{Entry, Book}
use Rattle.book.specs.rows.Delivery.{with_entry}
use Rattle.book.specs.rows.Withdrawal.{without_place}
use Rattle.book.specs.rows.Costs.{IsColumn}
use Rattle.book.specs.Machine.{Each}
use Rattle.book.specs.calls.Calls.{Call, deliver, withdraw, closing, other, Others, answer, after}

-- what the types say of the arguments
module _ (𝓓 : Model) {X : Type 0} where
  abbrev pub Fits : Call X → Type 0
  Fits (deliver p column) = IsColumn 𝓓 column
  Fits (withdraw p) = Unit
  Fits (closing message report) = Unit
  Fits (other x) = Unit

  abbrev pub AllFit : List (Call X) → Type 0
  AllFit calls = Each Fits calls

unfoldable pub deliveries : {X : Type 0} → List Entry → List (Call X)
deliveries [] = []
deliveries (e ∷ entries) = deliver e.place e.column ∷ deliveries entries

module _ {𝓓 : Model} {X : Type 0} (others : Others 𝓓 X) where
  -- ---- 'Only an accepted delivery changes the book.' Of withdrawals: 'an accepted one takes the place and its column out of the book's row'. 'A refused
  -- call leaves its buffers as they were.'

  module _ (book : Book) where
    abbrev pub Changes : Call X → Type 0
    Changes call =
        (after others book call ≡ book)
        ⊎ ((p : ℕ) × (column : List ℕ) × (call ≡ deliver p column) × ((answer others book call).number ≡ accepted)
        × (after others book call ≡ with_entry book p column))
        ⊎ ((p : ℕ) × (call ≡ withdraw p) × ((answer others book call).number ≡ accepted) × (after others book call ≡ without_place book p))
