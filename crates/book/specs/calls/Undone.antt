-- 'A delivery shall be undone: … the session answers and reads as if that delivery, and every call refused since, had never been made. It need not be the
-- latest one.' Each sentence a theorem of the book of any modem.
--
--   Spares p calls       no call of the list withdraws the place p
--   accepted_of book calls   those of the calls that the book accepts, each of which finds the book that the call before it left
use Rattle.std.specs.Prelude.{Bool, List, ◌≢◌, ℕ, eqb}
use Rattle.refusals.specs.Refusal.{accepted}
use Rattle.book.specs.Model.{Model}
use Rattle.book.specs.Book.{Book}
use Rattle.book.specs.Machine.{Each, accepted_by}
use Rattle.book.specs.calls.Calls.{Call, withdraw, Others, answer, after}

module _ {X : Type 0} where
  abbrev pub Spare : ℕ → Call X → Type 0
  Spare p call = call ≢ withdraw p

  abbrev pub Spares : ℕ → List (Call X) → Type 0
  Spares p calls = Each (Spare p) calls

module _ {𝓓 : Model} {X : Type 0} (others : Others 𝓓 X) where
  unfoldable pub accepts : Book → Call X → Bool
  accepts book call = eqb (answer others book call).number accepted

  abbrev pub accepted_of : Book → List (Call X) → List (Call X)
  accepted_of book calls = accepted_by accepts (after others) book calls
