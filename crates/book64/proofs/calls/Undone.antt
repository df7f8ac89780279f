-- 'A delivery shall be undone: … the session answers and reads as if that delivery, and every call refused since, had never been made. It need not be the
-- latest one.' Each sentence a theorem of the book of the modem of 64 places (`book` Undone).
--
--   accepted_of book calls   those of the calls that the book accepts, each of which finds the book that the call before it left
--   undone-calls         a delivery that is accepted, calls that spare its place and the withdrawal of that place leave the book of the accepted ones alone
--   last-column          a place that is delivered, withdrawn and delivered again is held once, with the last column, as if it had been delivered then alone
use Rattle.std.specs.Prelude.{◌≡◌, List, [], ◌∷◌, ◌++◌, ℕ}
use Rattle.std.proofs.Math.Option.{some}
use Rattle.refusals.specs.Refusal.{accepted}
use Rattle.book.specs.Book.{Book, column_in}
use Rattle.book64.specs.calls.Calls.{Call, deliver, withdraw}
use Rattle.book64.proofs.calls.Calls.{others64, answer, after, after_all}
use Rattle.book.specs.calls.Undone as any
use Rattle.book.proofs.calls.Undone as any-laws
use Rattle.book64.specs.calls.Undone.{Spares}

abbrev pub accepted_of : Book → List Call → List Call
accepted_of book calls = any.accepted_of others64 book calls

module _ (book : Book) (p : ℕ) (column : List ℕ) (n : (answer book (deliver p column)).number ≡ accepted) {calls : List Call}
    (spares : Spares p calls) where
  pub undone-calls : ((answer (after_all book (deliver p column ∷ calls)) (withdraw p)).number ≡ accepted)
      × (after_all book (deliver p column ∷ (calls ++ (withdraw p ∷ []))) ≡ after_all book (accepted_of (after book (deliver p column)) calls))
  undone-calls = any-laws.undone-calls others64 book p column n spares

  pub last-column : (last : List ℕ)
      → (after_all book (deliver p column ∷ (calls ++ (withdraw p ∷ (deliver p last ∷ []))))
      ≡ after_all book (accepted_of (after book (deliver p column)) calls ++ (deliver p last ∷ [])))
      × (column_in (after_all book (deliver p column ∷ (calls ++ (withdraw p ∷ (deliver p last ∷ []))))).row p ≡ some last)
  last-column = any-laws.last-column others64 book p column n spares
