-- What the calls on a session promise, of every modem and whatever keeps the session's fields.
--
--   Opening o n t            an opening that answers as the book does: the number is that of o, the session's book agrees with that of o, and it is good
--   Delivery s p column n t  delivery of a place and its column to the session s: of a good session the number is the book's, its book afterwards agrees
--                            with the book's, and it stays good; a refused one leaves the session that was given, whatever that was
--   Withdrawal s p n t       withdrawal of a place from the session s: of a good session the number is the book's, its book afterwards agrees with the book's,
--                            and it stays good; a refused one leaves the session that was given, whatever that was
--   Closing s message report n message' report'   closing the session s into two buffers: of a good session the number and both buffers afterwards are the
--                            book's
--   Asking s x n after       another call of the modem's (`book` Calls Others): of a good session the number and the buffer afterwards are the book's
--
-- Whatever the session, a refused call leaves the buffers as they were, and no buffer changes its length. Closing and the other calls leave the session as it
-- was, so closing may be repeated. 'Agrees' (book Columns): the same rate and list, and the same column at each place. A session does not hold the order
-- of its row.
use Rattle.std.specs.Prelude.{◌≡◌, List, ℕ, length}
use Rattle.refusals.specs.Refusal.{accepted}
use Rattle.book.specs.Model.{Model}
use Rattle.book.specs.Book.{Outcome}
use Rattle.book.specs.Columns.{Agree}
use Rattle.book.specs.rows.Delivery.{deliver_of}
use Rattle.book.specs.rows.Withdrawal.{withdraw_of}
use Rattle.book.specs.closing.Closing.{close_of}
use Rattle.book.specs.calls.Calls.{Others}
use Rattle.calls.specs.Keeping.{Keeping, book_of, Good}

module _ (𝓓 : Model) {S : Type 0} (K : Keeping S) where
  pub record Opening (o : Outcome) (n : ℕ) (t : S) : Type 0 where
    pub number : n ≡ o.number
    pub book : Agree (book_of 𝓓 K t) o.book
    pub good : Good 𝓓 K t

  pub record Delivery (s : S) (p : ℕ) (column : List ℕ) (n : ℕ) (t : S) : Type 0 where
    pub number : Good 𝓓 K s → n ≡ (deliver_of 𝓓 (book_of 𝓓 K s) p column).number
    pub book : Good 𝓓 K s → Agree (book_of 𝓓 K t) (deliver_of 𝓓 (book_of 𝓓 K s) p column).book
    pub good : Good 𝓓 K s → Good 𝓓 K t
    pub kept : (n ≡ accepted → ⊥) → t ≡ s

  pub record Withdrawal (s : S) (p : ℕ) (n : ℕ) (t : S) : Type 0 where
    pub number : Good 𝓓 K s → n ≡ (withdraw_of 𝓓 (book_of 𝓓 K s) p).number
    pub book : Good 𝓓 K s → Agree (book_of 𝓓 K t) (withdraw_of 𝓓 (book_of 𝓓 K s) p).book
    pub good : Good 𝓓 K s → Good 𝓓 K t
    pub kept : (n ≡ accepted → ⊥) → t ≡ s

  pub record Closing (s : S) (message report : List ℕ) (n : ℕ) (message' report' : List ℕ) : Type 0 where
    pub number : Good 𝓓 K s → n ≡ (close_of 𝓓 (book_of 𝓓 K s) message report).number
    pub message_bytes : Good 𝓓 K s → message' ≡ (close_of 𝓓 (book_of 𝓓 K s) message report).message
    pub report_bytes : Good 𝓓 K s → report' ≡ (close_of 𝓓 (book_of 𝓓 K s) message report).report
    pub message_kept : (n ≡ accepted → ⊥) → message' ≡ message
    pub report_kept : (n ≡ accepted → ⊥) → report' ≡ report
    pub message_size : length message' ≡ length message
    pub report_size : length report' ≡ length report

  pub record Asking {X : Type 0} (others : Others 𝓓 X) (s : S) (x : X) (n : ℕ) (after : List ℕ) : Type 0 where
    pub number : Good 𝓓 K s → n ≡ (others.asked (book_of 𝓓 K s) x).number
    pub bytes : Good 𝓓 K s → after ≡ (others.asked (book_of 𝓓 K s) x).bytes
    pub kept : (n ≡ accepted → ⊥) → after ≡ others.lent x
    pub size : length after ≡ length (others.lent x)
