-- The book of any modem under a list of calls: what each call answers, fed its arguments except the session.
--
--   Answer               a call's number, and the lent buffers afterwards (empty lists where there are none)
--   to_delivery, to_withdrawal, to_closing   what the book answers to a delivery, to a withdrawal and to a closing
--   Call X               delivery of a place and its column, withdrawal of a place, closing with the buffers as they are lent, or another call of the
--                        modem's, of which X are the kinds, each with its arguments
--   Others 𝓓 X           what those others are: each is lent one buffer, and leaves the book as it was; books that agree answer it alike, a refused one
--                        leaves the buffer as it was, none changes its length, and none gives 12
--   no_others             a modem without them
--   first_lent, second_lent   the buffers as they are lent
--   answer book call     what the book answers to a call
--   after book call      the book after it: only an accepted delivery or withdrawal changes it
--   answers, after_all    the same of a list of calls, each of which finds the book that the call before it left
use Rattle.std.specs.Prelude.{◌≡◌, List, [], ◌≢◌, ℕ, length}
use Rattle.refusals.specs.Refusal.{accepted, too_blank}
use Rattle.book.specs.Model.{Model}
use Rattle.book.specs.Book.{Book, Filled}
use Rattle.book.specs.Columns.{Agree}
use Rattle.book.specs.rows.RowLaws.{Proper}
use Rattle.book.specs.rows.Delivery.{deliver_of}
use Rattle.book.specs.rows.Withdrawal.{withdraw_of}
use Rattle.book.specs.closing.Closing.{close_of}
use Rattle.book.specs.Machine.{after_by, answers_by}

pub record Answer : Type 0 where
  pub number : ℕ
  pub first : List ℕ
  pub second : List ℕ

module _ (𝓓 : Model) where
  -- a column is given by value, so a delivery lends no buffer; nor does a withdrawal
  abbrev pub to_delivery : Book → ℕ → List ℕ → Answer
  to_delivery book p column = record { number = (deliver_of 𝓓 book p column).number; first = []; second = [] }

  abbrev pub to_withdrawal : Book → ℕ → Answer
  to_withdrawal book p = record { number = (withdraw_of 𝓓 book p).number; first = []; second = [] }

  abbrev pub to_closing : Book → List ℕ → List ℕ → Answer
  to_closing book message report =
      record {
        number = (close_of 𝓓 book message report).number;
        first = (close_of 𝓓 book message report).message;
        second = (close_of 𝓓 book message report).report;
      }

-- ---- the calls

pub data Call (X : Type 0) : Type 0 where
  deliver : ℕ → List ℕ → Call X
  withdraw : ℕ → Call X
  closing : List ℕ → List ℕ → Call X
  other : X → Call X

pub record Others (𝓓 : Model) (X : Type 0) : Type 0 where
  pub lent : X → List ℕ
  pub asked : Book → X → Filled
  pub asked_alike : {a b : Book} → Agree a b → (x : X) → asked a x ≡ asked b x
  pub asked_kept : (book : Book) (x : X) → (asked book x).number ≢ accepted → (asked book x).bytes ≡ lent x
  pub asked_sized : (book : Book) (x : X) → Proper 𝓓 book → length (asked book x).bytes ≡ length (lent x)
  pub asked_blank : (book : Book) (x : X) → (asked book x).number ≢ too_blank

unfoldable pub no_others : (𝓓 : Model) → Others 𝓓 ⊥
no_others 𝓓 =
    record {
      lent = λ x. absurd x;
      asked = λ book x. absurd x;
      asked_alike = λ same x. absurd x;
      asked_kept = λ book x. absurd x;
      asked_sized = λ book x. absurd x;
      asked_blank = λ book x. absurd x;
    }

module _ {𝓓 : Model} {X : Type 0} (others : Others 𝓓 X) where
  unfoldable pub first_lent : Call X → List ℕ
  first_lent (deliver p column) = []
  first_lent (withdraw p) = []
  first_lent (closing message report) = message
  first_lent (other x) = others.lent x

  unfoldable pub second_lent : Call X → List ℕ
  second_lent (deliver p column) = []
  second_lent (withdraw p) = []
  second_lent (closing message report) = report
  second_lent (other x) = []

  unfoldable pub answer : Book → Call X → Answer
  answer book (deliver p column) = to_delivery 𝓓 book p column
  answer book (withdraw p) = to_withdrawal 𝓓 book p
  answer book (closing message report) = to_closing 𝓓 book message report
  answer book (other x) = record { number = (others.asked book x).number; first = (others.asked book x).bytes; second = [] }

  unfoldable pub after : Book → Call X → Book
  after book (deliver p column) = (deliver_of 𝓓 book p column).book
  after book (withdraw p) = (withdraw_of 𝓓 book p).book
  after book (closing message report) = book
  after book (other x) = book

  abbrev pub answers : Book → List (Call X) → List Answer
  answers book calls = answers_by answer after book calls

  abbrev pub after_all : Book → List (Call X) → Book
  after_all book calls = after_by after book calls
