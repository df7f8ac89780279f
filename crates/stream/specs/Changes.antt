-- Which session each call of the stream leaves, by its letter and its arguments.
--
--   Change                   what a call does to the session: a new one for a book, a delivery of a place and its column, a withdrawal of a place, or
--                            nothing
--   change_by kind place column   the change of a call that is made by its kind: only a delivery and a withdrawal make one
--   open_letter, capture_letter, deliver_letter, withdraw_letter   the letters of the calls that may change it: `O`, `C`, `D` and `U`
--   number_in bytes           the number in the first two bytes, high first
--   numbered_change letter number rest   of a call whose arguments are a number and the rest
--   change_of letter arguments   of every letter and all arguments: one that is none of the four, or too short for its number, does nothing
--   StandsFor book t         the session t is good, and its book agrees with that one
--   Leaves s change t        the change leaves the session t where s was the session
--
-- Nothing is said of a delivery to a session record that was built by hand, or of a withdrawal from one, as a step (`runs` Step) says nothing of it where it
-- is accepted.
use Rattle.std.specs.Prelude.{cond, ◌≡◌, List, ℕ, ◌+◌, ◌*◌, eqb, ltb, length, get_or, drop}
use Rattle.soft.specs.Column.{symbols, costs_from}
use Rattle.book.specs.Book.{Book}
use Rattle.book.specs.Columns.{Agree}
use Rattle.book64.specs.captures.CaptureOpening.{open_capture_of}
use Rattle.book64.specs.Here.{open_of, deliver_of, withdraw_of}
use Rattle.session.specs.declared.Session.{Session}
use Rattle.session.specs.View.{book_of, Good}
use Rattle.runs.specs.declared.Kind.{Kind}
use Rattle.runs.specs.declared.Kind.TheVariants.{Deliver, Read, Write, Close, Withdraw}

pub data Change : Type 0 where
  renewed : Book → Change
  delivered : ℕ → List ℕ → Change
  withdrawn : ℕ → Change
  kept : Change

unfoldable pub change_by : Kind → ℕ → List ℕ → Change
change_by Deliver place column = delivered place column
change_by Read place column = kept
change_by Write place column = kept
change_by Close place column = kept
change_by Withdraw place column = withdrawn place

abbrev pub open_letter : ℕ
open_letter = 79

abbrev pub capture_letter : ℕ
capture_letter = 67

abbrev pub deliver_letter : ℕ
deliver_letter = 68

abbrev pub withdraw_letter : ℕ
withdraw_letter = 85

abbrev pub number_in : List ℕ → ℕ
number_in bytes = 256 * get_or bytes 0 0 + get_or bytes 1 0

unfoldable pub numbered_change : ℕ → ℕ → List ℕ → Change
numbered_change letter number rest =
    cond (eqb letter open_letter) (renewed (open_of number rest).book)
    (cond (eqb letter deliver_letter) (delivered number (costs_from symbols rest)) (cond (eqb letter withdraw_letter) (withdrawn number) kept))

unfoldable pub change_of : ℕ → List ℕ → Change
change_of letter arguments =
    cond (eqb letter capture_letter) (renewed (open_capture_of arguments).book)
    (cond (ltb (length arguments) 2) kept (numbered_change letter (number_in arguments) (drop 2 arguments)))

pub record StandsFor (book : Book) (t : Session) : Type 0 where
  pub good : Good t
  pub same : Agree (book_of t) book

pub data Leaves (s : Session) : Change → Session → Type 0 where
  leaves_renewed : {book : Book} {t : Session} → StandsFor book t → Leaves s (renewed book) t
  leaves_delivered : {p : ℕ} {column : List ℕ} {t : Session} → (Good s → StandsFor (deliver_of (book_of s) p column).book t)
      → Leaves s (delivered p column) t
  leaves_withdrawn : {p : ℕ} {t : Session} → (Good s → StandsFor (withdraw_of (book_of s) p).book t) → Leaves s (withdrawn p) t
  leaves_kept : {t : Session} → t ≡ s → Leaves s kept t
