-- The message sent, after every list of calls, of every modem: what `book` Repairs says of closing, said of the session that the calls left.
--
--   Full rate list calls   no place is missing in the book that the calls leave, from one opened with that rate and list
--   columns_after rate list calls   that book's columns by place
--
-- T is the one that the blank places leave (ReachAfter), and they are none of the wrong ones.
use Rattle.std.specs.Prelude.{ℕ}
use mathlib.Core.List.{List}
use Rattle.book.specs.Model.{Model}
use Rattle.book.specs.Book.{new_book}
use Rattle.book.specs.Columns.{columns_of}
use Rattle.book.specs.Entries.{Missing}
use Rattle.book.specs.calls.Calls.{Call, Others, after_all}

module _ {𝓓 : Model} {X : Type 0} (others : Others 𝓓 X) where
  abbrev pub Full : ℕ → List ℕ → List (Call X) → Type 0
  Full rate list calls = (p : ℕ) → Missing 𝓓 (after_all others (new_book rate list) calls).row p → ⊥

  abbrev pub columns_after : ℕ → List ℕ → List (Call X) → ℕ → List ℕ
  columns_after rate list calls = columns_of 𝓓 (after_all others (new_book rate list) calls).row
