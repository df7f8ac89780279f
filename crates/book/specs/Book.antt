-- The book of a session: what document 01's section of that name says it holds, and which places it has.
--
--   Entry                a place and its column
--   Book                 the rate and the doubtful list given at opening, and the row of places with their columns, in the order of acceptance
--   new_book rate list    a book whose row is empty
--   column_in row p       the column of place p, if p is in the row: the row as a set
--   taken row p          p is in the row
--   missing row p        p is one of the modem's places and is not in the row
--   some_missing row      a place is missing
--   Outcome              what a call that may change the book answers: 0 or the refusal's number, and the book after the call
use Rattle.std.specs.Prelude.{Bool, true, false, cond, not, ◌&&◌, List, [], ◌∷◌, ℕ, eqb, ltb}
use Rattle.std.proofs.Math.Option.{Option, none, some}
use Rattle.lists.specs.Every.{every}
use Rattle.book.specs.Model.{Model, places}

pub record Entry : Type 0 where
  pub place : ℕ
  pub column : List ℕ

pub record Book : Type 0 where
  pub rate : ℕ
  pub doubtful : List ℕ
  pub row : List Entry

unfoldable pub new_book : ℕ → List ℕ → Book
new_book rate list = record { rate = rate; doubtful = list; row = [] }

unfoldable pub column_in : List Entry → ℕ → Option (List ℕ)
column_in [] p = none
column_in (e ∷ row) p = cond (eqb e.place p) (some e.column) (column_in row p)

abbrev pub present : Option (List ℕ) → Bool
present none = false
present (some column) = true

unfoldable pub taken : List Entry → ℕ → Bool
taken row p = present (column_in row p)

pub record Outcome : Type 0 where
  pub number : ℕ
  pub book : Book

module _ (𝓓 : Model) where
  unfoldable pub missing : List Entry → ℕ → Bool
  missing row p = ltb p (places 𝓓) && not (taken row p)

  unfoldable pub some_missing : List Entry → Bool
  some_missing row = not (every (places 𝓓) (taken row))

-- a number, and what a lent buffer holds afterwards
pub record Filled : Type 0 where
  pub number : ℕ
  pub bytes : List ℕ
