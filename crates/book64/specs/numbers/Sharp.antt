-- Two frames at which the bounds of Repairs are sharp at rate 39. That they are stands in proofs/.
--
--   frame a              a frame between two codewords at rate 39 that differ in twenty places, zero and `light`: each place from a on has a symbol of the
--                        light one as its best, and each below a zero, with the symbol of the light one as its second
use Rattle.std.specs.Prelude.{cond, ℕ, eqb, leb}
use mathlib.Core.List.{List, [], ◌∷◌}
use Rattle.lists.specs.Listed.{listed}
use Rattle.family.specs.Member.{m16}
use Rattle.near.specs.LeastDistance.{zero-codeword}
use Rattle.near.specs.Distances.{symbol39}
use Rattle.near.proofs.Distances.{light-39}
use Rattle.book.specs.Book.{Entry, Book}
use Rattle.book.specs.tables.Table.{entries_of}

-- ---- and beyond them

-- the least cost for one symbol, the next for another
abbrev column_for : ℕ → ℕ → List ℕ
column_for best second = listed 16 (λ s. cond (eqb s best) 0 (cond (eqb s second) 1 2))

unfoldable pub frame : ℕ → List Entry
frame a = entries_of (λ p. column_for (cond (leb a p) (symbol39 p) 0) (symbol39 p)) (listed 64 (λ p. p))

abbrev pub zeros : List ℕ
zeros = (zero-codeword m16 39).message

abbrev pub light : List ℕ
light = light-39.message

-- four places each with the symbols 1 and 8 of the light one
abbrev pub eight : List ℕ
eight = 4 ∷ 5 ∷ 6 ∷ 7 ∷ 32 ∷ 33 ∷ 34 ∷ 35 ∷ []

abbrev pub between : Book
between = record { rate = 39; doubtful = eight; row = frame 50 }
