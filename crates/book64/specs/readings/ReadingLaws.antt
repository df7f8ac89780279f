-- Interpolant reading: its cases, and that it knows the row as a set alone.
--
--   settled_row list row            the row's settled places in the row's own order
use Rattle.std.specs.Prelude.{Bool, cond, ◌&&◌, ℕ}
use Rattle.std.proofs.Math.Bool.{not}
use mathlib.Core.List.{List, [], ◌∷◌}
use Rattle.lists.specs.Distinct.{among}
use Rattle.soft.specs.Column.{best_of, is_blank}
use Rattle.family.specs.Nodes.{Node, node}
use Rattle.book.specs.Book.{Entry}

-- ---- the row in its own order

-- neither doubtful nor blank
abbrev pub settled_entry : List ℕ → Entry → Bool
settled_entry list e = not (among e.place list) && not (is_blank e.column)

unfoldable pub settled_row : List ℕ → List Entry → List Node
settled_row list [] = []
settled_row list (e ∷ row) = cond (settled_entry list e) (node e.place (best_of e.column) ∷ settled_row list row) (settled_row list row)
