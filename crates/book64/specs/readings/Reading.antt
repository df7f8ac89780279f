-- Interpolant reading: size.
--
--   highest_order book      M, the highest order that the book's rate uses
--   is_settled book p       p is taken, not doubtful and not blank
--   settled_below book n    the settled places below n, each with its best symbol
--   settled_of book         all of them: the row as a set decides, in whatever order its places were accepted
--   read_of book out        2 if the buffer is not of 98 bytes, the buffer as it was; else 0 and the 98 bytes of the least Q for the row's settled places
use Rattle.std.specs.Prelude.{Bool, cond, not, ◌&&◌, List, [], ◌∷◌, ℕ, zero, suc, eqb, length}
use Rattle.lists.specs.Distinct.{among}
use Rattle.refusals.specs.Refusal.{accepted, wrong_size}
use Rattle.soft.specs.Column.{best_of}
use Rattle.soft.specs.Blank.{open_at}
use Rattle.family.specs.Nodes.{Node, node}
use Rattle.near.specs.Here.{m_of}
use Rattle.interpolant.specs.LeastQ.{reading_length, reading_of}
use Rattle.book.specs.Book.{Book, taken, Filled}
use Rattle.book64.specs.Here.{places, columns_of}

abbrev pub highest_order : Book → ℕ
highest_order book = m_of book.rate

unfoldable pub is_settled : Book → ℕ → Bool
is_settled book p = taken book.row p && (not (among p book.doubtful) && open_at (columns_of book.row) p)

-- with z the best symbol there
unfoldable pub settled_at : Book → ℕ → Node
settled_at book p = node p (best_of (columns_of book.row p))

unfoldable pub settled_below : Book → ℕ → List Node
settled_below book zero = []
settled_below book (suc p) = cond (is_settled book p) (settled_at book p ∷ settled_below book p) (settled_below book p)

unfoldable pub settled_of : Book → List Node
settled_of book = settled_below book places

unfoldable pub read_of : Book → List ℕ → Filled
read_of book out =
    cond (eqb (length out) reading_length)
    (record { number = accepted; bytes = reading_of (highest_order book) (settled_of book) })
    (record { number = wrong_size; bytes = out })
