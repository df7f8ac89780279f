-- A marked answer is the cheapest of all codewords of its rate, near or not. In every modem.
--
--   Cheapest k columns m   no codeword of rate k has a smaller total by these columns than that of m; CheapestIn: by a book's rate and columns
--
-- A cost at the ceiling is summed as it stands, as in every total: with pinned places this speaks of these sums.
use Rattle.std.specs.Prelude.{List, ℕ, ◌≤◌}
use Rattle.lists.specs.Words.{Word}
use Rattle.soft.specs.Total.{total_of}
use Rattle.family.specs.Encoding.{encode_of}
use Rattle.book.specs.Model.{Model, places, width}
use Rattle.book.specs.Book.{Book}
use Rattle.book.specs.Columns.{columns_of}
use Rattle.book.specs.closing.Closing.{Closed}

module _ (𝓓 : Model) where
  open 𝓓 use {member}

  pub record Cheapest (k : ℕ) (columns : ℕ → List ℕ) (m : List ℕ) : Type 0 where
    pub none_less : (n : List ℕ) → Word (width 𝓓) k n → total_of (places 𝓓) columns (encode_of member k m) ≤ total_of (places 𝓓) columns (encode_of member k n)

  abbrev pub CheapestIn : Book → Closed → Type 0
  CheapestIn book c = Cheapest book.rate (columns_of 𝓓 book.row) c.message
