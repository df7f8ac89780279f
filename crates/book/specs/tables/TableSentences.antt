-- A row of which document 01's sentences about closing are said, of table decoding by doubt and by threshold and of decoding from bit values. The sentences
-- stand in proofs/.
--
--   up_to n           the first n numbers in their order
--   in_order table    the row to which the table's columns were delivered in the order of their places
use Rattle.std.specs.Prelude.{List, ℕ}
use Rattle.lists.specs.Listed.{listed}
use Rattle.book.specs.Model.{Model, places}
use Rattle.book.specs.Book.{Entry}
use Rattle.book.specs.tables.Table.{table_columns, entries_of}

-- the first n numbers in their order
unfoldable pub up_to : ℕ → List ℕ
up_to n = listed n (λ p. p)

module _ (𝓓 : Model) where
  -- the table's columns delivered in the order of their places
  unfoldable pub in_order : List ℕ → List Entry
  in_order table = entries_of (table_columns 𝓓 table) (up_to (places 𝓓))
