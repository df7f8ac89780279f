-- A frame in which every symbol arrived as it was sent: for every rate and message of every modem there is a session that answers with that message. So what is
-- said of sessions is not said of none.
--
--   sent_row k m            the columns of the codeword of m, each with cost 0 for the symbol sent and 1 for the others, in the order of their places
use Rattle.std.specs.Prelude.{ℕ}
use mathlib.Core.List.{List, []}
use Rattle.soft.specs.Hard.{hard_column}
use Rattle.soft.specs.Total.{symbol_at}
use Rattle.family.specs.Encoding.{encode_of}
use Rattle.book.specs.Model.{Model, places, width}
use Rattle.book.specs.Book.{Entry, Book}
use Rattle.book.specs.tables.Table.{entries_of}
use Rattle.book.specs.tables.TableSentences.{up_to}

module _ (𝓓 : Model) where
  open 𝓓 use {member}

  module _ (k : ℕ) (m : List ℕ) where
    abbrev pub sent_column : ℕ → List ℕ
    sent_column p = hard_column (width 𝓓) (symbol_at (encode_of member k m) p)

    unfoldable pub sent_row : List Entry
    sent_row = entries_of sent_column (up_to (places 𝓓))

    abbrev pub sent_book : Book
    sent_book = record { rate = k; doubtful = []; row = sent_row }
