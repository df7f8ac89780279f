-- Table decoding: rate, then sizes, then doubt, then blank places, then nearness; and why it answers as a session does.
--
--   table_length            a column for each place, place 0 first, of a cost for each symbol, two bytes each: 2,048 bytes where there are 64 places
--   closed n message report   a number returned and the two lent buffers afterwards
--   table_columns table     the columns by place
--   picked_of table doubt   the doubtful places: of those that are not blank those of smallest gap as it counts for choosing, equal gaps to the lower place
--   checks_of rate given wanted message report   the number that the checks of rate and sizes give, by the lengths of the buffers: 1 if the rate is unknown,
--                          2 if one that was given has another length than the one wanted, else 0
--   table_of rate table doubt message report   1 if the rate is unknown, 2 if a buffer has the wrong size, 4 if the doubt is too large;
--                          else what decoding by the table's columns and the doubtful places picked answers
--   Delivered table row    each of the modem's places is in the row with its column of the table, in whatever order, and nothing else is
--   entries_of columns order   the columns of the places of a list, in its order
use Rattle.std.specs.Prelude.{Bool, cond, ◌&&◌, ◌≡◌, List, [], ◌∷◌, eqb, length}
use Rattle.std.proofs.Math.Bool.{true}
use Rattle.std.proofs.Math.Option.{none, some}
use Prim.Native.Nat.{ℕ, ◌*◌, ◌<◌, ◌≤◌}
use Rattle.std.proofs.Math.Dec.{leb}
use Rattle.refusals.specs.Refusal.{accepted, unknown_rate, wrong_size, wrong_doubt}
use Rattle.soft.specs.Column as Soft
use Rattle.soft.specs.Doubt.{doubtful_of}
use Rattle.book.specs.Model.{Model, places, width}
use Rattle.book.specs.Book.{Entry, column_in}
use Rattle.book.specs.closing.Closing.{report_length, Closed, refused_closing, decode_of}

-- what a call answered, put together
abbrev pub closed : ℕ → List ℕ → List ℕ → Closed
closed number message report = record { number = number; message = message; report = report }

-- ---- columns in the order of a list

unfoldable pub entries_of : (ℕ → List ℕ) → List ℕ → List Entry
entries_of columns [] = []
entries_of columns (p ∷ order) = record { place = p; column = columns p } ∷ entries_of columns order

module _ (𝓓 : Model) where
  open 𝓓 use {known, most_doubt}

  abbrev pub table_length : ℕ
  table_length = places 𝓓 * width 𝓓 * 2

  -- the costs of a place's symbols, one after the other
  unfoldable pub table_columns : List ℕ → ℕ → List ℕ
  table_columns table = Soft.column_of (width 𝓓) (Soft.costs_from (places 𝓓 * width 𝓓) table)

  unfoldable pub picked_of : List ℕ → ℕ → List ℕ
  picked_of table doubt = doubtful_of (places 𝓓) doubt (table_columns table)

  -- a table and a report of their lengths, and a message of k, where k is the rate
  unfoldable pub table_fits : ℕ → List ℕ → List ℕ → List ℕ → Bool
  table_fits rate table message report = eqb (length table) table_length && (eqb (length message) rate && eqb (length report) (report_length 𝓓))

  -- the checks that table decoding begins with, and other calls too, by lengths
  unfoldable pub checks_of : ℕ → ℕ → ℕ → ℕ → ℕ → ℕ
  checks_of rate given wanted message report =
      cond (known rate) (cond (eqb given wanted && (eqb message rate && eqb report (report_length 𝓓))) accepted wrong_size) unknown_rate

  unfoldable pub table_of : ℕ → List ℕ → ℕ → List ℕ → List ℕ → Closed
  table_of rate table doubt message report =
      cond (known rate)
      (cond (table_fits rate table message report)
      (cond (leb doubt most_doubt) (decode_of 𝓓 rate (table_columns table) (picked_of table doubt) message report)
      (refused_closing wrong_doubt message report))
      (refused_closing wrong_size message report))
      (refused_closing unknown_rate message report)

  -- ---- the checks of rate and sizes

  pub record Checked (rate given wanted message report : ℕ) : Type 0 where
    pub rated : known rate ≡ true
    pub whole : given ≡ wanted
    pub long : message ≡ rate
    pub whole_report : report ≡ report_length 𝓓

  -- ---- as a session

  pub record Delivered (table : List ℕ) (row : List Entry) : Type 0 where
    pub there : (p : ℕ) → p < places 𝓓 → column_in row p ≡ some (table_columns table p)
    pub nothing_else : (p : ℕ) → places 𝓓 ≤ p → column_in row p ≡ none
