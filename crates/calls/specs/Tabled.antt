-- Demand 2's last sentence, of calls: 'Table decoding … answers as a session opened with them does', with the doubtful places that it picks by doubt or by
-- threshold. Of every modem.
--
--   HoldsTable table row   each of the modem's places is in the row, with its column of the table
--   Since p calls rest   `rest` are the calls since the place was last withdrawn: all of them, if it never was
--   BringsTable table calls   each place is delivered since it was last withdrawn, and no delivery of it since then has another column than the table's
use Rattle.std.specs.Prelude.{◌≡◌}
use mathlib.Core.List.{List, ◌∷◌, ◌++◌, Memᴰ}
use Rattle.std.proofs.Math.Option.{some}
use Prim.Native.Nat.{ℕ, ◌<◌}
use Rattle.book.specs.Model.{Model, places}
use Rattle.book.specs.Book.{Entry, column_in}
use Rattle.book.specs.calls.Calls.{Call, deliver, withdraw}
use Rattle.book.specs.calls.Undone.{Spares}
use Rattle.book.specs.tables.Table.{table_columns}

module _ (𝓓 : Model) where
  abbrev pub HoldsTable : List ℕ → List Entry → Type 0
  HoldsTable table row = (p : ℕ) → p < places 𝓓 → column_in row p ≡ some (table_columns 𝓓 table p)

pub data Since {X : Type 0} (p : ℕ) : List (Call X) → List (Call X) → Type 0 where
  never : {calls : List (Call X)} → Spares p calls → Since p calls calls
  last : (earlier : List (Call X)) {rest : List (Call X)} → Spares p rest → Since p (earlier ++ (withdraw p ∷ rest)) rest

module _ (𝓓 : Model) {X : Type 0} where
  pub record BringsTable (table : List ℕ) (calls : List (Call X)) : Type 0 where
    pub rest : ℕ → List (Call X)
    pub since : (p : ℕ) → p < places 𝓓 → Since p calls (rest p)
    pub every_place : (p : ℕ) → p < places 𝓓 → (column : List ℕ) × Memᴰ (deliver p column) (rest p)
    pub columns : (p : ℕ) (column : List ℕ) → p < places 𝓓 → Memᴰ (deliver p column) (rest p) → column ≡ table_columns 𝓓 table p
