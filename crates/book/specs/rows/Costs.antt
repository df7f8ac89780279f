-- 'A place's column is sixteen costs, one for each symbol, each 0 to 65535': where columns come from, and that they are so, in every modem with as many
-- costs as it has symbols.
--
--   IsColumn column        the sentence, of one column
--   AreColumns columns     of the columns by place
--   column-cost            no number costs more than 65535 in a column, whether it is a symbol or not
--   RowColumns row         of the columns of a row's entries
--   row-columns            so the row's columns by place are such, those of missing places too
--   costs-column           a column's costs from their bytes, two each
--   table-costs            the columns of a table of bytes
--   new-costs, deliver-costs   an opened session's row, and the row that a delivery of a column leaves
use Rattle.std.specs.Prelude.{Bool, true, false, ◌≡◌, refl, ℕ, ◌+◌, ◌*◌, ◌<◌, ◌≤◌, length, get_or, take, drop, replicate}
use Rattle.std.proofs.Common.{sym, arith}
use Rattle.std.proofs.Math.Path.{subst}
use mathlib.Core.List.Memᴰ
use mathlib.Core.List.{List, Memᴰ}
use Rattle.std.proofs.Math.Logic.{⊎_elim}
use Rattle.std.proofs.Math.Decide.{dec_lt}
use Rattle.std.proofs.lemmas.List.{length-replicate, get_or-replicate}
use Rattle.std.proofs.Math.ListN.{get_or-eq_default}
use Rattle.lists.specs.Distinct.{below, below_at, below-take, below-drop}
use Rattle.lists.specs.Listed.{listed_at}
use Rattle.soft.specs.Column.{ceiling, cost_of, pair_at, cost_from, costs_from}
use Rattle.soft.specs.ColumnLaws.{costs-length, table-column}
use Rattle.book.specs.Model.{Model, places, width}
use Rattle.book.specs.Book.{Entry, Book, new_book, taken, Outcome}
use Rattle.book.specs.rows.Delivery.{with_entry, deliver_of}
use Rattle.book.specs.Columns.{columns_of, columns-none, column-taken, column-free}
use Rattle.book.specs.rows.RowLaws.{deliver-above, deliver-taken, deliver-accepted}
use Rattle.book.specs.Entries.{column-entry}
use Rattle.book.specs.tables.Table.{table_columns}

byte-below : (bytes : List ℕ) → below 256 bytes ≡ true → (i : ℕ) → get_or bytes i 0 < 256
byte-below bytes b i = go (dec_lt i (length bytes))
  where
    go : Dec (i < length bytes) → get_or bytes i 0 < 256
    go (yes h) = below_at 256 bytes i b h
    go (no h) = omega (arith, get_or-eq_default bytes 0 {n = i} (omega arith))

cost-from : (n : ℕ) (bytes : List ℕ) (s : ℕ) → s < n → cost_of (costs_from n bytes) s ≡ pair_at bytes (s * 2)
unfolding costs_from
cost-from n bytes s h = listed_at n s (cost_from bytes) 0 h

module _ (𝓓 : Model) where
  pub record IsColumn (column : List ℕ) : Type 0 where
    pub whole : length column ≡ width 𝓓
    pub costs : (s : ℕ) → s < width 𝓓 → cost_of column s ≤ ceiling

  pub record AreColumns (columns : ℕ → List ℕ) : Type 0 where
    pub at : (p : ℕ) → p < places 𝓓 → IsColumn (columns p)

  abbrev pub RowColumns : List Entry → Type 0
  RowColumns row = (e : Entry) → Memᴰ e row → IsColumn e.column

  pub column-cost : {column : List ℕ} → IsColumn column → (s : ℕ) → cost_of column s ≤ ceiling
  column-cost {column} c s = go (dec_lt s (width 𝓓))
    where
      go : Dec (s < width 𝓓) → cost_of column s ≤ ceiling
      go (yes h) = c.costs s h
      go (no h) = omega (arith, get_or-eq_default column 0 {n = s} (omega (arith, c.whole)))

  -- ---- the row's columns by place

  zeros-column : IsColumn (replicate (width 𝓓) 0)
  zeros-column =
      record { whole = length-replicate {A = ℕ} (width 𝓓) 0; costs = λ s h. omega (arith, get_or-replicate {A = ℕ} (width 𝓓) s 0 0 h) }

  pub row-columns : (row : List Entry) → RowColumns row → AreColumns (columns_of 𝓓 row)
  row-columns row all = record { at = λ p h. go p (taken row p) refl }
    where
      go : (p : ℕ) (b : Bool) → taken row p ≡ b → IsColumn (columns_of 𝓓 row p)
      go p true e = let r = column-entry row p (column-taken 𝓓 row p e) in subst IsColumn r.3 (all r.0 r.1)
      go p false e = subst IsColumn (sym (columns-none 𝓓 row p (column-free row p e))) zeros-column

  -- ---- costs from bytes

  pub costs-column : (bytes : List ℕ) → below 256 bytes ≡ true → IsColumn (costs_from (width 𝓓) bytes)
  costs-column bytes b =
      record {
        whole = costs-length (width 𝓓) bytes;
        costs = λ s h. omega (arith, cost-from (width 𝓓) bytes s h, byte-below bytes b (s * 2), byte-below bytes b (s * 2 + 1));
      }

  pub table-costs : (table : List ℕ) → below 256 table ≡ true → AreColumns (table_columns 𝓓 table)
  unfolding table_columns
  table-costs table b =
      record {
        at = λ p h.
            subst IsColumn (sym (table-column (places 𝓓) (width 𝓓) table p h))
            (costs-column (take (width 𝓓 * 2) (drop (p * width 𝓓 * 2) table))
            (below-take 256 (width 𝓓 * 2) (drop (p * width 𝓓 * 2) table) (below-drop 256 (p * width 𝓓 * 2) table b)));
      }

  -- ---- deliveries

  entry-costs : (book : Book) (p : ℕ) (column : List ℕ) → RowColumns book.row → IsColumn column → RowColumns (with_entry book p column).row
  unfolding with_entry
  entry-costs book p column all c e m =
      ⊎_elim (λ l. all e l) (λ l. subst (λ (x : Entry). IsColumn x.column) (sym (Memᴰ.eq_of_singleton l)) c)
      (Memᴰ.append_cases book.row m)

  pub deliver-costs : (book : Book) (p : ℕ) (column : List ℕ) → RowColumns book.row → IsColumn column
      → RowColumns (deliver_of 𝓓 book p column).book.row
  deliver-costs book p column all c = go (dec_lt p (places 𝓓)) (taken book.row p) refl
    where
      go : Dec (p < places 𝓓) → (b : Bool) → taken book.row p ≡ b → RowColumns (deliver_of 𝓓 book p column).book.row
      go (yes h) true e = subst (λ (o : Outcome). RowColumns o.book.row) (sym (deliver-taken 𝓓 book p column h e)) all
      go (yes h) false e =
          subst (λ (o : Outcome). RowColumns o.book.row) (sym (deliver-accepted 𝓓 book p column h e)) (entry-costs book p column all c)
      go (no h) b e = subst (λ (o : Outcome). RowColumns o.book.row) (sym (deliver-above 𝓓 book p column (omega arith))) all

  pub new-costs : (rate : ℕ) (list : List ℕ) → RowColumns (new_book rate list).row
  unfolding new_book
  new-costs rate list e m = absurd (Memᴰ.not-nil m)
