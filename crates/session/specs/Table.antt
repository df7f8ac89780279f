-- The book of a good session, read off its fields.
--
--   columns-table      the columns by place are those of the table, at every place: where a place is free both hold zeros
--   missing-taken      a place is missing exactly if not every flag is set
--   settled-taken      a place is settled exactly if its flag is set, it is not in the doubtful list and its column in the table is not blank
--   settled-table      its best symbol is the best of its column in the table
use Rattle.std.specs.Prelude.{Bool, false, not, ◌&&◌, ◌≡◌, get_or, take}
use Rattle.std.proofs.Math.Path.{ap, ap₂}
use mathlib.Core.List.{List}
use Prim.Native.Nat.{ℕ}
use Rattle.lists.specs.Distinct.{among}
use Rattle.soft.specs.Column.{symbols, best_of, column_of}
use Rattle.soft.specs.Blank.{open_at}
use Rattle.family.specs.Nodes.{node}
use Rattle.book64.specs.Modem64.{modem64}
use Rattle.book64.specs.readings.Reading.{is_settled, settled_at}
use Rattle.book64.specs.Here.{some_missing, columns_of}
use Rattle.session.specs.declared.Session.{Session}
use Rattle.session.specs.View.{held, all_taken, book_of, Good}
use Rattle.session.specs.Laws.{book-taken}
use Rattle.calls.specs.Held as Fields
use Rattle.calls.specs.HeldLaws as laws

module _ (s : Session) (good : Good s) where
  pub columns-table : columns_of (book_of s).row ≡ column_of symbols s.costs
  columns-table = laws.columns-table modem64 (held s) good

  pub missing-taken : some_missing (book_of s).row ≡ not (all_taken s.taken)
  missing-taken = laws.missing-taken modem64 (held s) good

  pub settled-taken : (p : ℕ)
      → is_settled (book_of s) p ≡ (get_or s.taken p false && (not (among p (take s.doubt s.doubtful)) && open_at (column_of symbols s.costs) p))
  unfolding is_settled Fields.book_of
  settled-taken p =
      ap₂ (λ (a : Bool) (f : ℕ → List ℕ). a && (not (among p (take s.doubt s.doubtful)) && open_at f p)) (book-taken s good p) columns-table

  pub settled-table : (p : ℕ) → settled_at (book_of s) p ≡ node p (best_of (column_of symbols s.costs p))
  unfolding settled_at
  settled-table p = ap (λ (f : ℕ → List ℕ). node p (best_of (f p))) columns-table
