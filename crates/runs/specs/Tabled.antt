-- Demand 2's last sentence, of calls: 'Table decoding … answers as a session opened with them does', with the doubtful places that it picks by doubt or by
-- threshold. (`calls` Tabled, of the modem of 64 places.)
--
--   HoldsTable table row   each of the 64 places is in the row, with its column of the table
--   picked-accepted      opening with the places picked accepts
--   table-as-run         after every list of calls from there that leaves the table's columns in the row, in whatever order and with whatever else called
--                        in between, closing answers as table decoding does: number, message and report
--   Since p calls rest   `rest` are the calls since the place was last withdrawn: all of them, if it never was
--   BringsTable table calls   each of the 64 places is delivered since it was last withdrawn, and no delivery of it since then has another column than the
--                        table's
--   brings-unwithdrawn   of calls that withdraw nothing: each of the 64 places is delivered, and no delivery of one of them has another column
--   brought-since        a place holds the one column that was delivered since it was last withdrawn, whatever came before, in between and after
--   brings-holds         such calls leave the table's columns in the row
--   table-as-calls       so closing after them answers as table decoding does
--   picked-below-accepted, below-as-run, below-as-calls   the same three of table decoding by a threshold, with the places that the threshold picks
use Rattle.std.specs.Prelude.{◌≡◌, ℕ, ◌<◌, ◌≤◌, length}
use mathlib.Core.List.{List, Memᴰ}
use Rattle.std.proofs.Math.Option.{none, some}
use Rattle.refusals.specs.Refusal.{accepted}
use Rattle.soft.specs.Doubt.{most_doubt}
use Rattle.book64.specs.Modem64.{modem64}
use Rattle.book.specs.Book.{Entry, Book, new_book, column_in}
use Rattle.book64.specs.Rates.{Rate, rate_known}
use Rattle.book.specs.calls.Calls.{Answer}
use Rattle.book64.specs.calls.Calls.{Call, deliver, closing}
use Rattle.book64.proofs.calls.Calls.{others64, after_all}
use Rattle.book64.specs.calls.Undone.{Spares}
use Rattle.book64.specs.Here.{places, open_of, table_length, table_columns, picked_of, table_of, picked_below, table_below_of}
use Rattle.calls.specs.Tabled as any
use Rattle.calls.proofs.Tabled as any-laws
use Rattle.session.specs.declared.Session.{Session}
use Rattle.session.specs.View.{keeping}
use Rattle.session.specs.Calls.{Ending, Opening}
use Rattle.runs.specs.Step.{Step}
use Rattle.runs.specs.Runs.{Run}
use Rattle.runs.specs.Follows.{closed_by}

abbrev pub HoldsTable : List ℕ → List Entry → Type 0
HoldsTable table row = any.HoldsTable modem64 table row

abbrev pub Since : ℕ → List Call → List Call → Type 0
Since p calls rest = any.Since p calls rest

abbrev pub BringsTable : List ℕ → List Call → Type 0
BringsTable table calls = any.BringsTable modem64 table calls

pub brings-unwithdrawn : {table : List ℕ} {calls : List Call} → ((p : ℕ) → p < places → Spares p calls)
    → ((p : ℕ) → p < places → (column : List ℕ) × Memᴰ (deliver p column) calls)
    → ((p : ℕ) (column : List ℕ) → p < places → Memᴰ (deliver p column) calls → column ≡ table_columns table p) → BringsTable table calls
brings-unwithdrawn spares every_place columns = any-laws.brings-unwithdrawn modem64 spares every_place columns

-- from a book without the place, by the calls since it was last withdrawn
pub brought-since : (p : ℕ) → p < places → (wanted : List ℕ) → {calls rest : List Call} → Since p calls rest
    → ((column : List ℕ) → Memᴰ (deliver p column) rest → column ≡ wanted)
    → (column : List ℕ) → Memᴰ (deliver p column) rest → (book : Book) → column_in book.row p ≡ none
    → column_in (after_all book calls).row p ≡ some wanted
brought-since p h wanted since only column m book e = any-laws.brought-since others64 p h wanted since only column m book e

pub brings-holds : {table : List ℕ} {calls : List Call} → BringsTable table calls → (rate : ℕ) (list : List ℕ)
    → HoldsTable table (after_all (new_book rate list) calls).row
brings-holds brings rate list = any-laws.brings-holds others64 brings rate list

-- ---- the claim

module _ {rate : ℕ} (known : Rate rate) (table : List ℕ) (whole : length table ≡ table_length) (doubt : ℕ) (few : doubt ≤ most_doubt) {r : Ending}
    (opened : Opening (open_of rate (picked_of table doubt)) r) where
  pub picked-accepted : r.refusal ≡ accepted
  picked-accepted = any-laws.picked-accepted others64 keeping (rate_known known) table whole doubt few opened

  pub table-as-run : {calls : List Call} {given : List Answer} {t : Session} → Run r.session calls given t
      → HoldsTable table (after_all (new_book rate (picked_of table doubt)) calls).row
      → {message report : List ℕ} {a : Answer} {u : Session} → Step t (closing message report) a u
      → closed_by a ≡ table_of rate table doubt message report
  table-as-run run holds step = any-laws.table-as-run others64 keeping (rate_known known) table whole doubt few opened run holds step

  pub table-as-calls : {calls : List Call} {given : List Answer} {t : Session} → Run r.session calls given t → BringsTable table calls
      → {message report : List ℕ} {a : Answer} {u : Session} → Step t (closing message report) a u
      → closed_by a ≡ table_of rate table doubt message report
  table-as-calls run brings step = any-laws.table-as-calls others64 keeping (rate_known known) table whole doubt few opened run brings step

-- ---- the same by a threshold: with the doubt that is counted the places picked are the same, and so is the answer

module _ {rate : ℕ} (known : Rate rate) (table : List ℕ) (whole : length table ≡ table_length) (t m : ℕ) (few : m ≤ most_doubt) {r : Ending}
    (opened : Opening (open_of rate (picked_below table t m)) r) where
  pub picked-below-accepted : r.refusal ≡ accepted
  picked-below-accepted = any-laws.picked-below-accepted others64 keeping (rate_known known) table whole t m few opened

  module _ (room : 1 ≤ m) where
    pub below-as-run : {calls : List Call} {given : List Answer} {s : Session} → Run r.session calls given s
        → HoldsTable table (after_all (new_book rate (picked_below table t m)) calls).row
        → {message report : List ℕ} {a : Answer} {u : Session} → Step s (closing message report) a u
        → closed_by a ≡ table_below_of rate table t m message report
    below-as-run run holds step = any-laws.below-as-run others64 keeping (rate_known known) table whole t m few opened room run holds step

    pub below-as-calls : {calls : List Call} {given : List Answer} {s : Session} → Run r.session calls given s → BringsTable table calls
        → {message report : List ℕ} {a : Answer} {u : Session} → Step s (closing message report) a u
        → closed_by a ≡ table_below_of rate table t m message report
    below-as-calls run brings step = any-laws.below-as-calls others64 keeping (rate_known known) table whole t m few opened room run brings step
