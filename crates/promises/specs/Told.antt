-- What an accepted call tells: the report's bytes hold its numbers, and the mark is true. Of table decoding by doubt and by threshold, of decoding from bit values
-- and of closing, for all arguments of their types.
--
--   Told k columns doubtful c   if the call accepts, the report shows the numbers of the message given, none of them cut (`book` Reported), and if its last byte is
--                        1, no codeword of the rate costs less than that of the message (`book` Cheapest)
--   TableTold, BelowTold, BitsTold, SessionTold   the call answers as the book says, and tells this; of a session that is good
--   ColumnTold bytes p part   a look-up hands back what the book says: for an accepted capture and a place below 64 the bytes of that place's column
--   WrittenAgain bytes before r after   a capture, opened and written, is answered as the book says; an accepted one, into a buffer of its size, is accepted, and
--                        has its bytes again exactly if its records are in place order
--   table-told, below-told, bits-told, session-told, column-told   so it is, of bytes and of costs of 16 bits
use Rattle.std.specs.Prelude.{Bool, true, false, ◌≡◌, refl, ◌↔◌, get_or}
use Rattle.std.proofs.Math.Path.{sym, subst₂}
use Rattle.std.proofs.Common.{ap, ◌∙◌, subst, arith, lit≤}
use mathlib.Core.List.{List}
use Rattle.std.proofs.Math.Option.{some}
use Prim.Native.Nat.{ℕ, ◌+◌, ◌*◌, ◌<◌, ◌≤◌}
use Rattle.std.proofs.Math.Decide.{dec_lt, ℕ_discrete}
use Rattle.std.proofs.Math.ListN.{length, get_or-eq_default}
use Rattle.refusals.specs.Refusal.{accepted, unknown_rate}
use Rattle.lists.specs.Distinct.{below, below_at}
use Rattle.soft.specs.Bits.{bits, bit_columns}
use Rattle.soft.proofs.BitsLaws.{bit-table-bytes}
use Rattle.soft.specs.Column.{ceiling, column_of}
use Rattle.soft.specs.ColumnLaws.{column-length, cost-column}
use Rattle.soft.specs.CostBytes.{cost_bytes}
use Rattle.soft.specs.Doubt.{doubtful_of}
use Rattle.code.specs.Encoding.{known_rate}
use Rattle.book64.specs.Modem64.{modem64}
use Rattle.book64.proofs.captures.WritingLaws.{writing-alike}
use Rattle.book.specs.Book.{column_in, Filled}
use Rattle.book64.specs.captures.CaptureOpening.{records_in, open_capture_of}
use Rattle.book.specs.closing.Closing.{Closed}
use Rattle.book.proofs.closing.ClosingLaws.{refused-number, close-report}
use Rattle.book64.specs.captures.LookUp.{look_up_of}
use Rattle.book64.specs.captures.LookUpLaws.{look-up-column}
use Rattle.book.specs.sentences.Marked.{Cheapest}
use Rattle.book.proofs.sentences.Marked.{table-marked, shows-cheapest, close-word}
use Rattle.book.specs.rows.PlaceOrder.{InPlaceOrder}
use Rattle.book.specs.closing.Report.{ShowsFor, Reported}
use Rattle.book.proofs.closing.Report.{table-shows, report-shows}
use Rattle.book.specs.opening.OpeningLaws.{list-short}
use Rattle.book.specs.tables.Table.{closed}
use Rattle.book.proofs.tables.Table.{table-rate, checks-passed}
use Rattle.book.specs.tables.Below.{doubt_for}
use Rattle.book.proofs.tables.Below.{below-accepted, below-as-table, below-picked}
use Rattle.book.proofs.tables.Bits.{bits-as-table, bits-refused, made-columns}
use Rattle.book.specs.tables.Table as Table
use Rattle.book64.specs.captures.Writing.{write_of}
use Rattle.book64.specs.Here.{places, width, mark_in, mark-byte, columns_of, close_of, table_columns, picked_of, picked_below, table_of, table_below_of, frame_length, power, table_made, bits_of, checks_of, AreColumns}
use Rattle.session.specs.declared.Session.{Session}
use Rattle.session.specs.Answering.{Closing}
use Rattle.session.specs.Calls.{Ending, Opening}
use Rattle.session.specs.View.{held, book_of, Good}
use Rattle.calls.specs.Held as Fields
use Rattle.calls.specs.HeldLaws.{columns-table}
use Rattle.session.specs.Laws.{good-proper}
use Rattle.capture.specs.Calls.{Writing}
use Rattle.capture.specs.Laws.{open-then-write}

pub record Told (k : ℕ) (columns : ℕ → List ℕ) (doubtful : List ℕ) (c : Closed) : Type 0 where
  pub shows : c.number ≡ accepted → Reported modem64 k columns doubtful c
  pub cheapest : c.number ≡ accepted → mark_in c.report ≡ 1 → Cheapest modem64 k columns c.message

pub record TableTold (rate : ℕ) (table : List ℕ) (doubt : ℕ) (message report : List ℕ) (c : Closed) : Type 0 where
  pub answers : c ≡ table_of rate table doubt message report
  pub tells : Told rate (table_columns table) (picked_of table doubt) c

pub record BelowTold (rate : ℕ) (table : List ℕ) (threshold most : ℕ) (message report : List ℕ) (c : Closed) : Type 0 where
  pub answers : c ≡ table_below_of rate table threshold most message report
  pub tells : Told rate (table_columns table) (picked_below table threshold most) c

pub record BitsTold (rate : ℕ) (frame : List ℕ) (doubt : ℕ) (message report : List ℕ) (c : Closed) : Type 0 where
  pub answers : c ≡ bits_of rate frame doubt message report
  pub tells : Told rate (bit_columns bits frame) (doubtful_of places doubt (bit_columns bits frame)) c

pub record SessionTold (s : Session) (message report : List ℕ) (c : Closed) : Type 0 where
  pub answers : Good s → c ≡ close_of (book_of s) message report
  pub tells : Good s → Told s.rate (columns_of (book_of s).row) (book_of s).doubtful c

pub record ColumnTold (bytes : List ℕ) (p : ℕ) (part : List ℕ) : Type 0 where
  pub answers : part ≡ look_up_of bytes p
  pub tells : p < 64 → (open_capture_of bytes).number ≡ accepted
      → (column : List ℕ) × (column_in (open_capture_of bytes).book.row p ≡ some column) × (part ≡ cost_bytes column)

pub record WrittenAgain (bytes before : List ℕ) (r : ℕ) (after : List ℕ) : Type 0 where
  pub answers : (r ≡ (write_of (open_capture_of bytes).book before).number) × (after ≡ (write_of (open_capture_of bytes).book before).bytes)
  pub accepts : (open_capture_of bytes).number ≡ accepted → length before ≡ length bytes → r ≡ accepted
  pub gives : (open_capture_of bytes).number ≡ accepted → length before ≡ length bytes → ((after ≡ bytes) ↔ InPlaceOrder (records_in bytes))

-- ---- tables

module _ (rate : ℕ) (table : List ℕ) (message report : List ℕ) where
  table-known : (doubt : ℕ) → (table_of rate table doubt message report).number ≡ accepted → known_rate rate ≡ true
  table-known doubt n = go (known_rate rate) refl
    where
      go : (b : Bool) → known_rate rate ≡ b → known_rate rate ≡ true
      go true e = e
      go false e =
          absurd
          (omega (arith, sym (refused-number unknown_rate message report) ∙ sym (ap (λ (c : Closed). c.number) (table-rate modem64 rate table doubt message report e)) ∙ n))

  pub table-told : below 256 table ≡ true → (doubt : ℕ)
      → Told rate (table_columns table) (picked_of table doubt) (table_of rate table doubt message report)
  table-told small doubt =
      record {
        shows = table-shows modem64 rate table doubt message report small;
        cheapest = λ n mark. table-marked modem64 (table-known doubt n) table doubt message report small n (mark-byte _ ∙ mark);
      }

  pub below-told : below 256 table ≡ true → (threshold most : ℕ)
      → Told rate (table_columns table) (picked_below table threshold most) (table_below_of rate table threshold most message report)
  below-told small threshold most = record { shows = λ n. (as-table n).shows n; cheapest = λ n. (as-table n).cheapest n }
    where
      as-table : (table_below_of rate table threshold most message report).number ≡ accepted
          → Told rate (table_columns table) (picked_below table threshold most) (table_below_of rate table threshold most message report)
      as-table n =
          let a = below-accepted modem64 rate table threshold most message report n in
          subst₂ (λ list (c : Closed). Told rate (table_columns table) list c) (sym (below-picked modem64 table threshold most))
          (sym (below-as-table modem64 table threshold most a.0 a.1 rate message report))
          (table-told small (doubt_for modem64 table threshold most))

-- ---- bit values

module _ (rate : ℕ) (frame : List ℕ) (doubt : ℕ) (message report : List ℕ) where
  checks : ℕ
  checks = checks_of rate (length frame) frame_length (length message) (length report)

  -- an accepted frame has its length
  bits-whole : (bits_of rate frame doubt message report).number ≡ accepted → length frame ≡ frame_length
  unfolding checks
  bits-whole n = go (ℕ_discrete checks accepted)
    where
      go : Dec (checks ≡ accepted) → length frame ≡ frame_length
      go (yes e) = (checks-passed modem64 rate (length frame) frame_length (length message) (length report) e).whole
      go (no d) =
          absurd
          (d
          (sym (refused-number checks message report)
          ∙ sym (ap (λ (c : Closed). c.number) (bits-refused modem64 bits rate frame doubt message report d)) ∙ n))

  pub bits-told : Told rate (bit_columns bits frame) (doubtful_of places doubt (bit_columns bits frame)) (bits_of rate frame doubt message report)
  unfolding Table.picked_of
  bits-told = record { shows = λ n. (as-table n).shows n; cheapest = λ n. (as-table n).cheapest n }
    where
      as-table : (bits_of rate frame doubt message report).number ≡ accepted
          → Told rate (bit_columns bits frame) (doubtful_of places doubt (bit_columns bits frame)) (bits_of rate frame doubt message report)
      as-table n =
          let whole = bits-whole n in
          subst₂ (λ (columns : ℕ → List ℕ) (c : Closed). Told rate columns (doubtful_of places doubt columns) c)
          (made-columns modem64 bits frame power whole) (sym (bits-as-table modem64 bits frame power rate doubt message report whole))
          (table-told rate (table_made frame) message report (bit-table-bytes bits frame places (lit≤ tt)) doubt)

-- ---- sessions

-- costs of 16 bits make columns of costs
costs-columns : (costs : List ℕ) → below 65536 costs ≡ true → AreColumns (column_of width costs)
costs-columns costs small =
    record {
      at = λ p h. record {
        whole = column-length width costs p;
        costs = λ s l. omega (arith, cost-column width costs p s l, cost (p * width + s));
      };
    }
  where
    cost : (i : ℕ) → get_or costs i 0 ≤ ceiling
    cost i = go (dec_lt i (length costs))
      where
        go : Dec (i < length costs) → get_or costs i 0 ≤ ceiling
        go (yes h) = let b = below_at 65536 costs i small h in omega (arith, b)
        go (no h) = omega (arith, get_or-eq_default costs 0 {n = i} (omega arith))

pub session-told : (s : Session) (message report : List ℕ) → below 65536 s.costs ≡ true → Good s
    → Told s.rate (columns_of (book_of s).row) (book_of s).doubtful (close_of (book_of s) message report)
unfolding Fields.book_of
session-told s message report small good = record { shows = shows; cheapest = λ n mark. cheapest n mark }
  where
    columns : AreColumns (columns_of (book_of s).row)
    columns = subst AreColumns (sym (columns-table modem64 (held s) good)) (costs-columns s.costs small)

    shows : (close_of (book_of s) message report).number ≡ accepted
        → Reported modem64 s.rate (columns_of (book_of s).row) (book_of s).doubtful (close_of (book_of s) message report)
    shows n =
        subst (ShowsFor modem64 s.rate (columns_of (book_of s).row) (book_of s).doubtful (close_of (book_of s) message report).message)
        (sym (close-report modem64 (book_of s) message report n))
        (report-shows modem64 columns s.rate (book_of s).doubtful (close_of (book_of s) message report).message
        (list-short modem64 (book_of s).doubtful (good-proper s good).list_fit))

    cheapest : (close_of (book_of s) message report).number ≡ accepted → mark_in (close_of (book_of s) message report).report ≡ 1
        → Cheapest modem64 s.rate (columns_of (book_of s).row) (close_of (book_of s) message report).message
    cheapest n mark =
        shows-cheapest modem64 (book_of s).doubtful (good-proper s good).rate_known columns (close-word modem64 (book_of s) message report n) (shows n)
        (mark-byte _ ∙ mark)

-- ---- look-ups

pub column-told : (bytes : List ℕ) (p : ℕ) → below 256 bytes ≡ true → ColumnTold bytes p (look_up_of bytes p)
column-told bytes p small = record { answers = refl; tells = λ h n. look-up-column bytes p h n small }

-- ---- from what the calls promise

pub by-table : {rate : ℕ} {table : List ℕ} {doubt : ℕ} {message report : List ℕ} {c : Closed} → c ≡ table_of rate table doubt message report
    → below 256 table ≡ true → TableTold rate table doubt message report c
by-table {rate} {table} {doubt} {message} {report} e small =
    record { answers = e; tells = subst (Told rate (table_columns table) (picked_of table doubt)) (sym e) (table-told rate table message report small doubt) }

pub by-threshold : {rate : ℕ} {table : List ℕ} {threshold most : ℕ} {message report : List ℕ} {c : Closed}
    → c ≡ table_below_of rate table threshold most message report → below 256 table ≡ true → BelowTold rate table threshold most message report c
by-threshold {rate} {table} {threshold} {most} {message} {report} e small =
    record {
      answers = e;
      tells = subst (Told rate (table_columns table) (picked_below table threshold most)) (sym e) (below-told rate table message report small threshold most);
    }

pub by_bits : {rate : ℕ} {frame : List ℕ} {doubt : ℕ} {message report : List ℕ} {c : Closed} → c ≡ bits_of rate frame doubt message report
    → BitsTold rate frame doubt message report c
by_bits {rate} {frame} {doubt} {message} {report} e =
    record {
      answers = e;
      tells = subst (Told rate (bit_columns bits frame) (doubtful_of places doubt (bit_columns bits frame))) (sym e) (bits-told rate frame doubt message report);
    }

pub by_closing : {s : Session} {message report message' report' : List ℕ} {r : ℕ} → Closing s message report r message' report'
    → below 65536 s.costs ≡ true → SessionTold s message report (closed r message' report')
by_closing {s} {message} {report} {message'} {report'} {r} c small =
    record {
      answers = same;
      tells = λ good.
          subst (Told s.rate (columns_of (book_of s).row) (book_of s).doubtful) (sym (same good)) (session-told s message report small good);
    }
  where
    same : Good s → closed r message' report' ≡ close_of (book_of s) message report
    same good = λ i. closed (c.number good i) (c.message_bytes good i) (c.report_bytes good i)

pub by-look-up : {bytes part : List ℕ} {p : ℕ} → part ≡ look_up_of bytes p → below 256 bytes ≡ true → ColumnTold bytes p part
by-look-up {bytes} {part} {p} e small = subst (ColumnTold bytes p) (sym e) (column-told bytes p small)

pub by_opening : {bytes before after : List ℕ} {r : ℕ} {o : Ending} → Opening (open_capture_of bytes) o → Writing o.session before r after
    → below 256 bytes ≡ true → WrittenAgain bytes before r after
by_opening {bytes} {before} {after} {r} {o} d w small =
    record {
      answers = (
        w.number d.good ∙ ap (λ (f : Filled). f.number) (writing-alike d.book before),
        w.bytes d.good ∙ ap (λ (f : Filled). f.bytes) (writing-alike d.book before),
      );
      accepts = λ n e. (open-then-write bytes before after r o small d (d.number ∙ n) e w).0;
      gives = λ n e. (open-then-write bytes before after r o small d (d.number ∙ n) e w).1;
    }
