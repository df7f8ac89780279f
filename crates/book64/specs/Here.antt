-- The book of the modem of 64 places, under the names that the crates above use: every modem's, at modem64.
--
--   places, width        its 64 places and the sixteen costs in a column, of `soft` Column
--   report_length, table_length, frame_length   the report's 14 bytes, the table's 2,048, and the 256 of a frame of bit values
--   power                sixteen symbols are those of four bits
--   test-count-here      with at most 12 doubtful places there are at most 4,096 test words, and the number of those with a codeword within T fits two bytes
--   pinned_in, changed_in, runner_in, margin_in, mark_in   the report's bytes 6, 7 and 8, the number in the next four, and the last byte: pinned-byte, changed-byte,
--                        runner-byte, margin-bytes, mark-byte
--
-- All others mean what they mean in Book, Opening, Delivery, Withdrawal, Columns, Entries, RowLaws, OpeningLaws, PlaceOrder, Closing, Table, Below, Bits,
-- Sentences, Costs, Report, Marked and Repairs.
use Rattle.std.specs.Prelude.{Bool, ◌≡◌, refl, List, ℕ, ◌+◌, ◌*◌, ◌^◌, ◌<◌, ◌≤◌, length, get_or}
use Rattle.std.proofs.Math.Option.{Option}
use Rattle.std.proofs.Common.{arith}
use Rattle.soft.specs.Column as Column
use Rattle.soft.specs.Doubt.{most_doubt}
use Rattle.soft.specs.TestWord.{test_words}
use Rattle.soft.specs.Bits.{bits}
use Rattle.family.specs.Member.{m16}
use Rattle.near.specs.Rivals as Rivals
use Rattle.book64.specs.Modem64.{modem64}
use Rattle.book.specs.Model as Models
use Rattle.book.specs.Book as Books
use Rattle.book.specs.Book.{Entry, Book, Outcome}
use Rattle.book.specs.opening.Opening as Opening
use Rattle.book.specs.rows.Delivery as Delivery
use Rattle.book.specs.rows.Withdrawal as Withdrawal
use Rattle.book.specs.Columns as Columns
use Rattle.book.specs.Entries as Entries
use Rattle.book.specs.rows.RowLaws as RowLaws
use Rattle.book.specs.opening.OpeningLaws as OpeningLaws
use Rattle.book.specs.rows.PlaceOrder as PlaceOrder
use Rattle.book.specs.closing.Closing as Closing
use Rattle.book.specs.closing.Closing.{Closed}
use Rattle.book.specs.tables.Table as Table
use Rattle.book.specs.tables.Below as Below
use Rattle.book.specs.tables.Bits as Bits
use Rattle.book.specs.sentences.Sentences as Sentences
use Rattle.book.specs.rows.Costs as Costs
use Rattle.book.specs.closing.Report as Report
use Rattle.book.proofs.closing.Report as ReportLaws
use Rattle.book.specs.sentences.Marked as Marked
use Rattle.book.specs.sentences.Repairs as Repairs

abbrev pub places : ℕ
places = Column.places

abbrev pub width : ℕ
width = Column.symbols

abbrev pub missing : List Entry → ℕ → Bool
missing row p = Books.missing modem64 row p

abbrev pub some_missing : List Entry → Bool
some_missing row = Books.some_missing modem64 row

abbrev pub Missing : List Entry → ℕ → Type 0
Missing row p = Entries.Missing modem64 row p

-- ---- opening, delivery and withdrawal

abbrev pub fit_places : List ℕ → Bool
fit_places list = Opening.fit_places modem64 list

abbrev pub fit_doubt : List ℕ → Bool
fit_doubt list = Opening.fit_doubt modem64 list

abbrev pub DoubtfulList : List ℕ → Type 0
DoubtfulList list = OpeningLaws.DoubtfulList modem64 list

abbrev pub refused_opening : ℕ → Outcome
refused_opening n = Opening.refused_opening modem64 n

abbrev pub open_of : ℕ → List ℕ → Outcome
open_of rate list = Opening.open_of modem64 rate list

abbrev pub deliver_of : Book → ℕ → List ℕ → Outcome
deliver_of book p column = Delivery.deliver_of modem64 book p column

abbrev pub withdraw_of : Book → ℕ → Outcome
withdraw_of book p = Withdrawal.withdraw_of modem64 book p

abbrev pub on_accepted : Outcome → (Book → Outcome) → Outcome
on_accepted o next = Delivery.on_accepted modem64 o next

abbrev pub deliver_row : Book → List Entry → Outcome
deliver_row book entries = Delivery.deliver_row modem64 book entries

-- ---- rows

abbrev pub columns_of : List Entry → ℕ → List ℕ
columns_of row p = Columns.columns_of modem64 row p

abbrev pub wide : List Entry → Bool
wide row = RowLaws.wide modem64 row

abbrev pub Proper : Book → Type 0
Proper book = RowLaws.Proper modem64 book

abbrev pub in_place_order : List Entry → List Entry
in_place_order row = PlaceOrder.in_place_order modem64 row

abbrev pub ordered : Book → Book
ordered book = PlaceOrder.ordered modem64 book

abbrev pub IsColumn : List ℕ → Type 0
IsColumn column = Costs.IsColumn modem64 column

abbrev pub AreColumns : (ℕ → List ℕ) → Type 0
AreColumns columns = Costs.AreColumns modem64 columns

abbrev pub RowColumns : List Entry → Type 0
RowColumns row = Costs.RowColumns modem64 row

-- ---- closing

abbrev pub report_length : ℕ
report_length = 14

abbrev pub tests_for : ℕ → (ℕ → List ℕ) → List ℕ → ℕ
tests_for k columns doubtful = Closing.tests_for modem64 k columns doubtful

abbrev pub margin_for : ℕ → (ℕ → List ℕ) → List ℕ → List ℕ → Option ℕ
margin_for k columns doubtful m = Closing.margin_for modem64 k columns doubtful m

abbrev pub report_for : ℕ → (ℕ → List ℕ) → List ℕ → List ℕ → List ℕ
report_for k columns doubtful m = Closing.report_for modem64 k columns doubtful m

abbrev pub decode_of : ℕ → (ℕ → List ℕ) → List ℕ → List ℕ → List ℕ → Closed
decode_of k columns doubtful message report = Closing.decode_of modem64 k columns doubtful message report

abbrev pub close_of : Book → List ℕ → List ℕ → Closed
close_of book message report = Closing.close_of modem64 book message report

abbrev pub blanks_in : Book → ℕ
blanks_in book = Sentences.blanks_in modem64 book

abbrev pub IsNear : Book → ℕ → List ℕ → Type 0
IsNear book T m = Sentences.IsNear modem64 book T m

abbrev pub HasMargin : Book → ℕ → List ℕ → ℕ → Type 0
HasMargin book T m d = Sentences.HasMargin modem64 book T m d

abbrev pub IsAnswer : Book → ℕ → Closed → Type 0
IsAnswer book T c = Sentences.IsAnswer modem64 book T c

abbrev pub Closes : Book → Closed → Type 0
Closes book c = Sentences.Closes modem64 book c

abbrev pub FewWrong : ℕ → (ℕ → List ℕ) → List ℕ → ℕ → List ℕ → Type 0
FewWrong k columns doubtful T m = Repairs.FewWrong modem64 k columns doubtful T m

abbrev pub not_best : ℕ → (ℕ → List ℕ) → List ℕ → ℕ
not_best k columns m = Repairs.not_best modem64 k columns m

abbrev pub Repaired : ℕ → (ℕ → List ℕ) → List ℕ → List ℕ → Closed → Type 0
Repaired k columns doubtful m c = Repairs.Repaired modem64 k columns doubtful m c

abbrev pub NoDearer : ℕ → (ℕ → List ℕ) → List ℕ → List ℕ → Closed → Type 0
NoDearer k columns doubtful m c = Repairs.NoDearer modem64 k columns doubtful m c

abbrev pub TooFar : ℕ → (ℕ → List ℕ) → ℕ → List ℕ → Type 0
TooFar k columns T m = Repairs.TooFar modem64 k columns T m

abbrev pub FewDoubtful : ℕ → (ℕ → List ℕ) → List ℕ → ℕ → Type 0
FewDoubtful k columns doubtful T = Rivals.FewDoubtful m16 k columns doubtful T

abbrev pub Alone : ℕ → (ℕ → List ℕ) → List ℕ → ℕ → List ℕ → Type 0
Alone k columns doubtful T m = Repairs.Alone modem64 k columns doubtful T m

abbrev pub Sure : ℕ → (ℕ → List ℕ) → List ℕ → List ℕ → Closed → Type 0
Sure k columns doubtful m c = Repairs.Sure modem64 k columns doubtful m c

abbrev pub RefusedAs : ℕ → List ℕ → List ℕ → Closed → Type 0
RefusedAs n message report c = Repairs.RefusedAs modem64 n message report c

abbrev pub Never : ℕ → (ℕ → List ℕ) → List ℕ → List ℕ → List ℕ → List ℕ → Closed → Type 0
Never k columns doubtful m message report c = Repairs.Never modem64 k columns doubtful m message report c

-- ---- the report

abbrev pub pinned_in : List ℕ → ℕ
pinned_in report = get_or report 6 0

abbrev pub changed_in : List ℕ → ℕ
changed_in report = get_or report 7 0

abbrev pub runner_in : List ℕ → ℕ
runner_in report = get_or report 8 0

abbrev pub margin_in : List ℕ → ℕ
margin_in report = 16777216 * get_or report 9 0 + 65536 * get_or report 10 0 + 256 * get_or report 11 0 + get_or report 12 0

pub pinned-byte : (report : List ℕ) → Report.pinned_in modem64 report ≡ pinned_in report
pinned-byte report = ReportLaws.number-byte 6 report

pub changed-byte : (report : List ℕ) → Report.changed_in modem64 report ≡ changed_in report
changed-byte report = ReportLaws.number-byte 7 report

pub runner-byte : (report : List ℕ) → Report.runner_in modem64 report ≡ runner_in report
runner-byte report = ReportLaws.number-byte 8 report

pub margin-bytes : (report : List ℕ) → Report.margin_in modem64 report ≡ margin_in report
unfolding Report.number_in
margin-bytes report = omega arith

abbrev pub mark_in : List ℕ → ℕ
mark_in report = get_or report 13 0

pub mark-byte : (report : List ℕ) → Report.mark_in modem64 report ≡ mark_in report
mark-byte report = ReportLaws.number-byte 13 report

abbrev pub Shows : List ℕ → ℕ → ℕ → ℕ → ℕ → Option ℕ → ℕ → Type 0
Shows report total tests pinned changed margin cheapest = Report.Shows modem64 report total tests pinned changed margin cheapest

-- 'up to 4,096 test words, and the test count still fits its two bytes'
pub test-count-here : (k : ℕ) (columns : ℕ → List ℕ) (doubtful : List ℕ) → length doubtful ≤ most_doubt
    → (length (test_words places columns doubtful) ≤ 4096) × (tests_for k columns doubtful ≤ 4096) × (tests_for k columns doubtful < 65536)
test-count-here k columns doubtful few =
    let fits = ReportLaws.test-count-fits modem64 columns doubtful few k in
    (omega (arith, ReportLaws.test-words-few modem64 columns doubtful few), omega (arith, fits.0), omega (arith, fits.1))

abbrev pub ReportedIn : Book → Closed → Type 0
ReportedIn book c = Report.ReportedIn modem64 book c

abbrev pub CheapestIn : Book → Closed → Type 0
CheapestIn book c = Marked.CheapestIn modem64 book c

-- ---- table decoding

abbrev pub table_length : ℕ
table_length = 2048

abbrev pub table_columns : List ℕ → ℕ → List ℕ
table_columns table p = Table.table_columns modem64 table p

abbrev pub picked_of : List ℕ → ℕ → List ℕ
picked_of table doubt = Table.picked_of modem64 table doubt

abbrev pub checks_of : ℕ → ℕ → ℕ → ℕ → ℕ → ℕ
checks_of rate given wanted message report = Table.checks_of modem64 rate given wanted message report

abbrev pub Checked : ℕ → ℕ → ℕ → ℕ → ℕ → Type 0
Checked rate given wanted message report = Table.Checked modem64 rate given wanted message report

abbrev pub table_of : ℕ → List ℕ → ℕ → List ℕ → List ℕ → Closed
table_of rate table doubt message report = Table.table_of modem64 rate table doubt message report

abbrev pub Delivered : List ℕ → List Entry → Type 0
Delivered table row = Table.Delivered modem64 table row

-- ---- by a threshold

abbrev pub picked_below : List ℕ → ℕ → ℕ → List ℕ
picked_below table t m = Below.picked_below modem64 table t m

abbrev pub table_below_of : ℕ → List ℕ → ℕ → ℕ → List ℕ → List ℕ → Closed
table_below_of rate table t m message report = Below.table_below_of modem64 rate table t m message report

-- ---- decoding from bit values

abbrev pub frame_length : ℕ
frame_length = 256

pub power : Models.width modem64 ≡ 2 ^ bits
power = refl

abbrev pub table_made : List ℕ → List ℕ
table_made frame = Bits.table_made modem64 bits frame

abbrev pub bits_of : ℕ → List ℕ → ℕ → List ℕ → List ℕ → Closed
bits_of rate frame doubt message report = Bits.bits_of modem64 bits rate frame doubt message report
