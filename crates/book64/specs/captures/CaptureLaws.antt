-- What follows of the bytes of a capture's costs and records. (The two round trips stand in RoundTrip.)
--
--   costs-bytes, bytes-costs     a column written and read is the column; its bytes read and written are the bytes
--   row-bytes-append, row-bytes-length   the bytes of the records of one row after another, and how many there are
--   records-row, row-records     records written and read, read and written
use Rattle.std.specs.Prelude.{true, ◌≡◌, refl, List, [], ◌∷◌, ◌++◌, ℕ, zero, suc, ◌+◌, ◌*◌, eqb, length, take, drop}
use Rattle.std.proofs.Common.{sym, ap, ap₂, ◌∙◌, append_assoc, arith, length-append, length-drop, take-append-drop, take_at, drop_at, length-take-le, eq-eqb}
use Rattle.lists.specs.Distinct.{below, below-cons, below-take, below-drop, and_both}
use Rattle.soft.specs.Column.{costs_from}
use Rattle.soft.specs.ColumnLaws.{costs-length}
use Rattle.soft.specs.CostBytes.{cost_bytes, cost-bytes-length, costs-written, bytes_read}
use Rattle.book64.specs.Modem64.{modem64}
use Rattle.book.specs.Book.{Entry}
use Rattle.book64.specs.captures.Capture.{record_length, row_bytes, records_of}
use Rattle.book.specs.rows.RowLaws.{wide-cons}
use Rattle.book64.specs.Here.{width, wide}
use Rattle.book.specs.rows.RowLaws as BookRows

-- ---- cost bytes

pub costs-bytes : (column : List ℕ) → length column ≡ width → costs_from width (cost_bytes column) ≡ column
costs-bytes column e = ap (λ n. costs_from n (cost_bytes column)) (sym e) ∙ costs-written column

pub bytes-costs : (bytes : List ℕ) → length bytes ≡ 32 → below 256 bytes ≡ true → cost_bytes (costs_from width bytes) ≡ bytes
bytes-costs bytes e b = bytes_read width bytes e b

-- ---- records

pub row-bytes-append : (a b : List Entry) → row_bytes (a ++ b) ≡ row_bytes a ++ row_bytes b
unfolding row_bytes
row-bytes-append [] b = refl
row-bytes-append (e ∷ a) b =
    ap (λ (l : List ℕ). (e.place ∷ cost_bytes e.column) ++ l) (row-bytes-append a b)
    ∙ sym (append_assoc (e.place ∷ cost_bytes e.column) (row_bytes a) (row_bytes b))

record-length : (e : Entry) → length e.column ≡ width → length (e.place ∷ cost_bytes e.column) ≡ record_length
record-length e l = omega (arith, cost-bytes-length e.column)

pub row-bytes-length : (row : List Entry) → wide row ≡ true → length (row_bytes row) ≡ record_length * length row
unfolding row_bytes
row-bytes-length [] w = refl
row-bytes-length (e ∷ row) w =
    length-append (e.place ∷ cost_bytes e.column) (row_bytes row)
    ∙ omega (arith, record-length e (wide-cons modem64 e row w).0, row-bytes-length row (wide-cons modem64 e row w).1)

pub records-row : (row : List Entry) → wide row ≡ true → records_of (length row) (row_bytes row) ≡ row
unfolding row_bytes records_of
records-row [] w = refl
records-row (e ∷ row) w =
    let l : length e.column ≡ width = (wide-cons modem64 e row w).0 in
    let n : length (cost_bytes e.column) ≡ 32 = omega (arith, cost-bytes-length e.column) in
    ap₂ (λ (c : List ℕ) (r : List Entry). record { place = e.place; column = c } ∷ r)
    (ap (costs_from width) (take_at (cost_bytes e.column) (row_bytes row) 32 n) ∙ costs-bytes e.column l)
    (ap (records_of (length row)) (drop_at (e.place ∷ cost_bytes e.column) (row_bytes row) record_length (omega arith))
    ∙ records-row row (wide-cons modem64 e row w).1)

pub row-records : (n : ℕ) (bytes : List ℕ) → length bytes ≡ record_length * n → below 256 bytes ≡ true → row_bytes (records_of n bytes) ≡ bytes
unfolding row_bytes records_of
row-records zero [] e b = refl
row-records zero (p ∷ bytes) e b = absurd (omega arith)
row-records (suc n) [] e b = absurd (omega arith)
row-records (suc n) (p ∷ bytes) e b =
    let c : below 256 bytes ≡ true = (below-cons 256 p bytes b).1 in
    let d : length (take 32 bytes) ≡ 32 = length-take-le 32 bytes (omega arith) in
    let f : length (drop 32 bytes) ≡ record_length * n = length-drop 32 bytes ∙ omega arith in
    ap (λ (l : List ℕ). p ∷ l)
    (ap₂ (λ (x y : List ℕ). x ++ y)
    (bytes-costs (take 32 bytes) d (below-take 256 32 bytes c))
    (row-records n (drop 32 bytes) f (below-drop 256 32 bytes c))
    ∙ take-append-drop 32 bytes)

pub records-wide : (n : ℕ) (bytes : List ℕ) → wide (records_of n bytes) ≡ true
unfolding records_of BookRows.wide
records-wide zero bytes = refl
records-wide (suc n) bytes =
    and_both (eqb (length (costs_from width (take 32 (drop 1 bytes)))) width) (wide (records_of n (drop record_length bytes)))
    (eq-eqb (length (costs_from width (take 32 (drop 1 bytes)))) width (costs-length width (take 32 (drop 1 bytes))))
    (records-wide n (drop record_length bytes))

pub records-length : (n : ℕ) (bytes : List ℕ) → length (records_of n bytes) ≡ n
unfolding records_of
records-length zero bytes = refl
records-length (suc n) bytes = ap suc (records-length n (drop record_length bytes))
