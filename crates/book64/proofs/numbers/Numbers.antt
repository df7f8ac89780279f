-- The numbers that documents 01 and 02 state of the modem of 64 places, each as a numeral beside the definition that holds it: who changes the one has to
-- change the other. docs/SHAMS.md lists them all, with those that stand in other files.
--
--   field-numbers        sixteen elements; α is 2
--   curve-is             y^4 + y = x^5
--   place-numbers        64 places, sixteen x with four y each; place-point: place 4X + r
--   order_is, y-at-most  the order of x^i y^j is 4i + 5j; j is at most 3
--   missing-orders       1, 2, 3, 6, 7 and 11 are missing, and no other is
--   rate-numbers         rates 6 to 52
--   column-numbers       sixteen costs of two bytes, high first, up to 65535; pinned-gap: #104's example
--   buffer-numbers       a table of 2,048 bytes, a report of 14, a frame of 256 bit values, a reading of 98 bytes, 82 before #110
--   frame-fits           64 bytes of the frame from the start
--   report_bytes, report-bytes-absent   the report byte by byte
--   reading-bytes        bytes 0 to 64 are Q0 by order, 65 to 97 are Q1 by orders 0 to 32: 65 and 33
--   capture-bytes        version, two bytes of length, rate, d, d places, and 64 records of 33 bytes: capture-lengths, capture-offsets, record-bytes
--   capture-size-check   2,117 to 2,129 bytes pass the first check
--   look-up-offset       where the cost bytes of a record begin
--   refused-opening-39   rate 39 and an empty list after a refused opening
--   doubt-limit          a list of up to 12 places, none above 63; table-limit, maximum-limit: 4 for a doubt above 12, for a maximum of 0 or above 12
--   delivery-numbers, withdrawal-numbers   5 above 63; then 6 if the place is taken, and 13 if it is not
--   writing-numbers      2 for another size, then 7 if a place is missing
--   engine-numbers       1, 2, 3, 4 and 12 in the order of the engine's checks
use Rattle.std.specs.Prelude.{Bool, not, ◌&&◌, ◌≡◌, List, [], ◌∷◌, ◌++◌, ◌≢◌, ◌⊎◌, ℕ, suc, ◌+◌, ◌-◌, ◌*◌, ◌/◌, ◌%◌, ◌<◌, ◌≤◌, leb, length, get_or, take, drop}
use Rattle.std.proofs.Math.Bool.{true, false}
use Rattle.std.proofs.Math.Path.{refl}
use Rattle.std.proofs.Common.{ap, arith}
use Rattle.std.proofs.Math.Option.{none, some}
use Rattle.std.proofs.Math.Dec.{eqb}
use Rattle.std.specs.Int.Bits.{bit_xor}
use borrow.Author.Tests.{eqb-true, eq-eqb, lt-leb}
use Rattle.lists.specs.Count.{kept}
use Rattle.lists.specs.Distinct.{and_both}
use Rattle.lists.specs.Words.{all_below}
use Rattle.galois.specs.Gf16.{gf16, alpha}
use Rattle.galois.specs.BinaryField.{size}
use Rattle.galois.specs.Binary as Binary
use Rattle.hermitian.specs.Present.{Present, present-large}
use Rattle.hermitian.specs.Orders.{order, y_power, is_present}
use Rattle.curve.specs.Curve.{power, is_on_curve, fibre, x_of, y_of}
use Rattle.family.specs.Curve as Curve
use Rattle.family.specs.Member.{m16}
use Rattle.family.specs.Member as Family
use Rattle.family.specs.Calls as Calls
use Rattle.soft.specs.Column.{symbols, ceiling, pair_at, counted_gap}
use Rattle.soft.specs.Column as Column
use Rattle.soft.specs.Doubt.{most_doubt}
use Rattle.soft.specs.Bits.{bits}
use Rattle.soft.specs.CostBytes.{cost_bytes}
use Rattle.soft.specs.Total.{bytes_of, margin_bytes, report_of}
use Rattle.code.specs.Encoding.{least_rate, most_rate, known_rate}
use Rattle.code.specs.Calls.{fits_frame}
use Rattle.near.specs.Here.{blank_limit}
use Rattle.interpolant.specs.LeastQ.{reading_length, top_plain, top_z, byte_key}
use Rattle.interpolant.specs.Reading.{former_length}
use Rattle.interpolant.proofs.Reading.{byte_key-plain, byte_key-z}
use Rattle.book64.specs.Modem64.{modem64}
use Rattle.book.specs.Model as Models
use Rattle.book.specs.Book.{Entry, Book, new_book, taken, Outcome, Filled}
use Rattle.book.specs.opening.Opening as Opening
use Rattle.book.specs.closing.Closing.{refused_closing}
use Rattle.book.specs.closing.Closing as Closing
use Rattle.book.specs.tables.Table as Table
use Rattle.book.proofs.tables.Table as TableLaws
use Rattle.book.proofs.tables.Below as Below
use Rattle.book.specs.tables.Bits as Bits
use Rattle.book64.specs.captures.Capture.{record_length, body_length, capture_length, row_bytes, version_of, capture_of, records_of}
use Rattle.book64.specs.captures.CaptureOpening.{version_in, length_in, rate_in, doubt_in, list_in, records_in, size_fits}
use Rattle.book64.specs.captures.LookUp.{record_with, costs_begin}
use Rattle.book64.specs.captures.Writing.{write_of}
use Rattle.book64.proofs.captures.RoundTrip.{write-size}
use Rattle.book.specs.rows.RowLaws.{deliver-above, deliver-taken}
use Rattle.book.proofs.rows.WithdrawalLaws.{withdraw-above, withdraw-free}
use Rattle.book.specs.opening.OpeningLaws.{fits-list}
use Rattle.book64.specs.engine.Engine.{engine_checks}
use Rattle.book64.specs.Here.{places, report_length, table_length, in_place_order, some_missing, fit_places, fit_doubt, refused_opening, deliver_of, withdraw_of, table_of, table_below_of}

-- ---- the field and the curve

pub field-numbers : (size gf16 ≡ 16) × (alpha 1 ≡ 2)
unfolding alpha Binary.power Binary.times Binary.shift_add Binary.xtime
field-numbers = (refl, refl)

pub curve-is : (x y : ℕ) → is_on_curve x y ≡ eqb (bit_xor (power y 4) y) (power x 5)
unfolding Curve.is_on_curve
curve-is x y = refl

pub place-numbers : (places ≡ 64) × (Family.places m16 ≡ 64) × (Models.places modem64 ≡ 64)
place-numbers = (refl, refl, refl)

pub place-point : (X r : ℕ) → r < 4 → (x_of (4 * X + r) ≡ X) × (y_of (4 * X + r) ≡ get_or (fibre X) r 0)
unfolding Curve.y_of
place-point X r h =
    let x : (4 * X + r) / 4 ≡ X = omega arith in
    let y : (4 * X + r) % 4 ≡ r = omega arith in
    (x, rw (x, y))

pub order_is : (i j : ℕ) → order 4 i j ≡ 4 * i + 5 * j
order_is i j = refl

pub y-at-most : (o : ℕ) → y_power 4 o ≤ 3
y-at-most o = omega arith

pub missing-orders : (kept 12 (λ o. not (is_present 4 o)) ≡ 1 ∷ 2 ∷ 3 ∷ 6 ∷ 7 ∷ 11 ∷ []) × ((o : ℕ) → 12 ≤ o → Present 4 o)
unfolding kept is_present
missing-orders = (refl, λ o h. present-large 4 (omega arith) o h)

pub rate-numbers : (least_rate ≡ 6) × (most_rate ≡ 52)
rate-numbers = (refl, refl)

-- ---- costs and buffers

pub column-numbers : (symbols ≡ 16) × (Models.width modem64 ≡ 16) × (ceiling ≡ 65535) × ((h l : ℕ) → pair_at (h ∷ l ∷ []) 0 ≡ h * 256 + l)
column-numbers = (refl, refl, refl, λ h l. refl)

-- 'best cost 30,000 and a pinned second has gap 35,535 on paper'
pub pinned-gap : (65535 - 30000 ≡ 35535) × (counted_gap 30000 65535 ≡ 65535) × (counted_gap 30000 65534 ≡ 35534)
unfolding counted_gap
pinned-gap = (refl, refl, refl)

pub buffer-numbers : (Table.table_length modem64 ≡ 2048) × (table_length ≡ 2048) × (Closing.report_length modem64 ≡ 14) × (report_length ≡ 14)
    × (bits ≡ 4) × (Bits.frame_length modem64 bits ≡ 256) × (reading_length ≡ 98) × (former_length ≡ 82)
buffer-numbers = (refl, refl, refl, refl, refl, refl, refl, refl)

pub frame-fits : (frame : List ℕ) (start : ℕ) → fits_frame frame start ≡ leb (start + 64) (length frame)
unfolding Calls.fits_frame
frame-fits frame start = refl

-- total (4), test words (2), pinned (1), changed (1), 1 and the margin (4), the mark
pub report_bytes : (t n p c d m : ℕ) → report_of modem64.wide t n p c (some d) m
    ≡ t / 256 / 256 / 256 % 256 ∷ t / 256 / 256 % 256 ∷ t / 256 % 256 ∷ t % 256
    ∷ n / 256 % 256 ∷ n % 256
    ∷ p % 256 ∷ c % 256
    ∷ 1 ∷ d / 256 / 256 / 256 % 256 ∷ d / 256 / 256 % 256 ∷ d / 256 % 256 ∷ d % 256
    ∷ m % 256 ∷ []
unfolding report_of margin_bytes bytes_of
report_bytes t n p c d m = refl

-- 'otherwise it is marked absent'
pub report-bytes-absent : (t n p c m : ℕ) → report_of modem64.wide t n p c none m
    ≡ t / 256 / 256 / 256 % 256 ∷ t / 256 / 256 % 256 ∷ t / 256 % 256 ∷ t % 256
    ∷ n / 256 % 256 ∷ n % 256
    ∷ p % 256 ∷ c % 256
    ∷ 0 ∷ 0 ∷ 0 ∷ 0 ∷ 0
    ∷ m % 256 ∷ []
unfolding report_of margin_bytes bytes_of
report-bytes-absent t n p c m = refl

pub reading-bytes : (reading_length ≡ 65 + 33) × (top_plain ≡ 64) × (top_z ≡ 32) × ((M i : ℕ) → i ≤ 64 → byte_key M i ≡ 2 * i)
    × ((M o : ℕ) → byte_key M (65 + o) ≡ 2 * (o + M) + 1)
reading-bytes = (refl, refl, refl, byte_key-plain, byte_key-z)

-- ---- the capture

pub capture-lengths : (d : ℕ) → (body_length d ≡ 2114 + d) × (capture_length d ≡ 2117 + d) × (capture_length d ≡ 5 + d + 64 * record_length)
capture-lengths d = (refl, refl, omega arith)

pub capture-bytes : (book : Book) → capture_of book
    ≡ version_of (length book.doubtful)
    ∷ (2114 + length book.doubtful) / 256 ∷ (2114 + length book.doubtful) % 256
    ∷ book.rate
    ∷ length book.doubtful
    ∷ (book.doubtful ++ row_bytes (in_place_order book.row))
unfolding capture_of
capture-bytes book = refl

pub capture-offsets : (bytes : List ℕ) → (version_in bytes ≡ get_or bytes 0 0) × (length_in bytes ≡ 256 * get_or bytes 1 0 + get_or bytes 2 0)
    × (rate_in bytes ≡ get_or bytes 3 0) × (doubt_in bytes ≡ get_or bytes 4 0) × (list_in bytes ≡ take (get_or bytes 4 0) (drop 5 bytes))
    × (records_in bytes ≡ records_of 64 (drop (5 + get_or bytes 4 0) bytes))
capture-offsets bytes = (refl, refl, refl, refl, refl, refl)

-- a place and its 32 cost bytes
pub record-bytes : (record_length ≡ 33) × ((e : Entry) (row : List Entry) → row_bytes (e ∷ row) ≡ (e.place ∷ cost_bytes e.column) ++ row_bytes row)
    × ((n : ℕ) (bytes : List ℕ) → records_of (suc n) bytes
    ≡ record { place = get_or bytes 0 0; column = Column.costs_from 16 (take 32 (drop 1 bytes)) } ∷ records_of n (drop 33 bytes))
unfolding row_bytes records_of
record-bytes = (refl, λ e row. refl, λ n bytes. refl)

pub capture-size-check : (bytes : List ℕ) → size_fits bytes ≡ (leb 2117 (length bytes) && leb (length bytes) 2129)
unfolding size_fits
capture-size-check bytes = refl

pub look-up-offset : (bytes : List ℕ) (p : ℕ) → costs_begin bytes p ≡ 6 + get_or bytes 4 0 + 33 * record_with p 64 (drop (5 + get_or bytes 4 0) bytes)
unfolding costs_begin
look-up-offset bytes p = refl

-- ---- the calls

pub refused-opening-39 : (n : ℕ) → refused_opening n ≡ record { number = n; book = new_book 39 [] }
unfolding Opening.refused_opening
refused-opening-39 n = refl

pub doubt-limit : (most_doubt ≡ 12) × ((list : List ℕ) → fit_doubt list ≡ true → (length list ≤ 12) × ((i : ℕ) → i < length list → get_or list i 0 ≤ 63))
doubt-limit = (refl, λ list f. let d = fits-list modem64 list f in (d.short, λ i l. omega (arith, d.in_range i l)))

module _ (rate : ℕ) (table message report : List ℕ) (known : known_rate rate ≡ true) (whole : length table ≡ 2048) (long : length message ≡ rate)
    (whole_report : length report ≡ 14) where
  pub table-limit : (doubt : ℕ) → 12 < doubt → table_of rate table doubt message report ≡ refused_closing 4 message report
  table-limit doubt h = TableLaws.table-doubt modem64 rate table doubt message report known whole long whole_report h

  pub maximum-limit : (t m : ℕ) → (m ≡ 0) ⊎ (12 < m) → table_below_of rate table t m message report ≡ refused_closing 4 message report
  maximum-limit t m w = Below.below-doubt modem64 rate table t m message report known whole long whole_report w

module _ (book : Book) (p : ℕ) where
  pub delivery-numbers : (column : List ℕ) → (63 < p → (deliver_of book p column).number ≡ 5)
      × (p ≤ 63 → taken book.row p ≡ true → (deliver_of book p column).number ≡ 6)
  delivery-numbers column = (
    λ h. ap (λ (o : Outcome). o.number) (deliver-above modem64 book p column (omega arith)),
    λ h t. ap (λ (o : Outcome). o.number) (deliver-taken modem64 book p column (omega arith) t),
  )

  pub withdrawal-numbers : (63 < p → (withdraw_of book p).number ≡ 5) × (p ≤ 63 → taken book.row p ≡ false → (withdraw_of book p).number ≡ 13)
  withdrawal-numbers = (
    λ h. ap (λ (o : Outcome). o.number) (withdraw-above modem64 book p (omega arith)),
    λ h t. ap (λ (o : Outcome). o.number) (withdraw-free modem64 book p (omega arith) t),
  )

pub writing-numbers : (book : Book) (out : List ℕ) → (length out ≢ 2117 + length book.doubtful → (write_of book out).number ≡ 2)
    × (length out ≡ 2117 + length book.doubtful → some_missing book.row ≡ true → (write_of book out).number ≡ 7)
unfolding write_of
writing-numbers book out = (
  λ n. ap (λ (f : Filled). f.number) (write-size book out n),
  λ e m. rw (eq-eqb (length out) (capture_length (length book.doubtful)) e, m),
)

module _ (rate : ℕ) (word blanks : List ℕ) (codeword q : ℕ) where
  abbrev number : ℕ
  number = engine_checks rate word blanks codeword q

  pub engine-numbers : (known_rate rate ≡ false → number ≡ 1)
      × (known_rate rate ≡ true → ((length word ≡ 64) × (codeword ≡ 64) × (q ≡ 98) → ⊥) → number ≡ 2)
      × (known_rate rate ≡ true → length word ≡ 64 → codeword ≡ 64 → q ≡ 98 → (all_below 16 word ≡ false → number ≡ 3)
      × (all_below 16 word ≡ true → (fit_places blanks ≡ false → number ≡ 4) × (fit_places blanks ≡ true → blank_limit rate < length blanks → number ≡ 12)))
  unfolding engine_checks
  engine-numbers = (λ k. rw k, λ k s. rw (k, sizes (eqb (length word) 64) refl (eqb codeword 64) refl (eqb q 98) refl s), λ k a b c. passed k (and_both (eqb (length word) 64) (eqb codeword 64 && eqb q 98) (eq-eqb (length word) 64 a) (and_both (eqb codeword 64) (eqb q 98) (eq-eqb codeword 64 b) (eq-eqb q 98 c))))
    where
      sizes : (a : Bool) → eqb (length word) 64 ≡ a → (b : Bool) → eqb codeword 64 ≡ b → (c : Bool) → eqb q 98 ≡ c
          → ((length word ≡ 64) × (codeword ≡ 64) × (q ≡ 98) → ⊥) → (eqb (length word) 64 && (eqb codeword 64 && eqb q 98)) ≡ false
      sizes false d b e c f s = rw d
      sizes true d false e c f s = rw (d, e)
      sizes true d true e false f s = rw (d, e, f)
      sizes true d true e true f s = absurd (s (eqb-true (length word) 64 d, eqb-true codeword 64 e, eqb-true q 98 f))

      passed : known_rate rate ≡ true → (eqb (length word) 64 && (eqb codeword 64 && eqb q 98)) ≡ true → (all_below 16 word ≡ false → number ≡ 3)
          × (all_below 16 word ≡ true → (fit_places blanks ≡ false → number ≡ 4) × (fit_places blanks ≡ true → blank_limit rate < length blanks → number ≡ 12))
      passed k s = (λ h. rw (k, s, h), λ h. (λ f. rw (k, s, h, f), λ f l. rw (k, s, h, f, lt-leb (length blanks) (blank_limit rate) l)))
