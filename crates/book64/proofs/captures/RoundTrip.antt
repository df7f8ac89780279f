-- The two round trips of a capture.
--
--   capture-length, written-order   the capture of a proper book has 2,117 + d bytes, and its records are in place order
--   write-size, write-missing, write-accepted   the three cases of writing
--   write-whole          where it is accepted, the buffer has the right size and no place is missing
--   none-missing         what the checks of an accepted capture say: no place is missing
--   open-written         the capture of a proper book opens as that book with its row in place order: the same rate, list and columns
--   write-then-open      so writing, where it is accepted, and then opening gives the book with its row in place order
--   written-columns      the capture of the book that an accepted capture opens as has the same column for each place
--   written-opened       the capture of the book that an accepted capture opens as is that capture exactly if its records are in place order
--   open-then-write      opening an accepted capture and then writing into a buffer of its size gives the capture of that book
use Rattle.std.specs.Prelude.{Bool, true, false, not, ◌≡◌, ◌↔◌, eqb, leb, drop}
use Rattle.std.proofs.Math.Path.{refl, sym, ap, ap₂}
use Rattle.std.proofs.Common.{◌∙◌, subst, arith, length-append, length-drop, length-take-le, drop-drop}
use mathlib.Core.List.{List, [], ◌∷◌, ◌++◌}
use Prim.Native.Nat.{ℕ, suc, ◌+◌, ◌/◌, ◌%◌, ◌<◌, ◌≤◌}
use Rattle.std.proofs.Math.ListN.{length, get_or, take-append-drop}
use Rattle.std.proofs.Math.Seq.{take_at, drop_at}
use borrow.Author.Tests.{eqb-true, eqb-false, eq-eqb, ne_eqb, le-leb}
use Rattle.refusals.specs.Refusal.{accepted, wrong_size, place_missing}
use Rattle.lists.specs.Distinct.{below, below-drop, below_at, and_both}
use Rattle.soft.specs.Doubt.{most_doubt}
use Rattle.book64.specs.Modem64.{modem64}
use Rattle.book.specs.Book.{Entry, Book, new_book, column_in, Outcome, Filled}
use Rattle.book64.specs.captures.Capture.{body_length, capture_length, version_of, row_bytes, records_of, capture_of}
use Rattle.book64.specs.captures.Writing.{write_of}
use Rattle.book64.specs.captures.CaptureOpening.{rate_in, doubt_in, list_in, records_in, size_fits, version_fits, length_in, length_fits, suits_version, open_with, open_capture_of}
use Rattle.book.specs.rows.RowLaws.{missing-count}
use Rattle.book64.specs.captures.CaptureCases.{open-suited, open-with, book_in, Fit, capture-fit}
use Rattle.book64.specs.captures.Versions.{version-is, version-suited}
use Rattle.book64.specs.captures.CaptureLaws.{row-bytes-length, records-row, row-records, records-length}
use Rattle.book.specs.opening.OpeningLaws.{list-short}
use Rattle.book.specs.rows.PlaceOrder.{InPlaceOrder, order-length, order-wide, order-rises, order-proper, order-columns, order_same}
use Rattle.book.specs.rows.PlaceOrder as Ordering
use Rattle.book64.specs.Here.{places, some_missing, Proper, in_place_order, ordered}
use Rattle.book.specs.rows.RowDelivery.{extended, row-delivered}
use Rattle.book64.specs.captures.RoundTrip.{size-range, length-right}

-- ---- writing, then opening

pub capture-length : (book : Book) → Proper book → length (capture_of book) ≡ capture_length (length book.doubtful)
unfolding capture_of
capture-length book proper =
    omega (
      arith,
      length-append book.doubtful (row_bytes (in_place_order book.row)),
      row-bytes-length (in_place_order book.row) (order-wide modem64 book.row proper.all_wide),
      order-length modem64 book.row,
    )

-- what lies behind the five bytes of the head and the list
behind : (v h l r e : ℕ) (rest : List ℕ) → drop (5 + e) (v ∷ h ∷ l ∷ r ∷ e ∷ rest) ≡ drop e rest
behind v h l r e rest = let q : 5 + e ≡ suc (suc (suc (suc (suc e)))) = omega arith in rw q

module _ (book : Book) (proper : Proper book) where
  written-size : size_fits (capture_of book) ≡ true
  unfolding size_fits
  written-size =
      let a : length (capture_of book) ≡ capture_length (length book.doubtful) = capture-length book proper in
      let b : length book.doubtful ≤ most_doubt = list-short modem64 book.doubtful proper.list_fit in
      and_both (leb (capture_length 0) (length (capture_of book))) (leb (length (capture_of book)) (capture_length most_doubt))
      (le-leb (capture_length 0) (length (capture_of book)) (omega arith)) (le-leb (length (capture_of book)) (capture_length most_doubt) (omega arith))

  written-version : version_fits (capture_of book) ≡ true
  unfolding version_fits capture_of
  written-version = version-is (length book.doubtful)

  written-suits : suits_version (capture_of book) ≡ true
  unfolding suits_version capture_of
  written-suits = eq-eqb (version_of (length book.doubtful)) (version_of (length book.doubtful)) refl

  written-length : length_fits (capture_of book) ≡ true
  unfolding length_fits capture_of
  written-length =
      let a : length (capture_of book) ≡ capture_length (length book.doubtful) = capture-length book proper in
      and_both (eqb (length_in (capture_of book) + 3) (length (capture_of book)))
      (eqb (length_in (capture_of book)) (body_length (length book.doubtful)))
      (eq-eqb (length_in (capture_of book) + 3) (length (capture_of book)) (omega arith))
      (eq-eqb (length_in (capture_of book)) (body_length (length book.doubtful)) (omega arith))

  written-list : list_in (capture_of book) ≡ book.doubtful
  unfolding capture_of
  written-list = take_at book.doubtful (row_bytes (in_place_order book.row)) (length book.doubtful) refl

  written-records : records_in (capture_of book) ≡ in_place_order book.row
  unfolding capture_of
  written-records =
      let bytes : List ℕ = row_bytes (in_place_order book.row) in
      ap (records_of places)
      (behind (version_of (length book.doubtful)) (body_length (length book.doubtful) / 256) (body_length (length book.doubtful) % 256) book.rate
      (length book.doubtful) (book.doubtful ++ bytes)
      ∙ drop_at book.doubtful bytes (length book.doubtful) refl)
      ∙ ap (λ n. records_of n bytes) (sym (order-length modem64 book.row))
      ∙ records-row (in_place_order book.row) (order-wide modem64 book.row proper.all_wide)

  pub written-order : InPlaceOrder (records_in (capture_of book))
  written-order = subst InPlaceOrder (sym written-records) (order-rises modem64 book.row)

  written-rate : rate_in (capture_of book) ≡ book.rate
  unfolding capture_of
  written-rate = refl

  pub open-written : open_capture_of (capture_of book) ≡ record { number = accepted; book = ordered book }
  unfolding extended new_book Ordering.ordered
  open-written =
      let sorted = order-proper modem64 book proper in
      open-suited (capture_of book) written-size written-version written-length written-suits
      ∙ ap₂ (λ r (l : List ℕ). open_with r l (records_in (capture_of book))) written-rate written-list
      ∙ ap (open_with book.rate book.doubtful) written-records
      ∙ open-with book.rate book.doubtful (in_place_order book.row) proper.rate_known proper.list_fit
      ∙ row-delivered modem64 (new_book book.rate book.doubtful) (in_place_order book.row) sorted.in_range sorted.apart

-- ---- the three cases of writing

module _ (book : Book) (out : List ℕ) where
  pub write-size : (length out ≡ capture_length (length book.doubtful) → ⊥) → write_of book out ≡ record { number = wrong_size; bytes = out }
  unfolding write_of
  write-size h = rw (ne_eqb (length out) (capture_length (length book.doubtful)) h)

  pub write-missing : length out ≡ capture_length (length book.doubtful) → some_missing book.row ≡ true
      → write_of book out ≡ record { number = place_missing; bytes = out }
  unfolding write_of
  write-missing h m = rw (eq-eqb (length out) (capture_length (length book.doubtful)) h, m)

  pub write-accepted : length out ≡ capture_length (length book.doubtful) → some_missing book.row ≡ false
      → write_of book out ≡ record { number = accepted; bytes = capture_of book }
  unfolding write_of
  write-accepted h m = rw (eq-eqb (length out) (capture_length (length book.doubtful)) h, m)

  pub write-whole : (write_of book out).number ≡ accepted
      → (length out ≡ capture_length (length book.doubtful)) × (some_missing book.row ≡ false)
  write-whole n = go (eqb (length out) (capture_length (length book.doubtful))) refl (some_missing book.row) refl
    where
      size : ℕ
      size = capture_length (length book.doubtful)

      go : (a : Bool) → eqb (length out) size ≡ a → (b : Bool) → some_missing book.row ≡ b
          → (length out ≡ capture_length (length book.doubtful)) × (some_missing book.row ≡ false)
      go false e b m = absurd (omega (arith, sym (ap (λ (f : Filled). f.number) (write-size (eqb-false (length out) size e))) ∙ n))
      go true e true m = absurd (omega (arith, sym (ap (λ (f : Filled). f.number) (write-missing (eqb-true (length out) size e) m)) ∙ n))
      go true e false m = (eqb-true (length out) size e, m)

  pub write-then-open : Proper book → (write_of book out).number ≡ accepted
      → open_capture_of (write_of book out).bytes ≡ record { number = accepted; book = ordered book }
  write-then-open proper n =
      let w = write-whole n in
      ap (λ (f : Filled). open_capture_of f.bytes) (write-accepted w.0 w.1) ∙ open-written book proper

-- ---- opening, then writing

-- the five bytes of the head, one by one
head : (bytes : List ℕ) → 5 ≤ length bytes
    → bytes ≡ get_or bytes 0 0 ∷ get_or bytes 1 0 ∷ get_or bytes 2 0 ∷ get_or bytes 3 0 ∷ get_or bytes 4 0 ∷ drop 5 bytes
head [] h = absurd (omega arith)
head (v ∷ []) h = absurd (omega arith)
head (v ∷ a ∷ []) h = absurd (omega arith)
head (v ∷ a ∷ b ∷ []) h = absurd (omega arith)
head (v ∷ a ∷ b ∷ r ∷ []) h = absurd (omega arith)
head (v ∷ a ∷ b ∷ r ∷ e ∷ rest) h = refl

-- an accepted capture has no place missing
pub none-missing : (bytes : List ℕ) → Fit bytes → some_missing (records_in bytes) ≡ false
unfolding book_in
none-missing bytes fit =
    missing-count modem64 (records_in bytes) fit.proper.in_range fit.proper.apart
    ∙ ap not (le-leb places (length (records_in bytes)) (omega (arith, records-length places (drop (5 + doubt_in bytes) bytes))))

-- what is written back holds the column of each place that was read
pub written-columns : (bytes : List ℕ) → (open_capture_of bytes).number ≡ accepted → (p : ℕ)
    → column_in (records_in (capture_of (open_capture_of bytes).book)) p ≡ column_in (records_in bytes) p
unfolding book_in
written-columns bytes n p =
    let fit = capture-fit bytes n in
    ap (λ (o : Outcome). column_in (records_in (capture_of o.book)) p) fit.opens
    ∙ ap (λ (l : List Entry). column_in l p) (written-records (book_in bytes) fit.proper)
    ∙ order-columns modem64 (book_in bytes) fit.proper (none-missing bytes fit) p

module _ (bytes : List ℕ) (b : below 256 bytes ≡ true) (fit : Fit bytes) where
  list-long : length (list_in bytes) ≡ doubt_in bytes
  list-long =
      let r = length-right bytes fit.length-fits in
      length-take-le (doubt_in bytes) (drop 5 bytes) (rw length-drop (omega arith))

  rest-bytes : row_bytes (records_in bytes) ≡ drop (5 + doubt_in bytes) bytes
  rest-bytes =
      let r = length-right bytes fit.length-fits in
      row-records places (drop (5 + doubt_in bytes) bytes) (length-drop (5 + doubt_in bytes) bytes ∙ omega arith)
      (below-drop 256 (5 + doubt_in bytes) bytes b)

  all-bytes : in_place_order (records_in bytes) ≡ records_in bytes → capture_of (book_in bytes) ≡ bytes
  unfolding capture_of book_in
  all-bytes same =
      let s = size-range bytes fit.size-fits in
      let r = length-right bytes fit.length-fits in
      let n : length (list_in bytes) ≡ doubt_in bytes = list-long in
      let low : get_or bytes 2 0 < 256 = below_at 256 bytes 2 b (omega arith) in
      ap₂ (λ x (l : List ℕ). x ∷ l) (ap version_of n ∙ sym (version-suited bytes fit.suits))
      (ap₂ (λ x (l : List ℕ). x ∷ l) (omega arith)
      (ap₂ (λ x (l : List ℕ). x ∷ l) (omega arith)
      (ap₂ (λ x (l : List ℕ). rate_in bytes ∷ x ∷ l) n
      (ap (λ (l : List ℕ). list_in bytes ++ l) (ap row_bytes same ∙ rest-bytes ∙ sym (drop-drop (doubt_in bytes) 5 bytes))
      ∙ take-append-drop (doubt_in bytes) (drop 5 bytes)))))
      ∙ sym (head bytes (omega arith))

  order-bytes : InPlaceOrder (records_in bytes) → capture_of (book_in bytes) ≡ bytes
  unfolding book_in
  order-bytes order =
      all-bytes
      (order_same modem64 (records_in bytes) fit.proper.in_range (records-length places (drop (5 + doubt_in bytes) bytes)) order)

-- 'writing what was read from an accepted capture returns it unchanged exactly if it is in place order'
pub written-opened : (bytes : List ℕ) → below 256 bytes ≡ true → (open_capture_of bytes).number ≡ accepted
    → (capture_of (open_capture_of bytes).book ≡ bytes) ↔ InPlaceOrder (records_in bytes)
written-opened bytes b n =
    let fit = capture-fit bytes n in
    let opened : capture_of (open_capture_of bytes).book ≡ capture_of (book_in bytes) = ap (λ (o : Outcome). capture_of o.book) fit.opens in (
      λ e. subst (λ (l : List ℕ). InPlaceOrder (records_in l)) (sym opened ∙ e) (written-order (book_in bytes) fit.proper),
      λ order. opened ∙ order-bytes bytes b fit order,
    )

pub open-then-write : (bytes out : List ℕ) → below 256 bytes ≡ true → (open_capture_of bytes).number ≡ accepted → length out ≡ length bytes
    → write_of (open_capture_of bytes).book out ≡ record { number = accepted; bytes = capture_of (open_capture_of bytes).book }
unfolding book_in
open-then-write bytes out b n e =
    let fit = capture-fit bytes n in
    let r = length-right bytes fit.length-fits in
    let m : length (list_in bytes) ≡ doubt_in bytes = list-long bytes b fit in
    ap (λ (o : Outcome). write_of o.book out) fit.opens
    ∙ write-accepted (book_in bytes) out (omega arith) (none-missing bytes fit)
    ∙ ap (λ (o : Outcome). record { number = accepted; bytes = capture_of o.book }) (sym fit.opens)
