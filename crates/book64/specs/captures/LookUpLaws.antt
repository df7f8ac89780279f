-- What follows of a look-up.
--
--   look-up-above, look-up-refused   the part is empty if the place is above 63, and if the capture is refused
--   look-up-part, located   of an accepted capture and a place below 64: the part, and where it lies
--   look-up-length       else it has 32 bytes, so it is empty exactly in those two cases
--   look-up-column       and they are the cost bytes of that place's column in the book that the capture opens as
--   record-found         a place among n records has its number, below n, and its column starts there
use Rattle.std.specs.Prelude.{Bool, true, false, ◌||◌, ◌≡◌, refl, eqb, get_or}
use Rattle.std.proofs.lemmas.Bool.{false≢true}
use Rattle.std.proofs.Math.Bool.{and-false}
use Rattle.std.proofs.Math.Path.{sym, ap}
use Rattle.std.proofs.Common.{◌∙◌, length-drop, length-take-le, drop-drop, eq-eqb, ne_eqb, lt-ltb, le-ltb}
use mathlib.Core.List.{List, []}
use Rattle.std.proofs.Math.Option.{some}
use Prim.Native.Nat.{ℕ, zero, suc, ◌+◌, ◌*◌, ◌<◌, ◌≤◌}
use native.Mathlib.Omega.{arith}
use Rattle.std.proofs.Math.ListN.{length, take, drop}
use Rattle.refusals.specs.Refusal.{accepted}
use Rattle.lists.specs.Distinct.{among, below, below-take, below-drop, distinct-all}
use Rattle.soft.specs.Doubt.{most_doubt}
use Rattle.soft.specs.Column.{costs_from}
use Rattle.soft.specs.CostBytes.{cost_bytes}
use Rattle.book.specs.Book.{column_in, Outcome}
use Rattle.book64.specs.captures.Capture.{record_length, capture_length, records_of}
use Rattle.book64.specs.captures.CaptureOpening.{doubt_in, records_in, open_capture_of}
use Rattle.book64.specs.captures.LookUp.{record_with, costs_begin, look_up_of}
use Rattle.book.specs.rows.RowLaws.{places_of, places-length}
use Rattle.book64.specs.captures.CaptureLaws.{bytes-costs, records-length}
use Rattle.book64.specs.captures.CaptureCases.{book_in, Fit, capture-fit}
use Rattle.book64.specs.captures.RoundTrip.{size-range, length-right}
use Rattle.book64.specs.Here.{places, width}

pub record RecordFound (p n : ℕ) (bytes : List ℕ) : Type 0 where
  pub within : record_with p n bytes < n
  pub there : column_in (records_of n bytes) p ≡ some (costs_from width (take 32 (drop (1 + record_length * record_with p n bytes) bytes)))

pub record-found : (p n : ℕ) (bytes : List ℕ) → among p (places_of (records_of n bytes)) ≡ true → RecordFound p n bytes
unfolding record_with records_of column_in places_of among
record-found p zero bytes a = absurd (false≢true a)
record-found p (suc n) bytes a = go (eqb (get_or bytes 0 0) p) refl a (record-found p n (drop record_length bytes))
  where
    go : (b : Bool) → eqb (get_or bytes 0 0) p ≡ b → (b || among p (places_of (records_of n (drop record_length bytes)))) ≡ true
        → (among p (places_of (records_of n (drop record_length bytes))) ≡ true → RecordFound p n (drop record_length bytes)) → RecordFound p (suc n) bytes
    go true e t ih = record { within = rw e (omega arith); there = rw e }
    go false e t ih =
        let f = ih t in
        let i : ℕ = record_with p n (drop record_length bytes) in
        let q : record_length + (1 + record_length * i) ≡ 1 + record_length * suc i = omega arith in
        record {
          within = rw e (omega (arith, f.within));
          there =
              rw e
              (f.there
              ∙ ap (λ (l : List ℕ). some (costs_from width (take 32 l)))
              (drop-drop (1 + record_length * i) record_length bytes ∙ ap (λ k. drop k bytes) q));
        }

pub record Located (bytes : List ℕ) (p : ℕ) : Type 0 where
  pub sized : length bytes ≡ capture_length (doubt_in bytes)
  pub few : doubt_in bytes ≤ most_doubt
  pub within : record_with p places (drop (5 + doubt_in bytes) bytes) < places

pub look-up-above : (bytes : List ℕ) (p : ℕ) → places ≤ p → look_up_of bytes p ≡ []
unfolding look_up_of
look-up-above bytes p h = rw (le-ltb p places h)

pub look-up-refused : (bytes : List ℕ) (p : ℕ) → ((open_capture_of bytes).number ≡ accepted → ⊥) → look_up_of bytes p ≡ []
unfolding look_up_of
look-up-refused bytes p n = rw (ne_eqb (open_capture_of bytes).number accepted n, and-false)

pub look-up-part : (bytes : List ℕ) (p : ℕ) → p < places → (open_capture_of bytes).number ≡ accepted
    → look_up_of bytes p ≡ take 32 (drop (costs_begin bytes p) bytes)
unfolding look_up_of
look-up-part bytes p h n = rw (lt-ltb p places h, eq-eqb (open_capture_of bytes).number accepted n)

module _ (bytes : List ℕ) (p : ℕ) (h : p < places) (n : (open_capture_of bytes).number ≡ accepted) where
  fit : Fit bytes
  fit = capture-fit bytes n

  records : List ℕ
  records = drop (5 + doubt_in bytes) bytes

  found : RecordFound p places records
  unfolding records book_in
  found =
      record-found p places records
      (distinct-all places (places_of (records_in bytes)) p fit.proper.apart fit.proper.in_range
      (omega (arith, places-length (records_in bytes), records-length places records)) h)

  part : look_up_of bytes p ≡ take 32 (drop (1 + record_length * record_with p places records) records)
  unfolding records costs_begin
  part =
      let q : costs_begin bytes p ≡ 5 + doubt_in bytes + (1 + record_length * record_with p places records) = omega arith in
      look-up-part bytes p h n
      ∙ ap (take 32)
      (ap (λ k. drop k bytes) q ∙ sym (drop-drop (1 + record_length * record_with p places records) (5 + doubt_in bytes) bytes))

  inside : 33 + record_length * record_with p places records ≤ length records
  unfolding records
  inside =
      let r = length-right bytes fit.length-fits in
      let f : record_with p places records < places = found.within in
      rw (length-drop (5 + doubt_in bytes) bytes) (omega arith)

  -- where the part lies
  pub located : Located bytes p
  unfolding records book_in
  located =
      let r = length-right bytes fit.length-fits in
      let z = size-range bytes fit.size-fits in
      record { sized = omega arith; few = omega arith; within = found.within }

  pub look-up-length : length (look_up_of bytes p) ≡ 32
  look-up-length =
      let i = inside in
      ap length part
      ∙ length-take-le 32 (drop (1 + record_length * record_with p places records) records) (rw length-drop (omega arith))

  -- the column, if every byte is one
  pub look-up-column : below 256 bytes ≡ true
      → (column : List ℕ) × (column_in (open_capture_of bytes).book.row p ≡ some column) × (look_up_of bytes p ≡ cost_bytes column)
  unfolding book_in records
  look-up-column b =
      let costs : List ℕ = take 32 (drop (1 + record_length * record_with p places records) records) in (
        costs_from width costs,
        ap (λ (o : Outcome). column_in o.book.row p) fit.opens ∙ found.there,
        part
            ∙ sym
            (bytes-costs costs (sym (ap length part) ∙ look-up-length)
            (below-take 256 32 (drop (1 + record_length * record_with p places records) records)
            (below-drop 256 (1 + record_length * record_with p places records) records (below-drop 256 (5 + doubt_in bytes) bytes b)))),
      )

pub look-up-empty : (bytes : List ℕ) (p : ℕ) → look_up_of bytes p ≡ [] → (open_capture_of bytes).number ≡ accepted → p < places → ⊥
look-up-empty bytes p e n h = omega (arith, sym (ap length e) ∙ look-up-length bytes p h n)
