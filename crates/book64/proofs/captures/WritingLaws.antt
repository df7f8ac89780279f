-- What follows of writing a capture, each a theorem of the book of the modem of 64 places.
--
--   capture-alike        books that agree have the same capture: the order of their rows does not show in it
--   writing-alike        and write alike
--   write_kept           a refused writing leaves its buffer as it was
--   write-sized          the capture of a proper book fills the buffer that it was asked into
use Rattle.std.specs.Prelude.{Bool, true, false, ◌≡◌, refl, List, ◌≢◌, ℕ, eqb, length}
use Rattle.std.proofs.Common.{sym, ap, ◌∙◌, eqb-true}
use Rattle.std.proofs.Math.Decide.{ℕ_discrete}
use Rattle.std.proofs.lemmas.Bool.{eqb-false}
use Rattle.refusals.specs.Refusal.{accepted}
use Rattle.book64.specs.Modem64.{modem64}
use Rattle.book.specs.Book.{Book, Filled}
use Rattle.book.specs.Columns.{missing-alike, Agree}
use Rattle.book.specs.rows.PlaceOrder.{order_alike}
use Rattle.book64.specs.captures.Capture.{capture_length, capture_of}
use Rattle.book64.specs.captures.Writing.{write_of}
use Rattle.book64.proofs.captures.RoundTrip.{capture-length, write-size, write-missing, write-accepted}
use Rattle.book64.specs.Here.{some_missing, in_place_order, Proper}

-- ---- document 02, #103: two sessions with equal rate, list, places taken and columns 'then write alike, in whichever order their places arrived'

module _ {a b : Book} (same : Agree a b) where
  pub capture-alike : capture_of a ≡ capture_of b
  unfolding capture_of
  capture-alike =
      let row : in_place_order a.row ≡ in_place_order b.row = order_alike modem64 same in
      cc (row, same.same_rate, same.same_list)

  pub writing-alike : (out : List ℕ) → write_of a out ≡ write_of b out
  unfolding write_of
  writing-alike out =
      let m : some_missing a.row ≡ some_missing b.row = missing-alike modem64 a.row b.row same.same_columns in
      cc (m, capture-alike, same.same_list)

-- ---- 'A refused call leaves its buffers as they were.'

module _ (book : Book) where
  pub write_kept : (out : List ℕ) → (write_of book out).number ≢ accepted → (write_of book out).bytes ≡ out
  write_kept out n = go (eqb (length out) (capture_length (length book.doubtful))) refl (some_missing book.row) refl
    where
      size : ℕ
      size = capture_length (length book.doubtful)

      go : (x : Bool) → eqb (length out) size ≡ x → (y : Bool) → some_missing book.row ≡ y → (write_of book out).bytes ≡ out
      go false e y m = ap (λ (f : Filled). f.bytes) (write-size book out (eqb-false (length out) size e))
      go true e true m = ap (λ (f : Filled). f.bytes) (write-missing book out (eqb-true (length out) size e) m)
      go true e false m = absurd (n (ap (λ (f : Filled). f.number) (write-accepted book out (eqb-true (length out) size e) m)))

  pub write-sized : (out : List ℕ) → Proper book → length (write_of book out).bytes ≡ length out
  write-sized out proper = go (ℕ_discrete (length out) (capture_length (length book.doubtful))) (some_missing book.row) refl
    where
      go : Dec (length out ≡ capture_length (length book.doubtful)) → (b : Bool) → some_missing book.row ≡ b
          → length (write_of book out).bytes ≡ length out
      go (yes h) true m = ap (λ (f : Filled). length f.bytes) (write-missing book out h m)
      go (yes h) false m = ap (λ (f : Filled). length f.bytes) (write-accepted book out h m) ∙ capture-length book proper ∙ sym h
      go (no h) b m = ap (λ (f : Filled). length f.bytes) (write-size book out h)
