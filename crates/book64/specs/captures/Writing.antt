-- Writing a capture: buffer size, then missing places.
--
--   write_of book out 2 if the buffer is not of exactly 2,117 + d bytes, 7 if a place is missing, the buffer as it was; else 0 and the capture
use Rattle.std.specs.Prelude.{cond, List, ℕ, eqb, length}
use Rattle.refusals.specs.Refusal.{accepted, wrong_size, place_missing}
use Rattle.book.specs.Book.{Book, Filled}
use Rattle.book64.specs.captures.Capture.{capture_length, capture_of}
use Rattle.book64.specs.Here.{some_missing}

unfoldable pub write_of : Book → List ℕ → Filled
write_of book out =
    cond (eqb (length out) (capture_length (length book.doubtful)))
    (cond (some_missing book.row)
    (record { number = place_missing; bytes = out })
    (record { number = accepted; bytes = capture_of book }))
    (record { number = wrong_size; bytes = out })
