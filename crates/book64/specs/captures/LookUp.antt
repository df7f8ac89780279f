-- Looking one place up in a capture.
--
--   record_with p n bytes   the number of the first of n records with that place, n if there is none
--   look_up_of bytes p       the 32 cost bytes of that record, a part of the capture; empty if the capture is refused or the place is above 63
use Rattle.std.specs.Prelude.{cond, ◌&&◌, List, [], ℕ, zero, suc, ◌+◌, ◌*◌, eqb, ltb, get_or, take, drop}
use Rattle.refusals.specs.Refusal.{accepted}
use Rattle.book64.specs.captures.Capture.{record_length}
use Rattle.book64.specs.captures.CaptureOpening.{doubt_in, open_capture_of}
use Rattle.book64.specs.Here.{places}

unfoldable pub record_with : ℕ → ℕ → List ℕ → ℕ
record_with p zero bytes = 0
record_with p (suc n) bytes = cond (eqb (get_or bytes 0 0) p) 0 (suc (record_with p n (drop record_length bytes)))

-- where the cost bytes of place p begin
unfoldable pub costs_begin : List ℕ → ℕ → ℕ
costs_begin bytes p = 6 + doubt_in bytes + record_length * record_with p places (drop (5 + doubt_in bytes) bytes)

unfoldable pub look_up_of : List ℕ → ℕ → List ℕ
look_up_of bytes p =
    cond (ltb p places && eqb (open_capture_of bytes).number accepted) (take 32 (drop (costs_begin bytes p) bytes)) []
