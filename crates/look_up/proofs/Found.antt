-- The part that a look-up hands back: the record that was found begins where the definition says.
--
--   accepted-number, declined-number   whether a capture is accepted, by whether the answer to opening it is an error
--   there                where it is accepted, the column of each place lies within it
--   found-in             the record found in the rest of the capture is the one that the definition finds
--   part-found           and the part that is handed back is the column
use Rattle.std.specs.Prelude.{Result, Ok, Err, is_err}
use mathlib.Core.Bool.{true, false, true≢false, false≢true}
use mathlib.Core.Logic.{◌≢◌}
use mathlib.Core.Path.{◌≡◌, sym, ap, ◌∙◌}
use mathlib.Core.List.{List}
use Prim.Native.Nat.{ℕ, ◌+◌, ◌-◌, ◌*◌, ◌<◌}
use native.Mathlib.Omega.{arith}
use lib.ListN.{length, take, drop}
use Rattle.refusals.specs.Refusal.{accepted}
use Rattle.book64.specs.captures.CaptureOpening.{doubt_in, open_capture_of}
use Rattle.book64.specs.captures.LookUp.{record_with, costs_begin, look_up_of}
use Rattle.book64.specs.captures.LookUpLaws.{Located, located, look-up-part}
use Rattle.book64.specs.Here.{places}
use Rattle.capture.specs.Rest.{rest-whole}
use Rattle.refusals.specs.Numbers.{never-accepted}
use Rattle.session.specs.declared.Session.{Session}
use Rattle.refusals.specs.declared.Refusal.{Refusal}
use Rattle.session.specs.Calls.{started, Opening}

pub accepted-number : (bytes : List ℕ) (r : Result Session Refusal) → Opening (open_capture_of bytes) (started r) → is_err r ≡ false
    → (open_capture_of bytes).number ≡ accepted
accepted-number bytes (Ok s) d e = sym d.number
accepted-number bytes (Err x) d e = absurd (true≢false e)

pub declined-number : (bytes : List ℕ) (r : Result Session Refusal) → Opening (open_capture_of bytes) (started r) → is_err r ≡ true
    → (open_capture_of bytes).number ≢ accepted
declined-number bytes (Ok s) d e n = absurd (false≢true e)
declined-number bytes (Err x) d e n = never-accepted x (d.number ∙ n)

pub there : (bytes : List ℕ) (p : ℕ) (r : Result Session Refusal) → p < places → Opening (open_capture_of bytes) (started r) → is_err r ≡ false
    → Located bytes p
there bytes p r h d e = located bytes p h (accepted-number bytes r d e)

pub found-in : (bytes : List ℕ) (p : ℕ) {i : ℕ} → i ≡ record_with p places (take (length bytes - (5 + doubt_in bytes)) (drop (5 + doubt_in bytes) bytes))
    → i ≡ record_with p places (drop (5 + doubt_in bytes) bytes)
found-in bytes p e = e ∙ ap (record_with p places) (rest-whole (5 + doubt_in bytes) bytes)

pub part-found : (bytes : List ℕ) (p i : ℕ) → p < places → (open_capture_of bytes).number ≡ accepted
    → i ≡ record_with p places (drop (5 + doubt_in bytes) bytes)
    → take (5 + doubt_in bytes + 33 * i + 1 + 32 - (5 + doubt_in bytes + 33 * i + 1)) (drop (5 + doubt_in bytes + 33 * i + 1) bytes)
    ≡ look_up_of bytes p
unfolding costs_begin
part-found bytes p i h n e =
    let at : ℕ = 5 + doubt_in bytes + 33 * i + 1 in
    let a : at + 32 - at ≡ 32 = omega arith in
    let b : at ≡ costs_begin bytes p = omega arith in
    ap (λ k. take k (drop at bytes)) a ∙ ap (λ k. take 32 (drop k bytes)) b ∙ sym (look-up-part bytes p h n)
