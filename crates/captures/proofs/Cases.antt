-- What writing answers of an opening that was refused and of one that was accepted, and what closing answers of an accepted one.
use mathlib.Core.Path.{◌≡◌, refl}
use mathlib.Core.List.{List}
use Prim.Native.Nat.{ℕ}
use Rattle.std.specs.Prelude.{Result, Ok, Err}
use Rattle.refusals.specs.Numbers.{number_in, never-accepted}
use Rattle.refusals.specs.declared.Refusal.{Refusal}
use Rattle.book.specs.tables.Table.{closed}
use Rattle.book64.specs.captures.CaptureOpening.{open_capture_of}
use Rattle.session.specs.declared.Session.{Session}
use Rattle.session.specs.Calls.{started, Opening}
use Rattle.session.specs.Answering.{Closing}
use Rattle.capture.specs.Calls.{Writing}
use Rattle.captures.specs.Calls.{decode_capture_of, WritesOpened}
use Rattle.captures.proofs.Answered.{closed_on, written-refused, written_on}

pub refused_on : (given : Result Session Refusal) (refusal : Refusal) (out : List ℕ) → given ≡ Err refusal
    → WritesOpened (started given) out (number_in refusal) out
refused_on given refusal out e = rw e (record { answers = λ o d. written-refused o (started (Err refusal)) d out (never-accepted refusal) })

pub accepted_on : (given : Result Session Refusal) (session : Session) (out after : List ℕ) (r : ℕ) → given ≡ Ok session → Writing session out r after
    → WritesOpened (started given) out r after
accepted_on given session out after r e written = rw e (record { answers = λ o d. written_on o (started (Ok session)) d out r after refl written })

pub decoded_on : (bytes : List ℕ) (session : Session) (message report message' report' : List ℕ) (r : ℕ)
    → Opening (open_capture_of bytes) (started (Ok session)) → Closing session message report r message' report'
    → closed r message' report' ≡ decode_capture_of bytes message report
unfolding decode_capture_of
decoded_on bytes session message report message' report' r opened c =
    closed_on (open_capture_of bytes) (started (Ok session)) opened message report r message' report' refl c
