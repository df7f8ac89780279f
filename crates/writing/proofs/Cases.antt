-- What writing answers where the buffer has the wrong size, whatever places are missing; so too where a list is longer than any.
use mathlib.Core.List.{List}
use Prim.Native.Nat.{ℕ, ◌<◌}
use lib.ListN.{length}
use Rattle.std.specs.Prelude.{◌≢◌}
use Rattle.refusals.specs.Refusal.{wrong_size}
use Rattle.soft.specs.Doubt.{most_doubt}
use Rattle.book64.specs.captures.Capture.{capture_length}
use Rattle.session.specs.declared.Session.{Session}
use Rattle.capture.specs.Calls.{Writing}
use Rattle.writing.proofs.Written.{writing-long, writing-size}

pub list_too_long : (s : Session) (before : List ℕ) → most_doubt < s.doubt → Writing s before wrong_size before
list_too_long s before h = writing-long s before h

pub buffer_unfit : (s : Session) (before : List ℕ) → length before ≢ capture_length s.doubt → Writing s before wrong_size before
buffer_unfit s before h = writing-size s before h
