-- What closing answers where a buffer has the wrong size, whatever places are missing.
use mathlib.Core.Logic.{inl, inr}
use mathlib.Core.List.{List}
use Prim.Native.Nat.{ℕ}
use lib.ListN.{length}
use Rattle.std.specs.Prelude.{◌≢◌}
use Rattle.refusals.specs.Refusal.{wrong_size}
use Rattle.book64.specs.Here.{report_length}
use Rattle.session.specs.declared.Session.{Session}
use Rattle.session.specs.Answering.{Closing}
use Rattle.session.specs.AnsweringLaws.{closing-wrong-size}

pub message_unfit : (s : Session) (message report : List ℕ) → length message ≢ s.rate → Closing s message report wrong_size message report
message_unfit s message report h = closing-wrong-size s message report (inl h)

pub report_unfit : (s : Session) (message report : List ℕ) → length report ≢ report_length → Closing s message report wrong_size message report
report_unfit s message report h = closing-wrong-size s message report (inr h)
