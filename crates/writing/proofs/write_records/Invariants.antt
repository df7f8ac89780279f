use mathlib.Core.Path.{◌≡◌}
use mathlib.Core.List.{◌++◌}
use Prim.Native.Nat.{◌*◌, ◌≤◌}
use lib.ListN.{length, drop}
use Rattle.book64.specs.captures.Capture.{row_bytes}
use Rattle.capture.specs.Calls.{row_of}
use Rattle.writing.proofs.write_records.Given as goal

abbrev pub invariant-loop-place : goal.invariant-loop-place
invariant-loop-place l =
    (l.place ≤ 64) × (length l.out ≡ length l.initial.out) × (l.out ≡ row_bytes (row_of l.costs l.place) ++ drop (33 * l.place) l.initial.out)
