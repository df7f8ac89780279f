use Prim.Native.Nat.{◌-◌, ◌*◌, ◌≤◌}
use lib.ListN.{drop}
use Rattle.book64.specs.captures.Capture.{records_of}
use Rattle.book.specs.rows.AlikeDelivery.{Agreed}
use Rattle.book64.specs.Here.{places, deliver_row}
use Rattle.session.specs.View.{book_of, Good}
use Rattle.opening.proofs.deliver_records.Given as goal

abbrev pub invariant-loop-i : goal.invariant-loop-i
invariant-loop-i l =
    (l.i ≤ 64) × Good l.current
    × Agreed (deliver_row (book_of l.initial.current) (records_of places l.records)) (deliver_row (book_of l.current) (records_of (64 - l.i) (drop (33 * l.i) l.records)))
