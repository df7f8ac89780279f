use Prim.Native.Nat.{◌≤◌}
use Rattle.soft.specs.Column.{column_of}
use Rattle.book.specs.rows.AlikeDelivery.{Agreed}
use Rattle.book64.specs.Here.{places, width, deliver_row}
use Rattle.session.specs.View.{book_of, Good}
use Rattle.captures.specs.Calls.{table_entries}
use Rattle.captures.proofs.Answered.{columns_from}
use Rattle.captures.proofs.deliver_columns.Given as goal

abbrev pub invariant-loop-place : goal.invariant-loop-place
invariant-loop-place l =
    (l.place ≤ places) × Good l.current
    × Agreed (deliver_row (book_of l.initial.current) (table_entries (column_of width l.costs))) (deliver_row (book_of l.current) (columns_from (column_of width l.costs) l.place))
