-- The program is safe and ends; the text ends within its buffer.
use mathlib.Core.Path.{sym}
use lib.Seq.{length-take-le}
use Rattle.show.proofs.Showing.{appended-within}
use Rattle.show.proofs.main.Goals as goal

pub slice_bounds-out-end : goal.slice_bounds-out-end
slice_bounds-out-end c = appended-within c.show_bytes-length.ensures.0

pub slice_bounds-write_all-end : goal.slice_bounds-write_all-end
slice_bounds-write_all-end c =
    let shown = c.show_bytes-length in
    sym (length-take-le shown.result shown.new.out (appended-within shown.ensures.0))
