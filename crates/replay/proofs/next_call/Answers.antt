-- A call is read into a part of the buffer that is as long as its arguments, at most 4,096 bytes.
use mathlib.Core.Path.{sym}
use native.Mathlib.Omega.{arith}
use lib.Seq.{length-take-le}
use Rattle.replay.proofs.next_call.Goals as goal

pub slice_bounds-answer_next-end : goal.slice_bounds-answer_next-end
slice_bounds-answer_next-end c = sym (length-take-le c.number-length.result c.buffer-arguments.result (omega arith))
