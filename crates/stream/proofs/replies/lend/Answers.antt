-- The lent buffers are parts of their spaces, as long as the call asks for and at most 4,096 bytes.
use mathlib.Core.Path.{sym}
use native.Mathlib.Omega.{arith}
use lib.Seq.{length-take-le}
use Rattle.stream.proofs.replies.lend.Goals as goal

pub slice_bounds-make-end : goal.slice_bounds-make-end
slice_bounds-make-end c = sym (length-take-le c.args.size c.lent-first.result (omega arith))

pub slice_bounds-make-end-2 : goal.slice_bounds-make-end-2
slice_bounds-make-end-2 c = sym (length-take-le c.args.other c.lent-second.result (omega arith))
