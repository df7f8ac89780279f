-- Word and list are read into parts of their spaces, as long as the call says and at most 4,096 bytes.
use mathlib.Core.Path.{sym}
use lib.Seq.{length-take-le}
use borrow.Author.Rules.{rules}
use Rattle.branches.proofs.requests.answer_sized.Goals as goal

pub slice_bounds-answer_read-end : goal.slice_bounds-answer_read-end
slice_bounds-answer_read-end c = sym (length-take-le _ _ (search rules))

pub slice_bounds-answer_read-end-2 : goal.slice_bounds-answer_read-end-2
slice_bounds-answer_read-end-2 c = sym (length-take-le _ _ (search rules))
