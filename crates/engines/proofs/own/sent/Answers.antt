-- The message is a part of its room, as long as the rate.
use mathlib.Core.Path.{sym}
use lib.Seq.{length-take-le}
use borrow.Author.Rules.{rules}
use Rattle.engines.proofs.own.sent.Goals as goal

pub slice_bounds-codeword_of-end : goal.slice_bounds-codeword_of-end
slice_bounds-codeword_of-end c = sym (length-take-le _ _ (search rules))
