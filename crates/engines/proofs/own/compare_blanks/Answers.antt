-- The blank places are a part of the list, no more than may be.
use mathlib.Core.Path.{sym}
use lib.Seq.{length-take-le}
use borrow.Author.Rules.{rules}
use Rattle.engines.proofs.own.compare_blanks.Goals as goal

pub slice_bounds-compare_turn-end : goal.slice_bounds-compare_turn-end
slice_bounds-compare_turn-end c = sym (length-take-le _ _ (search rules))
