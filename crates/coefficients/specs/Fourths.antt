-- The mask of the first lane of each four, by computed tests.
--
--   marks-16    it has the bits 0, 4, 8, …, 60
--   repeats-16  times it, four bits are repeated
use Rattle.std.proofs.Common.{lit<}
use Rattle.lists.specs.Every.{every}
use Rattle.packing.specs.Bits.{bit_at}
use Rattle.coefficients.specs.Moved.{Marks, marks_at, marks-tested, Repeats, repeats_at, repeats-tested}
use Rattle.coefficients.specs.Reading.{marks}

pub marks-16 : Marks 4 64 marks
unfolding every marks_at bit_at
marks-16 = marks-tested 4 64 marks (lit< tt) tt

pub repeats-16 : Repeats 4 64 marks
unfolding every repeats_at bit_at
repeats-16 = repeats-tested 4 64 marks tt
