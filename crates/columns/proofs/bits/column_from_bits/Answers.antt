-- `columns::bits::column_from_bits` meets its contract: the array is filled as far as it goes.
use borrow.Author.Rules.{rules}
use Rattle.soft.specs.Bits.{bit_column}
use Rattle.columns.proofs.bits.column_from_bits.Goals as goal

pub returns : goal.returns
unfolding bit_column
returns c = search rules
