-- `symbols_only` meets its contract: the bits of all bytes together are a symbol exactly if every byte is one.
use Rattle.encoding.proofs.Symbols.{passed_start, passed-turn, symbols-below}
use borrow.Author.Rules.{rules}
use Rattle.encoding.proofs.symbols_only.Goals as goal

pub loop-byte-init : goal.loop-byte-init
loop-byte-init c = passed_start _ _

pub loop-byte-preserved : goal.loop-byte-preserved
loop-byte-preserved c = passed-turn _ _ _ _ c.loop-byte.invariant

pub returns : goal.returns
returns c = symbols-below 4 _ _ _ (search rules) c.loop-byte.invariant
