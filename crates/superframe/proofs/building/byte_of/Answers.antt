-- One of the head, or a symbol of the words.
use Rattle.superframe.proofs.Built.{byte-version, byte_high, byte_low, byte-rate, byte-symbol}
use borrow.Author.Rules.{rules}
use Rattle.superframe.proofs.building.byte_of.Goals as goal

pub returns-then-i-eq-VERSION_AT : goal.returns-then-i-eq-VERSION_AT
returns-then-i-eq-VERSION_AT c = byte-version _ _ c.if-i-eq-VERSION_AT.true

pub returns-then-i-eq-LENGTH_HIGH_AT : goal.returns-then-i-eq-LENGTH_HIGH_AT
returns-then-i-eq-LENGTH_HIGH_AT c = byte_high _ _ c.if-i-eq-LENGTH_HIGH_AT.true

pub returns-then-i-eq-LENGTH_LOW_AT : goal.returns-then-i-eq-LENGTH_LOW_AT
returns-then-i-eq-LENGTH_LOW_AT c = byte_low _ _ c.if-i-eq-LENGTH_LOW_AT.true

pub returns-then-i-eq-RATE_AT : goal.returns-then-i-eq-RATE_AT
returns-then-i-eq-RATE_AT c = byte-rate _ _ c.if-i-eq-RATE_AT.true

pub returns : goal.returns
returns c = byte-symbol _ _ _ (search rules) c.requires
