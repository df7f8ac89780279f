-- Where a key stands in the parts: without z, in the gap, or with z.
use Rattle.interpolation.proofs.Shown.{at-even, at_gap, at-odd}
use Rattle.interpolation.proofs.lowest.coefficient.Goals as goal

pub returns-then-key-eq0 : goal.returns-then-key-eq0
returns-then-key-eq0 c = at-even _ _ _ _ c.if-key-eq0.true

pub returns-then-order-m : goal.returns-then-order-m
returns-then-order-m c = at_gap _ _ _ _ c.if-key-eq0.false c.if-order-m.true

pub returns : goal.returns
returns c = at-odd _ _ _ _ c.if-key-eq0.false c.if-order-m.false
