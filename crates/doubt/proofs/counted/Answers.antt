-- `doubt::counted` meets its contract: one equation for each return.
use Rattle.weighing.specs.Doubting.{counted_none, counted-full, counted-plain}
use Rattle.doubt.proofs.counted.Goals as goal

pub returns-then-gap-eq0 : goal.returns-then-gap-eq0
returns-then-gap-eq0 c = counted_none c.args.least c.args.gap c.if-gap-eq0.true

pub returns-then-least-gap : goal.returns-then-least-gap
returns-then-least-gap c = let a = c.args in counted-full a.least a.gap c.if-gap-eq0.false c.if-least-gap.true

pub returns : goal.returns
returns c = let a = c.args in counted-plain a.least a.gap c.if-least-gap.false
