-- Longer than all symbols, or with too few of them behind its start.
use Rattle.bursts.proofs.Struck.{too_long, too_far, lies}
use Rattle.bursts.proofs.lies_within.Goals as goal

pub returns-then-long-gt-SYMBOLS_SENT : goal.returns-then-long-gt-SYMBOLS_SENT
returns-then-long-gt-SYMBOLS_SENT c = too_long c.args.start _ c.if-long-gt-SYMBOLS_SENT.true

pub returns-then-long-start : goal.returns-then-long-start
returns-then-long-start c = too_far _ _ c.if-long-start.true

pub returns : goal.returns
returns c = lies _ _ c.if-long-gt-SYMBOLS_SENT.false c.if-long-start.false
