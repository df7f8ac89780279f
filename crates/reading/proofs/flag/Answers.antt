-- `reading::flag` meets its contract: each return is a case of the flag.
use mathlib.Core.Path.{sym, ◌∙◌}
use Rattle.reading.proofs.Settling.{flag-away, flag-doubtful, flag-blank, flag-settled}
use Rattle.reading.proofs.flag.Goals as goal

pub returns-then-not-there : goal.returns-then-not-there
returns-then-not-there c = flag-away _ _ _ _ (c.if-not-there.true)

pub returns-then-is_among : goal.returns-then-is_among
returns-then-is_among c = flag-doubtful _ _ _ _ (c.if-not-there.false) (sym c.is_among.ensures ∙ c.if-is_among.true)

pub returns-then-counts-ne1 : goal.returns-then-counts-ne1
returns-then-counts-ne1 c =
    flag-blank _ _ _ _ (c.if-not-there.false) (sym c.is_among.ensures ∙ c.if-is_among.false) c.if-counts-ne1.true

pub returns : goal.returns
returns c =
    flag-settled _ _ _ _ (c.if-not-there.false) (sym c.is_among.ensures ∙ c.if-is_among.false) c.if-counts-ne1.false
