-- The three cases of the symbol.
use mathlib.Core.Path.{sym, ◌∙◌}
use Rattle.near.specs.Choices.{closer-second, closer-best, closer-same}
use Rattle.known.proofs.closer.Goals as goal

pub returns-then-symbol-first : goal.returns-then-symbol-first
returns-then-symbol-first c = let e = c.best-first.ensures in e ∙ sym (closer-same _ _ (c.if-symbol-first.true ∙ e))

pub returns-then-symbol-other : goal.returns-then-symbol-other
returns-then-symbol-other c = let e = c.second-other.ensures in e ∙ sym (closer-second _ _ (c.if-symbol-other.true ∙ e))

pub returns : goal.returns
returns c =
    c.best-first.ensures ∙ sym (closer-best _ _ (λ q. c.if-symbol-other.false (q ∙ sym c.second-other.ensures)))
