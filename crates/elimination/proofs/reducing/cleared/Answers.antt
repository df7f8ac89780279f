-- The multiple of the row of the place that has the same value there.
use mathlib.Core.Path.{refl, ap, ◌∙◌}
use Rattle.galois.specs.Gf16.{times}
use Rattle.elimination.specs.Reducing.{kept}
use Rattle.elimination.proofs.Clearing.{value_read, value-zero, value-nonzero, off-by}
use Rattle.elimination.proofs.reducing.cleared.Goals as goal

pub returns-then-flag-ne1 : goal.returns-then-flag-ne1
returns-then-flag-ne1 c = kept (λ f. absurd (c.if-flag-ne1.true f)) refl

pub returns-then-value-eq0 : goal.returns-then-value-eq0
returns-then-value-eq0 c = kept (λ f. value-zero _ _ c.requires c.whole.ensures c.at-value.ensures c.if-value-eq0.true) refl

pub returns : goal.returns
returns c = off-by _ _ _ _ _ _ c.if-flag-ne1.false (value-nonzero _ _ c.requires c.whole.ensures c.at-value.ensures c.if-value-eq0.false) (value_read _ _ c.requires c.whole.ensures c.at-value.ensures) (value_read _ _ c.requires c.whole-2.ensures c.at.ensures) (c.product-by.ensures ∙ ap (times _) c.inverse.ensures) c.multiples.ensures c.added.ensures
