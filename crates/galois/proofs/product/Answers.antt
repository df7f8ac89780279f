-- `galois::product` meets its contract: the product is reduced once, at its end.
use mathlib.Core.Path.{ap, ◌∙◌}
use Rattle.galois.specs.Carryless.{reduced, reduced-carryless}
use Rattle.galois.proofs.product.Goals as goal

pub returns : goal.returns
returns c = c.reduced.ensures ∙ ap reduced c.carryless.ensures ∙ reduced-carryless _ _
