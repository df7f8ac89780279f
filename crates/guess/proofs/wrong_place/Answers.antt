-- A place has the sums exactly if its x, its y and their squares are those told.
use mathlib.Core.Path.{sym, ap, ◌∙◌}
use Rattle.galois.specs.Gf16.{times}
use Rattle.family.specs.Member.{m16}
use Rattle.search.specs.Alone.{wrong-nowhere, wrong-beside, wrong-at}
use Rattle.guess.proofs.Guessing.{at-turn, y-sum, yy-sum}
use Rattle.guess.proofs.wrong_place.Goals as goal

pub returns-then-product-told : goal.returns-then-product-told
returns-then-product-told c =
    wrong-nowhere m16 _ _ _ _ c.requires.0 c.requires.1 _ _ c.inverse-scale.ensures c.product-x.ensures
    (λ e. c.if-product-told.true (c.product-2.ensures ∙ ap (times _) c.product.ensures ∙ e))

pub returns-then-product-all_of : goal.returns-then-product-all_of
returns-then-product-all_of c =
    wrong-beside m16 _ _ _ _ c.requires.0 c.requires.1 _ _ c.inverse-scale.ensures c.product-x.ensures _ _ _
    (y-sum c.args.word _ _ _ _ c.planes.ensures c.ys-heights.ensures c.times-by_y.ensures c.all_of.ensures)
    c.product-y.ensures
    (yy-sum c.args.word _ _ _ _ _ c.planes.ensures c.ys-heights.ensures c.times-by_y.ensures c.times.ensures c.all_of-2.ensures)
    (λ e. c.if-product-all_of.true (c.product-4.ensures ∙ ap (times _) c.product-3.ensures ∙ e))

pub returns : goal.returns
returns c =
    at-turn
    (λ r P.
    wrong-at m16 _ _ _ _ c.requires.0 c.requires.1 _ _ c.inverse-scale.ensures c.product-x.ensures _ _ _
    (y-sum c.args.word _ _ _ _ c.planes.ensures c.ys-heights.ensures c.times-by_y.ensures c.all_of.ensures)
    c.product-y.ensures
    (yy-sum c.args.word _ _ _ _ _ c.planes.ensures c.ys-heights.ensures c.times-by_y.ensures c.times.ensures c.all_of-2.ensures)
    (sym (c.product-2.ensures ∙ ap (times _) c.product.ensures) ∙ c.if-product-told.false)
    (sym (c.product-4.ensures ∙ ap (times _) c.product-3.ensures) ∙ c.if-product-all_of.false) {r = r} P)
    _ c.place_at.ensures
