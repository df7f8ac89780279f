-- `fibre_values` meets its contract: Horner's rule is the sum over the powers of y.
use mathlib.Core.Path.{refl}
use lib.Dec.{lit<}
use Rattle.evaluation.proofs.Turns.{fibre-last, fibre-turn, fibre-end}
use Rattle.evaluation.proofs.value.fibre_values.Goals as goal

pub returns : goal.returns
returns c =
    let y = c.ys-y.ensures in
    let third = fibre-last _ 3 _ refl c.broad-third.ensures in
    let second =
    fibre-turn _ 2 _ _ _ _ (lit< tt) y third c.times.ensures
    c.broad.ensures c.sum-second.ensures in
    let first =
    fibre-turn _ 1 _ _ _ _ (lit< tt) y second c.times-2.ensures c.broad-2.ensures
    c.sum-first.ensures in
    fibre-end _ _ (fibre-turn _ 0 _ _ _ _ (lit< tt) y first c.times-3.ensures c.broad-3.ensures c.sum.ensures)
