-- `planes` meets its contract: the four planes of a word, each by its four sixteens, hold it.
use lib.Dec.{lit<}
use Rattle.planes.specs.Words.{plane_of, planes-carry}
use Rattle.packing.specs.Sixteens.{joined-parts}
use Rattle.planes.proofs.words.planes.Goals as goal

pub returns : goal.returns
unfolding plane_of
returns c =
    let p = c.sixteen-a.ensures in
    let q = c.sixteen-b.ensures in
    let r = c.sixteen-c.ensures in
    let s = c.sixteen-d.ensures in
    planes-carry _ (joined-parts _ 0 (lit< tt) p q r s c.joined-one.ensures) (joined-parts _ 1 (lit< tt) p q r s c.joined-two.ensures)
    (joined-parts _ 2 (lit< tt) p q r s c.joined-four.ensures) (joined-parts _ 3 (lit< tt) p q r s c.joined-eight.ensures)
