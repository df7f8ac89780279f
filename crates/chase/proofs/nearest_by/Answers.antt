-- The root of the tree: the known codeword governs it, or all settled places are decided.
use mathlib.Core.Path.{◌∙◌}
use native.Mathlib.Omega.{arith}
use Rattle.chase.specs.Laws.{unasked}
use Rattle.search.specs.Doubling.{doubled-few}
use Rattle.candidate.specs.Ranged.{top_small, limit-small}
use Rattle.chase.proofs.Rooted.{rooted, rooted-known}
use Rattle.chase.proofs.nearest_by.Goals as goal

pub returns-in_default : goal.returns-in_default
returns-in_default c = unasked _ _ _ _ _ c.in_default.ensures.unasked c.none_near.ensures

pub shared_ref_as_front-undecided : goal.shared_ref_as_front-undecided
shared_ref_as_front-undecided c = doubled-few _ _ c.in-Some.ensures.asked.asked.few c.doubled_places-doubled.ensures.count

pub returns-then-governs : goal.returns-then-governs
returns-then-governs c =
    c.told.ensures
    ∙ rooted-known c.in-Some.ensures.asked c.requires.best c.doubled_places-doubled.ensures _ _ _ _ (c.first_known-known.ensures.sound _) c.governs.ensures c.if-governs.true
    c.tests_within-tests.ensures c.as_answer_here.ensures

pub settle-rows-requires : goal.settle-rows-requires
settle-rows-requires c =
    let open' = c.in-Some.open in
    (omega (arith, top_small open'.rate.ranged, c.top_order.ensures), omega (arith, limit-small open'.rate.ranged open'.blanks, c.largest_key.ensures))

pub search-requires : goal.search-requires
search-requires c = c.first_known-known.ensures.sound _

pub returns : goal.returns
returns c =
    c.told-2.ensures
    ∙ rooted c.in-Some.ensures.asked c.requires.best c.doubled_places-doubled.ensures _ _ _ _ _ _ c.settled_places-flags.ensures c.top_order.ensures c.largest_key.ensures
    c.settle-rows.ensures c.search.ensures.found c.search.ensures.sound
