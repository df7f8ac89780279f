-- By any word: where the first rows and leads store a start basis, those of now store one through the settled places passed.
use borrow.Author.Rules.{rules}
use mathlib.Core.Path.{◌≡◌, ap, ◌∙◌}
use native.Mathlib.Omega.{arith}
use lib.ListN.{length}
use Rattle.lists.specs.Listed.{listed-length}
use Rattle.hermitian.specs.Keys.{first}
use Rattle.family.specs.Member.{m16}
use Rattle.values.specs.Settling.{settle-turn}
use Rattle.stepping.specs.Extended.{listed_start}
use Rattle.basis.specs.Step.{row_values}
use Rattle.interpolation.proofs.settle.settle.Goals as goal

pub loop-place-init : goal.loop-place-init
loop-place-init c =
    let e = c.start_leads.ensures in
    (search rules, ap length e ∙ listed-length 8 (first 4 _), c.start_rows.ensures.as_long, λ word S. S)

pub loop-place-preserved : goal.loop-place-preserved
loop-place-preserved c =
    let i = c.loop-place.invariant in
    (search rules, c.extend_if.ensures.as_long ∙ i.1, c.extend_if.ensures.rows_long ∙ i.2, λ word S. settle-turn m16 _ _ word _ _ c.extend_if.ensures.stored (i.3 word S))

pub returns : goal.returns
returns c =
    let e : c.loop-place.place ≡ 64 = omega arith in
    let start = listed_start m16 row_values _ _ _ _ _ _ c.start_leads.ensures c.start_rows.ensures.are in
    rw e at (c.loop-place.invariant.3 _ start)
