-- The row of least lead, scaled; or x^16 + x where that lead is above the limit.
use borrow.Author.Rules.{rules}
use mathlib.Core.Path.{ap, ◌∙◌}
use Rattle.galois.specs.Field16.{K16, to_f, to_f-inverse}
use Rattle.basis.specs.Choice.{lead_at}
use Rattle.interpolation.proofs.LeastRow.{read_held, read-spent}
use Rattle.interpolation.proofs.lowest.interpolant.Goals as goal

pub returns-then-lead-gt-LIMIT : goal.returns-then-lead-gt-LIMIT
unfolding lead_at
returns-then-lead-gt-LIMIT c = read-spent _ _ _ _ _ c.lowest-best.ensures _ c.if-lead-gt-LIMIT.true (c.field_equation.ensures _)

pub returns : goal.returns
unfolding lead_at
returns c =
    read_held _ _ _ _ _ c.lowest-best.ensures _ _ _ _ c.without_z-q0.ensures
    c.with_z-q1.ensures (search rules)
    (ap to_f c.inverse.ensures ∙ to_f-inverse _ ∙ ap K16.inv c.coefficient.ensures) (c.scaled.ensures _)
