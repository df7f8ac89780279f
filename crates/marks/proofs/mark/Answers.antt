-- The five ends.
use mathlib.Core.Path.{◌∙◌}
use Prim.Native.Nat.{◌<◌}
use native.Mathlib.Omega.{arith}
use lib.Dec.{lit<}
use Rattle.soft.specs.Column.{symbols}
use Rattle.weighing.specs.Low.{excess-best}
use Rattle.weighing.specs.Marking.{enough-above, few-left, marked-clean, marked-none, marked-clear, marked-far, marked-near}
use Rattle.marks.proofs.mark.Goals as goal

-- there are two symbols at least
two : 1 < symbols
two = lit< tt

pub returns-then-due-eq0 : goal.returns-then-due-eq0
returns-then-due-eq0 c =
    marked-clean c.requires.0 two (c.excess-due.ensures ∙ excess-best _ _ _ _ c.requires.1.least) c.if-due-eq0.true

pub returns-then-far-count : goal.returns-then-far-count
returns-then-far-count c =
    marked-none c.requires.0 two (c.excess-due.ensures ∙ excess-best _ _ _ _ c.requires.1.least) c.changed-count.ensures
    c.if-due-eq0.false c.if-far-count.true

pub returns-then-is_clear : goal.returns-then-is_clear
returns-then-is_clear c =
    marked-clear c.requires.0 two (c.excess-due.ensures ∙ excess-best _ _ _ _ c.requires.1.least)
    c.changed-count.ensures (c.gaps-near.ensures _ c.requires.1.gaps) c.if-is_clear.true c.is_clear.ensures

pub low_sum-slack-requires : goal.low_sum-slack-requires
low_sum-slack-requires c =
    let M = c.requires.0 in
    (omega (arith, M.few), omega (arith, few-left M c.changed-count.ensures, enough-above _ _ _ _ (c.gaps-near.ensures _ c.requires.1.gaps) M.changed))

pub returns-then-slack-due : goal.returns-then-slack-due
returns-then-slack-due c =
    marked-far c.requires.0 two (c.excess-due.ensures ∙ excess-best _ _ _ _ c.requires.1.least)
    c.changed-count.ensures (c.gaps-near.ensures _ c.requires.1.gaps) c.low_sum-slack.ensures c.if-slack-due.true

pub returns : goal.returns
returns c =
    marked-near c.requires.0 two (c.excess-due.ensures ∙ excess-best _ _ _ _ c.requires.1.least)
    c.changed-count.ensures (c.gaps-near.ensures _ c.requires.1.gaps) c.low_sum-slack.ensures c.if-slack-due.false
