-- `columns::blank::is_open` meets its contract. The loop's invariant: the costs passed are equal to the first.
use mathlib.Core.Path.{sym, ◌∙◌}
use native.Mathlib.Omega.{arith}
use borrow.Author.Count.{below_more}
use Rattle.weighing.specs.Columns.{open-missing, open-start, open-differs, open_none}
use Rattle.columns.proofs.blank.is_open.Goals as goal

pub returns-then-costs-place : goal.returns-then-costs-place
returns-then-costs-place c = open-missing 16 _ _ (omega arith)

pub loop-s-init : goal.loop-s-init
loop-s-init c = (omega arith, open-start 16 c.args.costs.now _ _ c.entry_or-first.ensures)

pub returns-then-entry_or-first : goal.returns-then-entry_or-first
returns-then-entry_or-first c =
    open-differs 16 _ _ _ c.entry_or-first.ensures _ (omega (arith, c.loop-s-test.true))
    (λ e. c.if-entry_or-first.true (c.entry_or.ensures ∙ e))

pub loop-s-preserved : goal.loop-s-preserved
loop-s-preserved c =
    (omega arith, below_more _ _ c.loop-s.invariant.1 (sym c.entry_or.ensures ∙ c.if-entry_or-first.false))

pub returns : goal.returns
returns c = open_none 16 _ _ _ (λ s k. c.loop-s.invariant.1 s (omega (arith, c.loop-s-test.false)))
