-- `deliver_columns` meets its contract. The loop's invariant: the outcome of the columns left to deliver agrees with that of all of them.
use borrow.Author.Rules.{rules}
use Rattle.std.specs.Prelude.{Err}
use Rattle.refusals.specs.Refusal.{accepted}
use Rattle.soft.specs.Column.{column_of}
use Rattle.book64.specs.Here.{width, deliver_row}
use Rattle.session.specs.View.{book_of}
use Rattle.captures.specs.Calls.{table_entries}
use mathlib.Core.Path.{◌≡◌, refl, ap}
use native.Mathlib.Omega.{arith}
use Rattle.book.specs.rows.AlikeDelivery.{agreed-path}
use Rattle.refusals.specs.Numbers.{never-accepted}
use Rattle.session.specs.Calls.{Ending, ended, refused_with, started, Opening}
use Rattle.session.specs.Laws.{opening-as}
use Rattle.captures.proofs.Answered.{turn, stop, finish}
use Rattle.captures.proofs.deliver_columns.Goals as goal

pub loop-place-init : goal.loop-place-init
loop-place-init c = (omega arith, c.requires, agreed-path refl)

pub returns-in_err-deliver : goal.returns-in_err-deliver
unfolding refused_with
returns-in_err-deliver c =
    let l = c.loop-place in
    let same : c.from_residual.result ≡ Err c.in_err-deliver.field-0.0 = search rules in
    let stopped : Opening (deliver_row (book_of c.args.opened) (table_entries (column_of width c.args.costs.now))) (started (Err c.in_err-deliver.field-0.0)) =
    stop _ l.current l.invariant.1 _ l.place l.invariant.2 c.loop-place-test.true _ c.column_of.ensures
    (ended {A = Unit} (Err c.in_err-deliver.field-0.0) c.deliver.new.session) c.in_err-deliver.ensures (never-accepted _) in
    opening-as (ap started same) stopped

pub loop-place-preserved : goal.loop-place-preserved
loop-place-preserved c =
    let l = c.loop-place in
    let left : Ending = record { refusal = accepted; session = c.deliver.new.session } in (
      omega arith,
      c.in_ok-deliver.ensures.good l.invariant.1,
      turn _ l.current l.invariant.1 _ l.place l.invariant.2 c.loop-place-test.true _ c.column_of.ensures left c.in_ok-deliver.ensures refl,
    )

pub returns : goal.returns
returns c = let l = c.loop-place in finish _ l.current l.invariant.1 _ l.place l.invariant.2 c.loop-place-test.false
