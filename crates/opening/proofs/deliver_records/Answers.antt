-- `opening::deliver_records` meets its contract. The loop's invariant: the outcome of what is left to deliver agrees with that of the whole row.
use mathlib.Core.Path.{◌≡◌, refl, ap}
use Prim.Native.Nat.{◌*◌}
use native.Mathlib.Omega.{arith}
use Rattle.book.specs.rows.AlikeDelivery.{agreed-path}
use borrow.Author.Rules.{rules}
use Rattle.std.specs.Prelude.{Err}
use Rattle.refusals.specs.Refusal.{accepted}
use Rattle.book64.specs.captures.Capture.{records_of}
use Rattle.book64.specs.Here.{places, deliver_row}
use Rattle.session.specs.View.{book_of}
use Rattle.refusals.specs.Numbers.{never-accepted}
use Rattle.session.specs.Calls.{Ending, ended, refused_with, started, Opening}
use Rattle.session.specs.Laws.{opening-as}
use Rattle.opening.proofs.Delivering.{turn, stop, finish}
use Rattle.opening.proofs.deliver_records.Goals as goal

pub loop-i-init : goal.loop-i-init
loop-i-init c = (omega arith, c.requires.0, agreed-path refl)

pub overflow_cast-place : goal.overflow_cast-place
overflow_cast-place c = omega (arith, c.type_inv.records (33 * c.loop-i.i))

pub returns-in_err-deliver : goal.returns-in_err-deliver
unfolding refused_with
returns-in_err-deliver c =
    let s = c.args in
    let l = c.loop-i in
    let same : c.from_residual.result ≡ Err c.in_err-deliver.field-0.0 = search rules in
    let stopped : Opening (deliver_row (book_of s.opened) (records_of places s.records.now)) (started (Err c.in_err-deliver.field-0.0)) =
    stop s.opened l.current s.records.now c.costs_from-column.result l.i (ended {A = Unit} (Err c.in_err-deliver.field-0.0) c.deliver.new.session)
    c.loop-i-test.true l.invariant.1 l.invariant.2 c.costs_from-column.ensures
    c.in_err-deliver.ensures (never-accepted _) in
    opening-as (ap started same) stopped

pub loop-i-preserved : goal.loop-i-preserved
loop-i-preserved c =
    let s = c.args in
    let l = c.loop-i in
    let left : Ending = record { refusal = accepted; session = c.deliver.new.session } in (
      omega arith,
      c.in_ok-deliver.ensures.good l.invariant.1,
      turn s.opened l.current s.records.now c.costs_from-column.result l.i left
          c.loop-i-test.true l.invariant.1 l.invariant.2 c.costs_from-column.ensures
          c.in_ok-deliver.ensures refl,
    )

pub returns : goal.returns
returns c =
    let s = c.args in
    finish s.opened c.loop-i.current s.records.now c.loop-i.i c.loop-i-test.false c.loop-i.invariant.1
    c.loop-i.invariant.2
