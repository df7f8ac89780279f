-- Each arm leaves the session that its letter's change does: only `O`, `D` and `U` change it.
use mathlib.Core.Path.{refl}
use native.Mathlib.Omega.{arith}
use Rattle.stream.specs.Changes.{leaves_renewed, leaves_kept}
use Rattle.stream.proofs.Answering.{leaves-as, numbered-open, numbered-deliver, numbered-withdraw, numbered-kept}
use Rattle.stream.proofs.replies.answer_numbered.Goals as goal

pub returns-in-79 : goal.returns-in-79
returns-in-79 c =
    let a = c.args in
    leaves-as (numbered-open a.letter a.number a.rest.now c.in-79.is) (leaves_renewed c.open.ensures)

pub returns-in-68 : goal.returns-in-68
returns-in-68 c =
    let a = c.args in
    leaves-as (numbered-deliver a.letter a.number a.rest.now c.in-68.is) c.deliver.ensures

pub returns-in-82 : goal.returns-in-82
returns-in-82 c =
    let a = c.args in
    leaves-as (numbered-kept a.letter a.number a.rest.now (λ e. omega arith) (λ e. omega arith) (λ e. omega arith)) (leaves_kept c.read.ensures)

pub returns-in-87 : goal.returns-in-87
returns-in-87 c =
    let a = c.args in
    leaves-as (numbered-kept a.letter a.number a.rest.now (λ e. omega arith) (λ e. omega arith) (λ e. omega arith)) (leaves_kept c.write_capture.ensures)

pub returns-in-88 : goal.returns-in-88
returns-in-88 c =
    let a = c.args in
    leaves-as (numbered-kept a.letter a.number a.rest.now (λ e. omega arith) (λ e. omega arith) (λ e. omega arith)) (leaves_kept c.close.ensures)

pub returns-in-76 : goal.returns-in-76
returns-in-76 c =
    let a = c.args in
    leaves-as (numbered-kept a.letter a.number a.rest.now (λ e. omega arith) (λ e. omega arith) (λ e. omega arith)) (leaves_kept c.look_up.ensures)

pub returns-in-85 : goal.returns-in-85
returns-in-85 c =
    let a = c.args in
    leaves-as (numbered-withdraw a.letter a.number a.rest.now c.in-85.is) c.withdraw.ensures

pub returns-in_default : goal.returns-in_default
returns-in_default c =
    let a = c.args in
    leaves-as
    (numbered-kept a.letter a.number a.rest.now (λ e. omega arith) (λ e. omega arith) (λ e. omega arith))
    (leaves_kept refl)
