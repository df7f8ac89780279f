-- A capture opens; arguments too short for a number change nothing; the rest goes by the letter.
use mathlib.Core.Path.{refl}
use Rattle.stream.specs.Changes.{leaves_renewed, leaves_kept}
use Rattle.stream.proofs.Answering.{leaves-as, change-capture, change-short, change-numbered}
use Rattle.stream.proofs.replies.answer.Goals as goal

pub returns-then-letter-eq67 : goal.returns-then-letter-eq67
returns-then-letter-eq67 c =
    let a = c.args in
    leaves-as (change-capture a.letter a.arguments.now c.if-letter-eq67.true) (leaves_renewed c.open_capture.ensures)

pub returns-then-arguments-lt2 : goal.returns-then-arguments-lt2
returns-then-arguments-lt2 c =
    let a = c.args in
    leaves-as (change-short a.letter a.arguments.now c.if-letter-eq67.false c.if-arguments-lt2.true) (leaves_kept refl)

pub returns : goal.returns
returns c =
    let a = c.args in
    leaves-as
    (change-numbered a.letter a.arguments.now c.if-letter-eq67.false
    c.if-arguments-lt2.false c.number-number.ensures)
    c.answer_numbered.ensures
