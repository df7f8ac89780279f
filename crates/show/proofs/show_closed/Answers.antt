-- The lines of a closing are the book's, by what closing ensures of a good session.
use mathlib.Core.Path.{refl, ap, ◌∙◌}
use Prim.Native.Nat.{ℕ}
use native.Mathlib.Omega.{arith}
use lib.ListN.{length, replicate, length-replicate}
use Rattle.refusals.specs.Numbers.{never-accepted}
use Rattle.book64.specs.Here.{report_length}
use Rattle.text.specs.Text.{refused_line}
use Rattle.text.specs.Appended.{appended-as}
use Rattle.show.proofs.Showing.{shows-refused, shows-closed}
use Rattle.show.proofs.show_closed.Goals as goal

pub put_answer-requires : goal.put_answer-requires
put_answer-requires c = (
  c.requires.3,
  omega (arith, c.in-Ok.ensures.message_size, ap length c.requires.1, length-replicate {A = ℕ} c.args.opened.rate 0, c.requires.2),
)

pub returns-in-Ok : goal.returns-in-Ok
returns-in-Ok c =
    appended-as
    (shows-closed c.args.opened c.args.message.now (replicate report_length 0) c.close.new.message c.close.new.report
    _ c.in-Ok.ensures c.requires.0 c.requires.1 refl refl)
    c.put_answer.ensures

pub returns-in-Err : goal.returns-in-Err
returns-in-Err c =
    appended-as
    (ap refused_line c.from.ensures
    ∙ shows-refused c.args.opened c.args.message.now (replicate report_length 0) c.close.new.message c.close.new.report
    _ c.in-Err.ensures c.requires.0 c.requires.1 refl (never-accepted _))
    c.put_refused.ensures
