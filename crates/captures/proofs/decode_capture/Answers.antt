-- `decode_capture` meets its contract: of a refused opening the refusal is handed on, of an accepted one what closing answers.
use Rattle.std.specs.Prelude.{Err}
use borrow.Author.Rules.{rules}
use mathlib.Core.Path.{◌≡◌, ap, ◌∙◌}
use Rattle.refusals.specs.Numbers.{number_in, number_of, never-accepted}
use Rattle.book.specs.tables.Table.{closed}
use Rattle.session.specs.Calls.{started}
use Rattle.captures.specs.Calls.{decode_capture_of}
use Rattle.captures.proofs.Answered.{closed-refused}
use Rattle.captures.proofs.Cases.{decoded_on}
use Rattle.captures.proofs.decode_capture.Goals as goal

pub returns-in_err-opened : goal.returns-in_err-opened
unfolding decode_capture_of
returns-in_err-opened c =
    let same : c.from_residual.result ≡ Err c.in_err-opened.field-0.0 = search rules in
    let number : number_of c.from_residual.result ≡ number_in c.in_err-opened.field-0.0 = ap number_of same in
    ap (λ k. closed k c.args.message.now c.args.report.now) number
    ∙ closed-refused _ (started (Err c.in_err-opened.field-0.0)) c.in_err-opened.ensures _ _ (never-accepted _)

pub returns : goal.returns
returns c = decoded_on _ c.in_ok-opened.opened _ _ _ _ _ c.in_ok-opened.ensures (search rules)
