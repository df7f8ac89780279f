-- `close` meets its contract: each return is a case of closing, and the tests on the way say which.
use Rattle.std.specs.Prelude.{Ok, Err}
use mathlib.Core.Bool.{true}
use mathlib.Core.Path.{◌≡◌, refl, sym, ap, ◌∙◌}
use native.Mathlib.Omega.{arith}
use lib.ListN.{length, take}
use lib.Seq.{length-take-le}
use Rattle.soft.specs.Doubt.{most_doubt}
use Rattle.book64.specs.Modem64.{modem64}
use Rattle.refusals.specs.Numbers.{never-accepted}
use Rattle.session.specs.declared.Session.{Session}
use Rattle.session.specs.View.{all_taken}
use Rattle.session.specs.Calls.{Ending, started, opened_of}
use Rattle.session.specs.AnsweringLaws.{closing-by-hand, closing-early, closing-decoded}
use Rattle.session.specs.Laws.{opens}
use Rattle.answering.specs.Asked.{askable-fit}
use Rattle.answering.specs.Opened.{fit_opened, opened-fit}
use borrow.Author.Rules.{rules}
use Rattle.closing.proofs.close.Goals as goal

pub returns-then-not-all_taken : goal.returns-then-not-all_taken
returns-then-not-all_taken c =
    closing-early c.args.session _ _ c.if-message-rate.false c.if-report-ne-REPORT_BYTES.false cc

pub returns-then-doubt-gt-MOST_DOUBT : goal.returns-then-doubt-gt-MOST_DOUBT
returns-then-doubt-gt-MOST_DOUBT c = closing-by-hand _ _ _ _ (λ good. omega (arith, good.doubt_fits, c.if-doubt-gt-MOST_DOUBT.true))

pub slice_bounds-doubtful-end : goal.slice_bounds-doubtful-end
slice_bounds-doubtful-end c =
    let l : length c.args.session.doubtful ≡ most_doubt = search rules in
    omega arith

pub slice_bounds-try_open-end : goal.slice_bounds-try_open-end
slice_bounds-try_open-end c =
    let s : Session = c.args.session in
    let l : length s.doubtful ≡ most_doubt = search rules in
    sym (length-take-le s.doubt s.doubtful (omega arith))

pub returns-in_err-try_open : goal.returns-in_err-try_open
returns-in_err-try_open c =
    let s : Session = c.args.session in
    let e : started (Err c.in_err-try_open.field-0.0) ≡ opened_of s.rate (take s.doubt s.doubtful) = c.in_err-try_open.ensures in
    closing-by-hand _ _ _ _
    (λ good. never-accepted _ (fit_opened modem64 _ _ (ap (λ (o : Ending). o.refusal) e ∙ (opens _ _).number) good.rate_known good.list_fit))

pub slice_bounds-summary_of-end : goal.slice_bounds-summary_of-end
slice_bounds-summary_of-end c =
    let table_room : length c.args.session.costs ≡ 1024 =
    search rules in
    sym (table_room)

pub slice_bounds-decode-end : goal.slice_bounds-decode-end
slice_bounds-decode-end c =
    let table_room : length c.args.session.costs ≡ 1024 =
    search rules in
    sym (table_room)

pub decode-requires : goal.decode-requires
decode-requires c =
    let table_room : length c.args.session.costs ≡ 1024 =
    search rules in
    let s : Session = c.args.session in
    let e : started (Ok c.in_ok-try_open.field-0) ≡ opened_of s.rate (take s.doubt s.doubtful) = c.in_ok-try_open.ensures in
    let f = opened-fit modem64 s.rate (take s.doubt s.doubtful) (ap (λ (o : Ending). o.refusal) e ∙ (opens _ _).number) refl in (
      record {
        askable = askable-fit modem64 s.rate s.costs s.doubtful s.doubt f.0 f.1 (table_room) c.if-doubt-gt-MOST_DOUBT.false;
        message_long = c.if-message-rate.false;
        report_long = c.if-report-ne-REPORT_BYTES.false;
      },
      c.summary_of-summary.ensures,
    )

pub returns : goal.returns
returns c =
    let taken : all_taken c.args.session.taken ≡ true = cc in
    closing-decoded _ _ _ c.if-message-rate.false c.if-report-ne-REPORT_BYTES.false taken c.decode.ensures
