-- `decode_table_below` meets its contract: each return is a case of table decoding with a threshold, and the tests on the way say which.
use mathlib.Core.Path.{sym}
use mathlib.Core.Logic.{inl, inr}
use native.Mathlib.Omega.{arith}
use Rattle.std.proofs.lemmas.Result.{err_from_is_err_and}
use Rattle.refusals.specs.Numbers.{never-accepted}
use Rattle.book64.specs.Modem64.{modem64}
use Rattle.book.specs.closing.Closing.{refused_closing}
use Rattle.book.proofs.tables.Below.{below-refused, below-doubt}
use Rattle.answering.specs.Checks.{passed, refused}
use Rattle.doubt.specs.Picked.{picked-in}
use Rattle.answering.specs.Below.{below-askable, below-answers}
use Rattle.threshold_decoding.proofs.decode_table_below.Goals as goal

pub returns-in_err-checks : goal.returns-in_err-checks
returns-in_err-checks c =
    let p = err_from_is_err_and c.from_residual.result c.from_residual.ensures.1 in
    rw (p.1, p.2) (refused modem64 _ _ _ _ _ c.in_err-checks.ensures (never-accepted _) (below-refused modem64 _ _ _ _ _ _))

pub returns-then-most-lt1 : goal.returns-then-most-lt1
unfolding refused_closing
returns-then-most-lt1 c =
    let k = passed modem64 _ _ _ _ _ c.in_ok-checks.ensures (omega arith) in
    sym (below-doubt modem64 _ _ _ _ _ _ k.rated k.whole k.long k.whole_report (inl (omega arith)))

pub returns-then-most-gt-MOST_DOUBT : goal.returns-then-most-gt-MOST_DOUBT
unfolding refused_closing
returns-then-most-gt-MOST_DOUBT c =
    let k = passed modem64 _ _ _ _ _ c.in_ok-checks.ensures (omega arith) in
    sym (below-doubt modem64 _ _ _ _ _ _ k.rated k.whole k.long k.whole_report (inr (omega arith)))

pub decode-requires : goal.decode-requires
decode-requires c =
    let k = passed modem64 _ _ _ _ _ c.in_ok-checks.ensures (omega arith) in (
      record {
        askable =
            below-askable modem64 _ _ _ (omega arith) c.fill.ensures
            (picked-in (c.doubtful_below_by-picked.ensures _ c.summary_of-summary.ensures)) _ k.rated;
        message_long = k.long;
        report_long = k.whole_report;
      },
      c.summary_of-summary.ensures,
    )

pub returns : goal.returns
returns c =
    let k = passed modem64 _ _ _ _ _ c.in_ok-checks.ensures (omega arith) in
    below-answers modem64 _ _ _ (omega arith)
    c.fill.ensures
    (picked-in (c.doubtful_below_by-picked.ensures _ c.summary_of-summary.ensures)) _ k.rated (omega arith) _ _ k.whole k.long
    k.whole_report c.decode.ensures
