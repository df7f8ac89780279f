-- `decode_table` meets its contract: each return is a case of table decoding, and the tests on the way say which.
use native.Mathlib.Omega.{arith}
use Rattle.refusals.specs.Numbers.{never-accepted}
use Rattle.soft.specs.ColumnLaws.{costs-length}
use Rattle.std.proofs.Common.{ap, ◌∙◌, length}
use Rattle.std.proofs.lemmas.Result.{err_from_is_err_and}
use Rattle.book64.specs.Modem64.{modem64}
use Rattle.book.proofs.tables.Table.{checks-refused}
use Rattle.answering.specs.Checks.{passed, refused}
use Rattle.answering.specs.Tabled.{table-answers}
use Rattle.table_decoding.specs.Costs.{in-front, decoded-front}
use Rattle.table_decoding.proofs.decode_table.Goals as goal

pub returns-in_err-checks : goal.returns-in_err-checks
returns-in_err-checks c =
    let p = err_from_is_err_and c.from_residual.result c.from_residual.ensures.1 in
    rw (p.1, p.2) (refused modem64 _ _ _ _ _ c.in_err-checks.ensures (never-accepted _) (checks-refused modem64 _ _ _ _ _))

pub decode_costs-requires : goal.decode_costs-requires
decode_costs-requires c =
    let k = passed modem64 _ _ _ _ _ c.in_ok-checks.ensures (omega arith) in
    (k.rated, ap length c.fill.ensures ∙ costs-length _ _, c.if-doubt-gt-MOST_DOUBT.false, k.long, k.whole_report)

pub returns : goal.returns
returns c =
    let k = passed modem64 _ _ _ _ _ c.in_ok-checks.ensures (omega arith) in
    table-answers modem64 _ _ c.if-doubt-gt-MOST_DOUBT.false c.fill.ensures (in-front _ c.if-doubt-gt-MOST_DOUBT.false _) _ k.rated _ _ k.whole
    k.long k.whole_report (decoded-front _ c.if-doubt-gt-MOST_DOUBT.false _ _ _ _ c.decode_costs.ensures)
