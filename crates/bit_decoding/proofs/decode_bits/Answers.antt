-- `decode_bits` meets its contract: each return is a case of decoding from bit values, and the tests on the way say which.
use mathlib.Core.Path.{sym}
use native.Mathlib.Omega.{arith}
use Rattle.std.proofs.Common.{ap, ◌∙◌, length}
use Rattle.std.proofs.lemmas.Result.{err_from_is_err_and}
use Rattle.refusals.specs.Numbers.{never-accepted}
use Rattle.soft.specs.Bits.{bits}
use Rattle.soft.proofs.BitsLaws.{bit-costs-length}
use Rattle.book64.specs.Modem64.{modem64}
use Rattle.book.specs.closing.Closing.{refused_closing}
use Rattle.book.proofs.tables.Bits.{bits-refused, bits-doubt}
use Rattle.book64.specs.Here.{power}
use Rattle.answering.specs.Checks.{passed, refused}
use Rattle.answering.specs.Made.{bits-answers}
use Rattle.table_decoding.specs.Costs.{in-front, decoded-front}
use Rattle.bit_decoding.proofs.decode_bits.Goals as goal

pub returns-in_err-checks : goal.returns-in_err-checks
returns-in_err-checks c =
    let p = err_from_is_err_and c.from_residual.result c.from_residual.ensures.1 in
    rw (p.1, p.2) (refused modem64 _ _ _ _ _ c.in_err-checks.ensures (never-accepted _) (bits-refused modem64 bits _ _ _ _ _))

pub returns-then-doubt-gt-MOST_DOUBT : goal.returns-then-doubt-gt-MOST_DOUBT
unfolding refused_closing
returns-then-doubt-gt-MOST_DOUBT c =
    let k = passed modem64 _ _ _ _ _ c.in_ok-checks.ensures (omega arith) in
    sym (bits-doubt modem64 bits _ _ _ _ _ k.rated k.whole k.long k.whole_report c.if-doubt-gt-MOST_DOUBT.true)

pub decode_costs-requires : goal.decode_costs-requires
decode_costs-requires c =
    let k = passed modem64 _ _ _ _ _ c.in_ok-checks.ensures (omega arith) in
    (k.rated, ap length c.fill_table.ensures ∙ bit-costs-length bits _ 64, c.if-doubt-gt-MOST_DOUBT.false, k.long, k.whole_report)

pub returns : goal.returns
returns c =
    let k = passed modem64 _ _ _ _ _ c.in_ok-checks.ensures (omega arith) in
    bits-answers modem64 bits power _ _ c.if-doubt-gt-MOST_DOUBT.false c.fill_table.ensures
    (in-front _ c.if-doubt-gt-MOST_DOUBT.false _) _ k.rated _ _ k.whole k.long k.whole_report
    (decoded-front _ c.if-doubt-gt-MOST_DOUBT.false _ _ _ _ c.decode_costs.ensures)
