-- `open_table` meets its contract: each return is a case of opening with a table, and the tests on the way say which.
use Rattle.std.specs.Prelude.{Ok, Err}
use borrow.Author.Rules.{rules}
use mathlib.Core.Path.{◌≡◌, refl, ap, ◌∙◌, subst}
use Rattle.refusals.specs.Numbers.{never-accepted}
use Rattle.session.specs.Calls.{Ending, started, opened_of, Opening, refused_with}
use Rattle.session.specs.Laws.{opening-as, opened-refused}
use Rattle.captures.specs.Calls.{open_table}
use Rattle.captures.proofs.Answered.{as-book, table-refused, table-sized, table-opened}
use Rattle.captures.proofs.open_table.Goals as goal

pub returns-in_err-opened : goal.returns-in_err-opened
returns-in_err-opened c =
    let same : c.from_residual.result ≡ Err c.in_err-opened.field-0.0 = search rules in
    let e : started (Err c.in_err-opened.field-0.0) ≡ opened_of c.args.rate c.args.doubtful.now = c.in_err-opened.ensures in
    let number = ap (λ (o : Ending). o.refusal) e in
    opening-as (ap started same ∙ e)
    (subst (λ (o : Ending). Opening (open_table c.args.rate c.args.doubtful.now c.args.table.now) o) (opened-refused _ _ (λ n. never-accepted _ (number ∙ n)))
    (table-refused _ _ _ (opened_of c.args.rate c.args.doubtful.now) refl (λ n. never-accepted _ (number ∙ n))))

pub returns-then-table-ne-TABLE_BYTES : goal.returns-then-table-ne-TABLE_BYTES
unfolding refused_with
returns-then-table-ne-TABLE_BYTES c =
    table-sized _ _ _ (started (Ok c.in_ok-opened.opened)) c.in_ok-opened.ensures refl c.if-table-ne-TABLE_BYTES.true

pub deliver_columns-requires : goal.deliver_columns-requires
deliver_columns-requires c = (as-book _ _ (started (Ok c.in_ok-opened.opened)) c.in_ok-opened.ensures).good

pub returns : goal.returns
returns c =
    table-opened _ _ _ (started (Ok c.in_ok-opened.opened)) c.in_ok-opened.ensures refl c.if-table-ne-TABLE_BYTES.false _ c.costs_from-costs.ensures
    (started c.deliver_columns.result) c.deliver_columns.ensures
