-- `checks` meets its contract: each return is a case of the checks, and the tests on the way say which.
use mathlib.Core.Bool.{true}
use mathlib.Core.Path.{◌≡◌, sym, ◌∙◌}
use mathlib.Core.Logic.{inl, inr}
use Rattle.code.specs.Encoding.{known_rate}
use Rattle.book64.specs.Modem64.{modem64}
use Rattle.book.proofs.tables.Table.{checks-size, checks-fit}
use Rattle.checking.proofs.checks.Goals as goal

pub returns-then-given-wanted : goal.returns-then-given-wanted
returns-then-given-wanted c =
    let known : known_rate c.args.rate ≡ true =
    sym c.known_rate.ensures ∙ c.if-not-known_rate.false in
    sym (checks-size modem64 _ _ _ _ _ (known) (inl c.if-given-wanted.true))

pub returns-then-message-rate : goal.returns-then-message-rate
returns-then-message-rate c =
    let known : known_rate c.args.rate ≡ true =
    sym c.known_rate.ensures ∙ c.if-not-known_rate.false in
    sym (checks-size modem64 _ _ _ _ _ (known) (inr (inl c.if-message-rate.true)))

pub returns-then-report-ne-REPORT_BYTES : goal.returns-then-report-ne-REPORT_BYTES
returns-then-report-ne-REPORT_BYTES c =
    let known : known_rate c.args.rate ≡ true =
    sym c.known_rate.ensures ∙ c.if-not-known_rate.false in
    sym (checks-size modem64 _ _ _ _ _ (known) (inr (inr c.if-report-ne-REPORT_BYTES.true)))

pub returns : goal.returns
returns c =
    let known : known_rate c.args.rate ≡ true =
    sym c.known_rate.ensures ∙ c.if-not-known_rate.false in
    sym (checks-fit modem64 _ _ _ _ _ (known) c.if-given-wanted.false c.if-message-rate.false c.if-report-ne-REPORT_BYTES.false)
