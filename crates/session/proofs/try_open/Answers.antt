-- `session::try_open` meets its contract: each return is a case of opening, and the tests on the way say which.
use mathlib.Core.Path.{sym, ap, ◌∙◌}
use native.Mathlib.Omega.{arith}
use Rattle.code.specs.Rates.{known-bounds}
use Rattle.session.specs.declared.Session.{Session}
use Rattle.book64.specs.Modem64.{modem64}
use Rattle.calls.specs.Scan.{long-unfit, short-fit}
use Rattle.session.specs.Calls.{refused_with}
use Rattle.session.specs.Laws.{opened-list, opened-new}
use Rattle.session.proofs.try_open.Goals as goal

pub returns-then-doubtful-gt-MOST_DOUBT : goal.returns-then-doubtful-gt-MOST_DOUBT
unfolding refused_with
returns-then-doubtful-gt-MOST_DOUBT c =
    sym
    (opened-list _ _
    (sym c.known_rate.ensures ∙ c.if-not-known_rate.false)
    (long-unfit modem64 _ c.if-doubtful-gt-MOST_DOUBT.true))

pub returns-then-not-fit_places : goal.returns-then-not-fit_places
unfolding refused_with
returns-then-not-fit_places c =
    sym
    (opened-list _ _
    (sym c.known_rate.ensures ∙ c.if-not-known_rate.false)
    (short-fit modem64 _ c.if-doubtful-gt-MOST_DOUBT.false ∙ sym c.fit_places.ensures ∙ c.if-not-fit_places.true))

pub overflow_cast-rate : goal.overflow_cast-rate
overflow_cast-rate c =
    omega (
      arith,
      known-bounds _
          (sym c.known_rate.ensures ∙ c.if-not-known_rate.false),
    )

pub returns : goal.returns
returns c =
    ap (λ (s : Session). record { refusal = 0; session = s }) c.new_session.ensures
    ∙ sym
    (opened-new _ _
    (sym c.known_rate.ensures ∙ c.if-not-known_rate.false)
    (short-fit modem64 _ c.if-doubtful-gt-MOST_DOUBT.false ∙ sym c.fit_places.ensures ∙ c.if-not-fit_places.false))
