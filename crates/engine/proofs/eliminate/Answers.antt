-- Refused by a check, none near, or both buffers written.
use mathlib.Core.Path.{sym, ◌∙◌}
use Rattle.std.proofs.lemmas.Result.{err_from_is_err_and}
use Rattle.lists.specs.Padded.{padded-same}
use Rattle.refusals.specs.Numbers.{never-accepted}
use Rattle.book64.specs.engine.EngineLaws.{engine-passed}
use Rattle.engine.proofs.Deciding.{refused-left, may-decide, none_left, some_left}
use Rattle.engine.proofs.eliminate.Goals as goal

pub returns-in_err-open : goal.returns-in_err-open
returns-in_err-open c =
    let p = err_from_is_err_and c.from_residual.result c.from_residual.ensures.1 in
    rw (p.1, p.2) (refused-left _ _ _ _ _ c.in_err-open.ensures.number (never-accepted _))

pub decide-requires : goal.decide-requires
decide-requires c = may-decide _ _ _ _ _ (sym c.in_ok-open.ensures.number) c.in_ok-open.ensures.open

pub returns-in_default : goal.returns-in_default
returns-in_default c =
    none_left _ _ _ _ _ (sym c.in_ok-open.ensures.number) c.in_ok-open.ensures.open
    (c.padded.ensures ∙ padded-same 64 _ (engine-passed _ _ _ _ _ (sym c.in_ok-open.ensures.number)).word_long) c.in_default.ensures

pub returns : goal.returns
returns c =
    some_left _ _ _ _ _ (sym c.in_ok-open.ensures.number) c.in_ok-open.ensures.open
    (c.padded.ensures ∙ padded-same 64 _ (engine-passed _ _ _ _ _ (sym c.in_ok-open.ensures.number)).word_long) c.in-Some.ensures c.copy.ensures c.copy-2.ensures
