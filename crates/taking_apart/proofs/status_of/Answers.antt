-- Each return is the answer that the checks before it lead to.
use mathlib.Core.Path.{sym, ap, ◌∙◌}
use native.Mathlib.Omega.{arith}
use Rattle.std.proofs.lemmas.Result.{err_from_is_err_and}
use Rattle.refusals.specs.Numbers.{never-accepted}
use Rattle.lists.specs.Words.{all_below}
use Rattle.soft.specs.Column.{symbols}
use Rattle.code.specs.Rates.{known-bounds}
use Rattle.superframe.specs.Checks.{headed, apart-head, apart-rate, apart-size, apart-symbol}
use Rattle.taking_apart.proofs.Apart.{behind, apart-done}
use Rattle.taking_apart.proofs.status_of.Goals as goal

pub returns-in_err-check_head : goal.returns-in_err-check_head
returns-in_err-check_head c =
    let p = err_from_is_err_and c.from_residual.result c.from_residual.ensures.1 in
    rw (p.1, p.2) (sym (apart-head _ _ (sym c.in_err-check_head.ensures) (never-accepted _)))

pub bounds-frame-3 : goal.bounds-frame-3
bounds-frame-3 c = omega (arith, (headed _ (sym c.in_ok-check_head.ensures)).long)

pub overflow_cast-rate : goal.overflow_cast-rate
overflow_cast-rate c = omega (arith, c.type_inv.frame 3)

pub returns-then-not-known_rate : goal.returns-then-not-known_rate
returns-then-not-known_rate c = sym (apart-rate _ _ (headed _ (sym c.in_ok-check_head.ensures)) (sym c.known_rate.ensures ∙ c.if-not-known_rate.true))

pub overflow_mul-rate : goal.overflow_mul-rate
overflow_mul-rate c = omega (arith, known-bounds _ (sym c.known_rate.ensures ∙ c.if-not-known_rate.false))

pub returns-then-messages-rate : goal.returns-then-messages-rate
returns-then-messages-rate c = sym (apart-size _ _ (headed _ (sym c.in_ok-check_head.ensures)) (sym c.known_rate.ensures ∙ c.if-not-known_rate.false) c.if-messages-rate.true)

pub slice_bounds-symbols_only-count : goal.slice_bounds-symbols_only-count
slice_bounds-symbols_only-count c = omega (arith, (headed _ (sym c.in_ok-check_head.ensures)).long)

pub slice_bounds-symbols_only-start : goal.slice_bounds-symbols_only-start
slice_bounds-symbols_only-start c = omega (arith, (headed _ (sym c.in_ok-check_head.ensures)).long)

pub returns-then-not-symbols_only : goal.returns-then-not-symbols_only
returns-then-not-symbols_only c = sym (apart-symbol _ _ (headed _ (sym c.in_ok-check_head.ensures)) (sym c.known_rate.ensures ∙ c.if-not-known_rate.false) c.if-messages-rate.false (ap (all_below symbols) (behind c.args.frame.now) ∙ sym c.symbols_only.ensures ∙ c.if-not-symbols_only.true))

pub take_words-requires : goal.take_words-requires
take_words-requires c = ((sym c.known_rate.ensures ∙ c.if-not-known_rate.false), (headed _ (sym c.in_ok-check_head.ensures)).long, c.if-messages-rate.false)

pub returns : goal.returns
returns c = apart-done _ _ (headed _ (sym c.in_ok-check_head.ensures)) (sym c.known_rate.ensures ∙ c.if-not-known_rate.false) c.if-messages-rate.false (ap (all_below symbols) (behind c.args.frame.now) ∙ sym c.symbols_only.ensures ∙ c.if-not-symbols_only.false) c.take_words.ensures
