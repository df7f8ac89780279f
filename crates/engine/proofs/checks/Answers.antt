-- The first check that fails, in their order.
use mathlib.Core.Path.{refl, sym, ap, ◌∙◌}
use native.Mathlib.Omega.{arith}
use borrow.Author.Tests.{eq-eqb, ne_eqb}
use Rattle.std.proofs.lemmas.Bool.{false_from_ne_true, false≢true}
use Rattle.near.specs.Here.{blank_limit}
use Rattle.book64.specs.engine.EngineLaws.{checks-rate, checks-size, checks-symbol, checks-list, checks-blank, checks-fit}
use Rattle.engine.proofs.checks.Goals as goal

pub returns-in_default-clause-number : goal.returns-in_default-clause-number
returns-in_default-clause-number c = sym (checks-rate _ _ _ _ _ (false_from_ne_true _ (λ e. false≢true (c.in_default.ensures.known.1 e))))

pub returns-then-word-ne-PLACES-clause-number : goal.returns-then-word-ne-PLACES-clause-number
returns-then-word-ne-PLACES-clause-number c = sym (checks-size _ _ _ _ _ (c.in-Some.ensures.known.0 refl) (rw (ne_eqb _ _ c.if-word-ne-PLACES.true)))

pub returns-then-codeword-ne-PLACES-clause-number : goal.returns-then-codeword-ne-PLACES-clause-number
returns-then-codeword-ne-PLACES-clause-number c = sym (checks-size _ _ _ _ _ (c.in-Some.ensures.known.0 refl) (rw (eq-eqb _ _ c.if-word-ne-PLACES.false, ne_eqb _ _ c.if-codeword-ne-PLACES.true)))

pub returns-then-q-ne-READING-clause-number : goal.returns-then-q-ne-READING-clause-number
returns-then-q-ne-READING-clause-number c = sym (checks-size _ _ _ _ _ (c.in-Some.ensures.known.0 refl) (rw (eq-eqb _ _ c.if-word-ne-PLACES.false, eq-eqb _ _ c.if-codeword-ne-PLACES.false, ne_eqb _ _ c.if-q-ne-READING.true)))

pub returns-then-not-symbols_only-clause-number : goal.returns-then-not-symbols_only-clause-number
returns-then-not-symbols_only-clause-number c = sym (checks-symbol _ _ _ _ _ (c.in-Some.ensures.known.0 refl) (rw (eq-eqb _ _ c.if-word-ne-PLACES.false, eq-eqb _ _ c.if-codeword-ne-PLACES.false, eq-eqb _ _ c.if-q-ne-READING.false)) (sym c.symbols_only.ensures ∙ c.if-not-symbols_only.true))

pub returns-then-not-fit_places-clause-number : goal.returns-then-not-fit_places-clause-number
returns-then-not-fit_places-clause-number c = sym (checks-list _ _ _ _ _ (c.in-Some.ensures.known.0 refl) (rw (eq-eqb _ _ c.if-word-ne-PLACES.false, eq-eqb _ _ c.if-codeword-ne-PLACES.false, eq-eqb _ _ c.if-q-ne-READING.false)) (sym c.symbols_only.ensures ∙ c.if-not-symbols_only.false) (sym c.fit_places.ensures ∙ c.if-not-fit_places.true))

pub returns-then-blank_limit-blanks-clause-number : goal.returns-then-blank_limit-blanks-clause-number
returns-then-blank_limit-blanks-clause-number c = sym (checks-blank _ _ _ _ _ (c.in-Some.ensures.known.0 refl) (rw (eq-eqb _ _ c.if-word-ne-PLACES.false, eq-eqb _ _ c.if-codeword-ne-PLACES.false, eq-eqb _ _ c.if-q-ne-READING.false)) (sym c.symbols_only.ensures ∙ c.if-not-symbols_only.false) (sym c.fit_places.ensures ∙ c.if-not-fit_places.false) (omega (arith, c.blank_limit.ensures, ap blank_limit c.in-Some.ensures.value, c.if-blank_limit-blanks.true)))

pub returns-clause-number : goal.returns-clause-number
returns-clause-number c = sym (checks-fit _ _ _ _ _ (c.in-Some.ensures.known.0 refl) (rw (eq-eqb _ _ c.if-word-ne-PLACES.false, eq-eqb _ _ c.if-codeword-ne-PLACES.false, eq-eqb _ _ c.if-q-ne-READING.false)) (sym c.symbols_only.ensures ∙ c.if-not-symbols_only.false) (sym c.fit_places.ensures ∙ c.if-not-fit_places.false) (omega (arith, c.blank_limit.ensures, ap blank_limit c.in-Some.ensures.value, c.if-blank_limit-blanks.false)))
