-- Each return is the answer that the checks before it lead to.
use mathlib.Core.Path.{sym, ◌∙◌}
use mathlib.Core.Logic.{inl, inr}
use native.Mathlib.Omega.{arith}
use Rattle.code.specs.Rates.{known-bounds}
use Rattle.superframe.specs.Checks.{build-rate, build-size, build-symbol}
use Rattle.superframe.proofs.Built.{build-done}
use Rattle.superframe.proofs.building.build.Goals as goal

pub returns-then-not-known_rate : goal.returns-then-not-known_rate
returns-then-not-known_rate c = sym (build-rate _ _ _ (sym c.known_rate.ensures ∙ c.if-not-known_rate.true))

pub overflow_mul-rate : goal.overflow_mul-rate
overflow_mul-rate c = omega (arith, known-bounds _ (sym c.known_rate.ensures ∙ c.if-not-known_rate.false))

pub returns-then-messages-rate : goal.returns-then-messages-rate
returns-then-messages-rate c = sym (build-size _ _ _ (sym c.known_rate.ensures ∙ c.if-not-known_rate.false) (inl c.if-messages-rate.true))

pub returns-then-frame-ne-FRAME_BYTES : goal.returns-then-frame-ne-FRAME_BYTES
returns-then-frame-ne-FRAME_BYTES c = sym (build-size _ _ _ (sym c.known_rate.ensures ∙ c.if-not-known_rate.false) (inr c.if-frame-ne-FRAME_BYTES.true))

pub returns-then-not-symbols_only : goal.returns-then-not-symbols_only
returns-then-not-symbols_only c = sym (build-symbol _ _ _ (sym c.known_rate.ensures ∙ c.if-not-known_rate.false) c.if-messages-rate.false c.if-frame-ne-FRAME_BYTES.false (sym c.symbols_only.ensures ∙ c.if-not-symbols_only.true))

pub codewords-sent-requires : goal.codewords-sent-requires
codewords-sent-requires c = (sym c.known_rate.ensures ∙ c.if-not-known_rate.false, c.if-messages-rate.false)

pub overflow_cast-rate : goal.overflow_cast-rate
overflow_cast-rate c = omega (arith, known-bounds _ (sym c.known_rate.ensures ∙ c.if-not-known_rate.false))

pub returns : goal.returns
returns c = build-done _ _ _ (sym c.known_rate.ensures ∙ c.if-not-known_rate.false) c.if-messages-rate.false c.if-frame-ne-FRAME_BYTES.false (sym c.symbols_only.ensures ∙ c.if-not-symbols_only.false) c.codewords-sent.ensures c.bytes_of-bytes.ensures c.copy.ensures
