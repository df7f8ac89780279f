-- `encode` meets its contract: each return is the answer that the checks before it lead to, and the codeword stands in the lent part.
use mathlib.Core.Bool.{true}
use Rattle.code.specs.Encoding.{known_rate}
use mathlib.Core.Path.{◌≡◌, refl, sym, ◌∙◌}
use native.Mathlib.Omega.{arith}
use lib.ListN.{length-take, length-drop}
use Rattle.family.specs.Member.{m16}
use Rattle.family.specs.Evaluation.{encode-over}
use Rattle.family.specs.Answers.{encode-message, encode-frame, encode-symbol, encode-done}
use Rattle.code.specs.Rates.{longest, known_small}
use Rattle.encoding.proofs.encode.Goals as goal

pub returns-then-message-rate : goal.returns-then-message-rate
returns-then-message-rate c =
    let known : known_rate c.args.rate ≡ true =
    sym c.known_rate.ensures ∙ c.if-not-known_rate.false in
    encode-message m16 known_rate _ _ _ _ (known) c.if-message-rate.true

pub returns-then-frame-lt64 : goal.returns-then-frame-lt64
returns-then-frame-lt64 c =
    let known : known_rate c.args.rate ≡ true =
    sym c.known_rate.ensures ∙ c.if-not-known_rate.false in
    encode-frame m16 known_rate _ _ _ _ (known) c.if-message-rate.false (omega arith)

pub returns-then-frame-start : goal.returns-then-frame-start
returns-then-frame-start c =
    let known : known_rate c.args.rate ≡ true =
    sym c.known_rate.ensures ∙ c.if-not-known_rate.false in
    encode-frame m16 known_rate _ _ _ _ (known) c.if-message-rate.false (omega arith)

pub returns-then-not-symbols_only : goal.returns-then-not-symbols_only
returns-then-not-symbols_only c =
    let known : known_rate c.args.rate ≡ true =
    sym c.known_rate.ensures ∙ c.if-not-known_rate.false in
    encode-symbol m16 known_rate _ _ _ _ (known) c.if-message-rate.false (omega arith)
    (sym c.symbols_only.ensures ∙ c.if-not-symbols_only.true)

pub returns : goal.returns
returns c =
    let known : known_rate c.args.rate ≡ true =
    sym c.known_rate.ensures ∙ c.if-not-known_rate.false in
    let known-rate = known in
    let k = known_small _ known-rate in
    let sized = c.if-message-rate.false in
    encode-done m16 known_rate _ _ _ _ known-rate sized (omega arith) _ _
    (sym c.symbols_only.ensures ∙ c.if-not-symbols_only.false) refl
    (c.encode_into.ensures ∙ encode-over m16 longest _ _ _ (omega (arith, sized)) (omega (arith, sized)) (simp (length-take, length-drop) (omega arith)))
