-- `read_back` meets its contract: the message extracted is the only one that can encode to the word, so one comparison decides.
use mathlib.Core.Bool.{false≢true}
use mathlib.Core.Path.{sym, ap, ◌∙◌}
use native.Mathlib.Omega.{arith}
use Rattle.lists.specs.Over.{over-same}
use Rattle.code.specs.Encoding.{known_rate}
use Rattle.family.specs.Answers.{read-rate, read_word, read-buffer, read-symbol, read-refused, read_done}
use Rattle.family.specs.Calls.{outcome}
use Rattle.code.specs.Rates.{known_small, known-few}
use borrow.Author.Rules.{rules}
use Rattle.family.specs.Member.{m16}
use Rattle.reading_back.proofs.Shown.{found-long, front-is, front-long, again-is}
use Rattle.reading_back.proofs.read_back.Goals as goal

pub returns-then-not-known_rate : goal.returns-then-not-known_rate
returns-then-not-known_rate c = read-rate m16 known_rate _ _ _ (sym c.known_rate.ensures ∙ c.if-not-known_rate.true)

pub returns-then-word-ne64 : goal.returns-then-word-ne64
returns-then-word-ne64 c =
    let known = sym c.known_rate.ensures ∙ c.if-not-known_rate.false in
    read_word m16 known_rate _ _ _ known c.if-word-ne64.true

pub returns-then-message-rate : goal.returns-then-message-rate
returns-then-message-rate c =
    let known = sym c.known_rate.ensures ∙ c.if-not-known_rate.false in
    read-buffer m16 known_rate _ _ _ known c.if-word-ne64.false c.if-message-rate.true

pub returns-then-not-symbols_only : goal.returns-then-not-symbols_only
returns-then-not-symbols_only c =
    let known = sym c.known_rate.ensures ∙ c.if-not-known_rate.false in
    read-symbol m16 known_rate _ _ _ known c.if-word-ne64.false c.if-message-rate.false (sym c.symbols_only.ensures ∙ c.if-not-symbols_only.true)

pub extracted-found-requires : goal.extracted-found-requires
extracted-found-requires c = (search rules, sym c.symbols_only.ensures ∙ c.if-not-symbols_only.false)

pub slice_bounds-found-end : goal.slice_bounds-found-end
slice_bounds-found-end c =
    let known = sym c.known_rate.ensures ∙ c.if-not-known_rate.false in
    omega (arith, found-long c.args.rate c.args.word.now c.extracted-found.ensures, known_small _ known)

pub slice_bounds-codeword_of-end : goal.slice_bounds-codeword_of-end
slice_bounds-codeword_of-end c =
    let known = sym c.known_rate.ensures ∙ c.if-not-known_rate.false in
    sym (front-long c.args.rate c.args.word.now c.extracted-found.ensures known)

pub slice_bounds-same-end : goal.slice_bounds-same-end
slice_bounds-same-end c =
    let known = sym c.known_rate.ensures ∙ c.if-not-known_rate.false in
    sym (again-is c.args.rate c.args.word.now c.extracted-found.ensures known c.codeword_of-again.ensures).long

pub returns-then-not-same : goal.returns-then-not-same
returns-then-not-same c =
    let known = sym c.known_rate.ensures ∙ c.if-not-known_rate.false in
    let again = again-is c.args.rate c.args.word.now c.extracted-found.ensures known c.codeword_of-again.ensures in
    read-refused m16 known_rate _ _ _ known c.if-word-ne64.false c.if-message-rate.false (sym c.symbols_only.ensures ∙ c.if-not-symbols_only.false)
    (known-few _ known)
    (λ e. absurd (false≢true (sym c.if-not-same.true ∙ c.same.ensures.1 (again.is ∙ e))))

pub slice_bounds-found-end-2 : goal.slice_bounds-found-end-2
slice_bounds-found-end-2 c =
    let known = sym c.known_rate.ensures ∙ c.if-not-known_rate.false in
    omega (arith, found-long c.args.rate c.args.word.now c.extracted-found.ensures, known_small _ known)

pub slice_bounds-copy-end : goal.slice_bounds-copy-end
slice_bounds-copy-end c =
    let known = sym c.known_rate.ensures ∙ c.if-not-known_rate.false in
    sym (front-long c.args.rate c.args.word.now c.extracted-found.ensures known)

pub shape_of-message : goal.shape_of-message
shape_of-message c = c.copy.auto.into

pub returns : goal.returns
returns c =
    let known = sym c.known_rate.ensures ∙ c.if-not-known_rate.false in
    let again = again-is c.args.rate c.args.word.now c.extracted-found.ensures known c.codeword_of-again.ensures in
    ap (outcome 0)
    (c.copy.ensures ∙ over-same _ _ (c.if-message-rate.false ∙ sym (front-long c.args.rate c.args.word.now c.extracted-found.ensures known)) ∙ front-is c.args.rate c.args.word.now c.extracted-found.ensures known)
    ∙ read_done m16 known_rate _ _ _ known c.if-word-ne64.false c.if-message-rate.false (sym c.symbols_only.ensures ∙ c.if-not-symbols_only.false)
    (known-few _ known)
    (sym again.is ∙ c.same.ensures.0 c.if-not-same.false)
