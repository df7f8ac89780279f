-- The cases of two answers.
use mathlib.Core.Path.{refl, ap}
use Rattle.answers.specs.Result.{fields_of, finding_of}
use Rattle.search.specs.Joining.{join-other, join_first, join-less, join-greater, join-equal}
use borrow.Author.Rules.{rules}
use Rattle.answers.proofs.better.Goals as goal

pub returns-in_default : goal.returns-in_default
returns-in_default c = ap finding_of (join-other _ _ _ _ (search rules) refl refl refl refl)

pub returns-in_default-answer : goal.returns-in_default-answer
returns-in_default-answer c = ap finding_of (join_first _ _ _ _ _ _ (search rules) c.in-Near.is c.in-Near.is refl refl refl)

pub returns-in-Less : goal.returns-in-Less
returns-in-Less c =
    let r = c.near.ensures in
    ap finding_of
    (join-less _ _ _ _ _ _ _ c.in-Near.is c.in-Near-answer.is (fields_of c.near.result) r.tests _ c.cmp.ensures c.in-Less.is c.lesser.ensures r.answer r.message r.codeword)

pub returns-in-Greater : goal.returns-in-Greater
returns-in-Greater c =
    let r = c.near-in-Greater.ensures in
    ap finding_of
    (join-greater _ _ _ _ _ _ _ c.in-Near.is c.in-Near-answer.is (fields_of c.near-in-Greater.result) r.tests _ c.cmp.ensures c.in-Greater.is c.lesser-in-Greater.ensures
    r.answer r.message r.codeword)

pub returns-in-Equal : goal.returns-in-Equal
returns-in-Equal c =
    let r = c.near-in-Equal.ensures in
    ap finding_of
    (join-equal _ _ _ _ _ _ _ c.in-Near.is c.in-Near-answer.is (fields_of c.near-in-Equal.result) r.tests _ c.cmp.ensures c.in-Equal.is c.lesser-in-Equal.ensures
    r.answer r.message r.codeword)
