-- `decode` meets its contract: what the search found is the answer, and the report is that of its codeword.
use mathlib.Core.Path.{◌≡◌, refl, sym, ◌∙◌}
use native.Mathlib.Omega.{arith}
use lib.ListN.{length}
use Rattle.soft.specs.Column.{places}
use Rattle.code.specs.Encoding.{most_rate}
use Rattle.code.specs.Rates.{known-bounds}
use Rattle.candidate.specs.Ranged.{known-range}
use Rattle.book64.specs.Here.{report_length}
use Rattle.answers.specs.Result.{total-near}
use Rattle.chase.specs.Laws.{nearest-call}
use Rattle.book64.specs.Modem64.{modem64}
use Rattle.answering.specs.Answered.{markable}
use Rattle.decoding.proofs.Answered.{tests-few, answered-none, decoded-near}
use borrow.Author.Rules.{rules}
use Rattle.decoding.proofs.decode.Goals as goal

pub nearest_by-found-requires : goal.nearest_by-found-requires
nearest_by-found-requires c = c.requires.1

pub returns-in_default : goal.returns-in_default
returns-in_default c =
    answered-none c.requires.0.askable
    (nearest-call _ _ _ _ _ c.nearest_by-found.ensures) _ _ c.in_default.is (c.unanswered.ensures _ c.requires.1.counts)

pub slice_bounds-mark-end : goal.slice_bounds-mark-end
slice_bounds-mark-end c =
    let word_room : length c.nearest_by-found.result.codeword ≡ places =
    search rules in
    sym (word_room)

pub invariant_of-of_rate : goal.invariant_of-of_rate
invariant_of-of_rate c = record { ranged = known-range _ c.requires.0.askable.known }

pub invariant_of-of_rate-2 : goal.invariant_of-of_rate-2
invariant_of-of_rate-2 c = record { ranged = known-range _ c.requires.0.askable.known }

pub mark-mark-requires : goal.mark-mark-requires
mark-mark-requires c =
    let near = nearest-call _ _ _ _ _ c.nearest_by-found.ensures in
    let summed = c.requires.1 in
    let m = markable modem64 _ _ _ (near.encoded _ (total-near c.in-Near.is)) (c.changed_places-flags.ensures _ summed.best summed.counts) refl in
    (record { wide = m.wide; symbol = m.symbol; changed = m.changed; few = omega arith }, summed)

pub overflow_cast-found : goal.overflow_cast-found
overflow_cast-found c =
    omega (arith, tests-few c.requires.0.askable (nearest-call _ _ _ _ _ c.nearest_by-found.ensures) _ _ c.in-Near.is)

pub returns : goal.returns
returns c =
    let found-room : length c.nearest_by-found.result.message ≡ most_rate =
    search rules in
    let report-room : length c.report-bytes.result ≡ report_length =
    search rules in
    let given = c.requires in
    let near = nearest-call _ _ _ _ _ c.nearest_by-found.ensures in
    let answer = c.in-Near.is in
    decoded-near given.0.askable near _ _ answer given.0.message_long (found-room) (known-bounds _ given.0.askable.known).1
    c.copy.ensures (near.encoded _ (total-near answer)) c.pinned-pinned.ensures (c.changed_places-flags.ensures _ given.1.best given.1.counts) c.changed-changed.ensures (search rules) c.mark-mark.ensures c.report-bytes.ensures
    (given.0.report_long ∙ sym (report-room)) c.copy-2.ensures
