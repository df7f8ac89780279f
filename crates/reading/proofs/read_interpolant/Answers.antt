-- `reading::read_interpolant` meets its contract: the flags and the word of best symbols give the book's settled places, so the bytes are the book's; a record that fails a later test is of no session from opening.
use mathlib.Core.Bool.{true, true≢false}
use mathlib.Core.Path.{◌≡◌, sym, ap, ◌∙◌}
use native.Mathlib.Omega.{arith}
use lib.ListN.{length}
use lib.Seq.{length-take-le}
use borrow.Author.Rules.{rules}
use Rattle.lists.specs.Over.{over-same}
use Rattle.soft.specs.Doubt.{most_doubt}
use Rattle.interpolant.proofs.Reading.{reading-size}
use Rattle.code.specs.Encoding.{known_rate}
use Rattle.code.specs.Rates.{known-bounds}
use Rattle.session.specs.declared.Session.{Session}
use Rattle.session.specs.AnsweringLaws.{reading-by-hand, reading-wrong-size, reading-read}
use Rattle.reading.proofs.Settling.{session-reading}
use Rattle.reading.proofs.read_interpolant.Goals as goal

pub returns-then-out-ne-READING : goal.returns-then-out-ne-READING
returns-then-out-ne-READING c = reading-wrong-size _ _ c.if-out-ne-READING.true

pub returns-then-not-known_rate : goal.returns-then-not-known_rate
returns-then-not-known_rate c =
    reading-by-hand _ _ _
    (λ good. true≢false (sym good.rate_known ∙ sym c.known_rate.ensures ∙ c.if-not-known_rate.true))

pub returns-then-doubt-gt-MOST_DOUBT : goal.returns-then-doubt-gt-MOST_DOUBT
returns-then-doubt-gt-MOST_DOUBT c = reading-by-hand _ _ _ (λ good. omega (arith, good.doubt_fits, c.if-doubt-gt-MOST_DOUBT.true))

pub slice_bounds-doubtful-end : goal.slice_bounds-doubtful-end
slice_bounds-doubtful-end c =
    let l : length c.args.session.doubtful ≡ most_doubt = search rules in
    omega (arith, c.if-doubt-gt-MOST_DOUBT.false)

pub slice_bounds-flags-end : goal.slice_bounds-flags-end
slice_bounds-flags-end c =
    let s : Session = c.args.session in
    sym (length-take-le s.doubt s.doubtful (let l : length c.args.session.doubtful ≡ most_doubt = search rules in
    omega (arith, c.if-doubt-gt-MOST_DOUBT.false)))

pub reading-bytes-requires : goal.reading-bytes-requires
reading-bytes-requires c =
    let known : known_rate c.args.session.rate ≡ true =
    sym c.known_rate.ensures ∙ c.if-not-known_rate.false in
    omega (arith, known-bounds _ (known))

pub returns : goal.returns
returns c =
    let s : Session = c.args.session in
    let sized = c.if-out-ne-READING.false in
    let size = ap length c.reading-bytes.ensures ∙ reading-size _ _ in
    let read = c.copy.ensures ∙ over-same _ _ (sized ∙ sym size) ∙ c.reading-bytes.ensures in
    reading-read s _ _ sized (ap length read ∙ reading-size _ _)
    (λ good. read ∙ session-reading s good _ _ _ c.best_word-word.ensures c.open_places-counts.ensures c.flags-settled.ensures)
