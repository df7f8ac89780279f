-- How a call comes to answer as the book does, case by case, for a session of any kind.
--
--   reading-wrong-size, reading-read     the two cases of reading
--   closing-wrong-size, closing-early, closing-decoded   the three cases of closing: it decodes the table's columns by the doubtful list
--   reading-by-hand, closing-by-hand     of a session record that was built by hand nothing is asked but that a refusal leaves the buffers as they were
use Rattle.std.specs.Prelude.{true, false, ◌≡◌, refl, List, ◌≢◌, ◌⊎◌, ℕ, length, take}
use Rattle.std.proofs.Math.Path.{sym, ap}
use Rattle.std.proofs.Common.{◌∙◌}
use Rattle.refusals.specs.Refusal.{accepted, wrong_size, place_missing}
use Rattle.soft.specs.Column.{symbols, column_of}
use Rattle.near.specs.Here.{m_of}
use Rattle.interpolant.specs.LeastQ.{reading_of, reading_length}
use Rattle.book64.specs.Modem64.{modem64}
use Rattle.book64.specs.readings.Reading.{settled_of}
use Rattle.book64.proofs.readings.ReadingLaws.{read-size, read-accepted}
use Rattle.book.specs.closing.Closing.{Closed}
use Rattle.book64.specs.Here.{report_length, decode_of}
use Rattle.book64.specs.calls.Calls.{read}
use Rattle.book64.proofs.calls.Calls.{others64}
use Rattle.session.specs.declared.Session.{Session}
use Rattle.session.specs.View.{keeping, all_taken, book_of, Good}
use Rattle.session.specs.Answering.{Reading, Closing}
use Rattle.calls.specs.Held as Fields
use Rattle.calls.specs.PromiseLaws as laws

module _ (s : Session) (out : List ℕ) where
  pub reading-by-hand : (r : ℕ) → (Good s → ⊥) → Reading s out r out
  reading-by-hand = laws.asking-by-hand modem64 keeping others64 s (read out)

  pub reading-wrong-size : length out ≢ reading_length → Reading s out wrong_size out
  reading-wrong-size h =
      laws.asking-answered modem64 keeping others64 s (read out) wrong_size out (λ good. read-size (book_of s) out h) (λ n. refl) refl

  pub reading-read : (after : List ℕ) → length out ≡ reading_length → length after ≡ reading_length
      → (Good s → after ≡ reading_of (m_of s.rate) (settled_of (book_of s))) → Reading s out accepted after
  unfolding Fields.book_of
  reading-read after h l e =
      laws.asking-answered modem64 keeping others64 s (read out) accepted after
      (λ good. read-accepted (book_of s) out h ∙ ap (λ bytes. record { number = accepted; bytes = bytes }) (sym (e good)))
      (λ n. absurd (n refl)) (l ∙ sym h)

module _ (s : Session) (message report : List ℕ) where
  -- what closing answers by the table's columns and the doubtful list
  abbrev pub decoded : Closed
  decoded = decode_of s.rate (column_of symbols s.costs) (take s.doubt s.doubtful) message report

  pub closing-by-hand : (r : ℕ) → (Good s → ⊥) → Closing s message report r message report
  closing-by-hand = laws.closing-by-hand modem64 keeping s message report

  pub closing-wrong-size : (length message ≢ s.rate) ⊎ (length report ≢ report_length) → Closing s message report wrong_size message report
  closing-wrong-size = laws.closing-wrong-size modem64 keeping s message report

  module _ (long : length message ≡ s.rate) (whole_report : length report ≡ report_length) where
    pub closing-early : all_taken s.taken ≡ false → Closing s message report place_missing message report
    closing-early = laws.closing-early modem64 keeping s message report long whole_report

    pub closing-decoded : all_taken s.taken ≡ true → {c : Closed} → c ≡ decoded → Closing s message report c.number c.message c.report
    closing-decoded h e = laws.closing-decoded modem64 keeping s message report long whole_report h e
