-- From what the search found to what decoding answers: `answering` Answered, by the struct that the search returns.
--
--   found-asked        the search may be asked where it found somebody
--   somebody           then its message is that of the answer
--   tests-few          so at most 4,096 test words have a codeword within T, and their count fits two bytes
--   answered-none      nobody found: refused with 12 where too many places are blank, and else with 9, the buffers as they were
--   decoded-near       somebody near: the message and the report, from the steps of the code
use mathlib.Core.Path.{◌≡◌, refl, ap}
use mathlib.Core.List.{List}
use Prim.Native.Nat.{ℕ, ◌-◌, ◌^◌, ◌≤◌}
use native.Mathlib.Omega.{arith}
use lib.ListN.{length, take, length-take}
use Rattle.refusals.specs.Refusal.{accepted}
use Rattle.lists.specs.Count.{bit, count}
use Rattle.lists.specs.Over.{over}
use Rattle.soft.specs.Column.{places, symbols, column_of}
use Rattle.soft.specs.Blank.{flag_at}
use Rattle.soft.specs.Doubt.{most_doubt}
use Rattle.soft.specs.Total.{pinned_of, changed_flags, report_of}
use Rattle.soft.specs.Mark.{is_marked}
use Rattle.answer.specs.Margin.{Margin, margin_is}
use Rattle.code.specs.Encoding.{encode_of, most_rate}
use Rattle.near.specs.Here.{m_of, blank_limit, blanks_in}
use Rattle.book64.specs.Modem64.{modem64}
use Rattle.book.specs.tables.Table.{closed}
use Rattle.book64.specs.Here.{decode_of}
use Rattle.answer.specs.declared.Answer.TheVariants.{NoneNear, Near}
use Rattle.answers.specs.declared.Finding.{Finding}
use Rattle.search.specs.Result.{total_is, total-near, nothing_found}
use Rattle.answers.specs.Nearest.{nearest-nobody, nearest-somebody, nearest-margin}
use Rattle.answering.specs.Answered.{Somebody, found-open}
use Rattle.answering.specs.Answered as Answering
use Rattle.chase.specs.Call.{Asked, NearestCall}
use Rattle.decoding.specs.Asked.{Askable, asked-open, unasked-blank}
use Rattle.decoding.specs.Decoding.{unanswered_of}

module _ {rate : ℕ} {costs doubtful : List ℕ} {doubt : ℕ} (askable : Askable rate costs doubtful doubt) {f : Finding}
    (call : NearestCall rate costs doubtful doubt f) where
  abbrev columns : ℕ → List ℕ
  columns = column_of symbols costs

  abbrev list : List ℕ
  list = take doubt doubtful

  -- what is not asked finds nobody
  pub found-asked : (t : ℕ) (margin : Margin) → f.answer ≡ Near t margin → Asked rate costs doubtful doubt
  unfolding nothing_found total_is
  found-asked t margin e =
      asked-open rate costs doubtful doubt askable
      (found-open (blanks_in columns) (blank_limit rate)
      (λ h. ap (λ (g : Finding). total_is g.answer) (call.refused (unasked-blank rate costs doubtful doubt h))) (total-near e))

  somebody : (t : ℕ) (margin : Margin) → f.answer ≡ Near t margin
      → Somebody modem64 rate columns list (take rate f.message) t (margin_is margin) f.tests
  somebody t margin e =
      let asked = found-asked t margin e in
      let near = call.asked asked in
      let found = nearest-somebody near t (total-near e) in
      record { few_blank = asked.few_blank; answer = found.0; total = found.1; margin = nearest-margin near t margin e; count = near.count }

  pub tests-few : (t : ℕ) (margin : Margin) → f.answer ≡ Near t margin → f.tests ≤ 2 ^ most_doubt
  tests-few t margin e =
      Answering.tests-few modem64 rate columns list (somebody t margin e) (omega (arith, length-take doubt doubtful, askable.few))

  module _ (message report : List ℕ) where
    pub answered-none : f.answer ≡ NoneNear → {r : ℕ} → r ≡ unanswered_of rate columns
        → closed r message report ≡ decode_of rate columns list message report
    answered-none e u =
        Answering.answered-none modem64 rate columns list
        (λ h. nearest-nobody (call.asked (asked-open rate costs doubtful doubt askable h)) e) message report u

    pub decoded-near : {t pinned changed far mark : ℕ} {margin : Margin} {message' word flags bytes report' : List ℕ} → f.answer ≡ Near t margin
        → length message ≡ rate → length f.message ≡ most_rate → rate ≤ most_rate → message' ≡ over f.message message
        → word ≡ encode_of rate (take rate f.message) → pinned ≡ pinned_of places columns word
        → flags ≡ changed_flags places columns word → changed ≡ count places (flag_at flags) → far ≡ places - m_of rate
        → mark ≡ bit (is_marked places far columns word)
        → bytes ≡ report_of 1 t f.tests pinned changed (margin_is margin) mark → length report ≡ length bytes → report' ≡ over bytes report
        → closed accepted message' report' ≡ decode_of rate columns list message report
    decoded-near {t} {margin = margin} e long size small =
        Answering.decoded-near modem64 rate columns list (somebody t margin e) message report f.message refl long (omega arith)
